-- `chains::fill_near` meets its contract: rows 0 to k are filled, `next` has what row k + 1 is to have, and `done` what row k has. Assumes nothing.
use Prim.Native.Nat.{◌-◌}
use Rattle.chains.proofs.FillingLaws.{Filling}
use Rattle.chains.proofs.fill_near.Given as goal

abbrev pub invariant-loop-done : goal.invariant-loop-done
invariant-loop-done l = Filling l.relation.words.now l.relation.count l.w l.a l.b l.initial.near l.near l.done l.next l.k

abbrev pub decreases-loop-done : goal.decreases-loop-done
decreases-loop-done l = l.relation.count - l.k
