-- `chains::join_rows` meets its contract: `next` has what it had and the rows of what joined `done`; each turn puts a new event into `done`. Assumes nothing.
use Prim.Native.Nat.{◌*◌, ◌-◌}
use Rattle.rows.specs.Row.{count_row}
use Rattle.chains.proofs.JoiningLaws.{Joining}
use Rattle.chains.proofs.join_rows.Given as goal

abbrev pub invariant-loop-m : goal.invariant-loop-m
invariant-loop-m l = Joining l.relation.words.now l.relation.count l.relation.width l.near l.initial.done l.initial.next l.done l.next

abbrev pub decreases-loop-m : goal.decreases-loop-m
decreases-loop-m l = 64 * l.relation.width - count_row l.done
