-- `chains::lowest_after` meets its contract: to what joined `tried` no step leads from e; each turn puts a new event into `tried`. Assumes nothing.
use Prim.Native.Nat.{◌*◌, ◌-◌}
use Rattle.rows.specs.Row.{count_row}
use Rattle.chains.proofs.TryingLaws.{Trying}
use Rattle.chains.proofs.lowest_after.Given as goal

abbrev pub invariant-loop-m : goal.invariant-loop-m
invariant-loop-m l = Trying l.relation.words.now l.relation.width l.e l.near l.without l.tried

abbrev pub decreases-loop-m : goal.decreases-loop-m
decreases-loop-m l = 64 * l.relation.width - count_row l.tried
