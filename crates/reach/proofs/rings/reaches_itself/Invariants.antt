-- `reach::rings::reaches_itself` meets its contract: `found` is between b's row and what reaches b, and has the rows of `done`; each turn puts a new event into `done`. Assumes nothing.
use Prim.Native.Nat.{◌*◌, ◌-◌}
use Rattle.rows.specs.Row.{count_row}
use Rattle.reach.proofs.ClosingLaws.{Closing}
use Rattle.reach.proofs.rings.reaches_itself.Given as goal

abbrev pub invariant-loop-a : goal.invariant-loop-a
invariant-loop-a l = Closing l.relation.words.now l.relation.count l.relation.width l.b l.found l.done

abbrev pub decreases-loop-a : goal.decreases-loop-a
decreases-loop-a l = 64 * l.relation.width - count_row l.done
