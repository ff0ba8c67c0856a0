-- `reach::closure::gather` meets its contract: `row` has the rows of the members that are out of `rest`, which has fewer with each turn. Assumes nothing.
use Prim.Native.Nat.{◌*◌}
use Rattle.rows.specs.Row.{has}
use Rattle.rows.specs.Count.{how_many}
use Rattle.reach.proofs.GatherLaws.{Gathering}
use Rattle.reach.proofs.closure.gather.Given as goal

abbrev pub invariant-loop-a : goal.invariant-loop-a
invariant-loop-a g l = Gathering l.relation.words.now l.relation.count l.relation.width l.initial.rest l.initial.row l.rest l.row

abbrev pub decreases-loop-a : goal.decreases-loop-a
decreases-loop-a g l = how_many (64 * l.relation.width) (has l.rest)
