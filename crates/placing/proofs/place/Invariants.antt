-- `placing::place` meets its contract: after i turns i events are placed, and have their positions. Assumes nothing.
use lib.ListN.{length}
use Rattle.rows.specs.Relation.{related}
use Rattle.placing.proofs.ReadyLaws.{Going}
use Rattle.placing.proofs.place.Given as goal

abbrev pub invariant-loop-i : goal.invariant-loop-i
invariant-loop-i l = Going l.n (related l.table (length l.fn.placed)) l.placed l.order l.i
