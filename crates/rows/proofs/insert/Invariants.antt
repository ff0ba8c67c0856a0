-- `rows::insert` meets its contract: the words passed are those of the row with b in it. Assumes nothing.
use lib.ListN.{get_or}
use Rattle.rows.specs.Row.{insert}
use Rattle.rows.proofs.StoredLaws.{Stored}
use Rattle.rows.proofs.insert.Given as goal

abbrev pub invariant-loop-i : goal.invariant-loop-i
invariant-loop-i l = Stored (λ j. get_or (insert l.initial.row l.b) j 0) l.initial.row l.row l.i
