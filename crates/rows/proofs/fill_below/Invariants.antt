-- `rows::fill_below` meets its contract: the words passed are those of the numbers below n. Assumes nothing.
use Rattle.rows.specs.Row.{below_word}
use Rattle.rows.proofs.StoredLaws.{Stored}
use Rattle.rows.proofs.fill_below.Given as goal

abbrev pub invariant-loop-i : goal.invariant-loop-i
invariant-loop-i l = Stored (below_word l.n) l.initial.row l.row l.i
