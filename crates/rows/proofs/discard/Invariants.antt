-- `rows::discard` meets its contract: the first i words of `src`, with b in it, are taken out. Assumes nothing.
use mathlib.Core.Path.{◌≡◌}
use lib.ListN.{take}
use Rattle.rows.specs.Row.{insert}
use Rattle.rows.proofs.RowLaws.{and_not, merge}
use Rattle.rows.proofs.discard.Given as goal

abbrev pub invariant-loop-i : goal.invariant-loop-i
invariant-loop-i l = l.dst ≡ merge and_not l.initial.dst (take l.i (insert l.src l.b))
