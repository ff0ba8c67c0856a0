-- `rows::intersect` meets its contract: the first i words of `src` are and-ed in. Assumes nothing.
use mathlib.Core.Path.{◌≡◌}
use lib.Bits.{bit_and}
use lib.ListN.{take}
use Rattle.rows.proofs.RowLaws.{merge}
use Rattle.rows.proofs.intersect.Given as goal

abbrev pub invariant-loop-i : goal.invariant-loop-i
invariant-loop-i l = l.dst ≡ merge bit_and l.initial.dst (take l.i l.src)
