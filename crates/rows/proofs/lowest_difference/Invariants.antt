-- `rows::lowest_difference` meets its contract: as for `lowest`, of the words `a & !b`. Assumes nothing.
use mathlib.Core.Path.{◌≡◌}
use Prim.Native.Nat.{ℕ, ◌<◌}
use Rattle.rows.proofs.RowLaws.{lacking}
use Rattle.rows.proofs.lowest_difference.Given as goal

abbrev pub invariant-loop-i : goal.invariant-loop-i
invariant-loop-i l = (j : ℕ) → j < l.i → lacking l.a l.b j ≡ 0
