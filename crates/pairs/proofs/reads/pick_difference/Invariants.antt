-- `pairs::reads::pick_difference` meets its contract. The invariant: the words passed have no such member. Assumes nothing.
use Rattle.std.proofs.Common.{◌≡◌, false, ℕ, ◌*◌, ◌≤◌}
use Rattle.rows.specs.Row.{only_first}
use Rattle.pairs.proofs.reads.pick_difference.Given as goal

abbrev pub invariant-loop-i : goal.invariant-loop-i
invariant-loop-i l = (y : ℕ) → 64 * l.i ≤ y → only_first l.a l.b y ≡ false
