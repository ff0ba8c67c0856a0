-- `reach::rings::lowest_unsettled` meets its contract: no event passed reaches itself, and no settled one does. Assumes nothing.
use mathlib.Core.Path.{◌≡◌}
use mathlib.Core.Bool.{false}
use Prim.Native.Nat.{ℕ, ◌-◌, ◌<◌, ◌≤◌}
use Rattle.rows.specs.Relation.{reaches, related}
use Rattle.reach.proofs.rings.lowest_unsettled.Given as goal

abbrev pub invariant-loop-a : goal.invariant-loop-a
invariant-loop-a l = (l.a ≤ l.relation.count) × ((x : ℕ) → x < l.a → reaches l.relation.count (related l.relation.words.now l.relation.width) x x ≡ false)

abbrev pub decreases-loop-a : goal.decreases-loop-a
decreases-loop-a l = l.relation.count - l.a
