-- `tables::real_time::join_before` meets its contract: the returns passed are in the row, all before t. Assumes nothing.
use mathlib.Core.Path.{◌≡◌}
use Prim.Native.Nat.{ℕ, ◌-◌, ◌<◌}
use lib.ListN.{length, get_or}
use Rattle.rows.specs.Row.{Row}
use Rattle.tables.specs.Sweep.{taken}
use Rattle.tables.proofs.TakenLaws.{Early}
use Rattle.tables.proofs.real_time.join_before.Given as goal

abbrev pub invariant-loop-a : goal.invariant-loop-a
invariant-loop-a l =
    let r = l.initial.returned in
    (l.returned.heads ≡ r.heads) × (l.returned.order ≡ r.order) × (length l.far ≡ length l.initial.far)
    × Early r.heads.words.now r.order.now l.t l.returned.passed
    × ((n : ℕ) → ((i : ℕ) → i < length r.order.now → get_or r.order.now i 0 < n) → Row n (taken r.order.now r.passed) l.initial.far → Row n (taken r.order.now l.returned.passed) l.far)

abbrev pub decreases-loop-a : goal.decreases-loop-a
decreases-loop-a l = length l.returned.order.now - l.returned.passed
