-- `reach::walk::settle_all` meets its contract: the events come of what they were, and all that are passed are settled. Assumes nothing.
use mathlib.Core.Path.{◌≡◌}
use mathlib.Core.Bool.{true}
use Prim.Native.Nat.{ℕ, ◌-◌, ◌<◌, ◌≤◌}
use Rattle.reach.proofs.walk.settle_all.Given as goal

abbrev pub invariant-loop-b : goal.invariant-loop-b
invariant-loop-b g l = (l.b ≤ l.b-end) × g.S.Settling.Comes l.fn.relation l.relation × ((x : ℕ) → x < l.b → g.S.Settling.is_settled l.relation x ≡ true)

abbrev pub decreases-loop-b : goal.decreases-loop-b
decreases-loop-b g l = l.b-end - l.b
