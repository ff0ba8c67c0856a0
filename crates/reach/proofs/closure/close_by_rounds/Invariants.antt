-- `reach::closure::close_by_rounds` meets its contract: after k rounds the table has the steps over events below k. Assumes nothing.
use Prim.Native.Nat.{◌-◌, ◌≤◌}
use mathlib.Core.Path.{◌≡◌}
use lib.ListN.{length}
use Rattle.reach.proofs.ClosureLaws.{Rounds}
use Rattle.reach.proofs.closure.close_by_rounds.Given as goal

abbrev pub invariant-loop-k : goal.invariant-loop-k
invariant-loop-k l = (l.k ≤ l.n) × (length l.table ≡ length l.initial.table) × Rounds l.n l.w l.initial.table l.k l.table

abbrev pub decreases-loop-k : goal.decreases-loop-k
decreases-loop-k l = l.n - l.k
