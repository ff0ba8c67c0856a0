-- `reach::closure::take_in` meets its contract: the rows passed that have k have taken in the row of k. Assumes nothing.
use Prim.Native.Nat.{◌-◌, ◌≤◌}
use Rattle.reach.proofs.ClosureLaws.{Taken}
use Rattle.reach.proofs.closure.take_in.Given as goal

abbrev pub invariant-loop-b : goal.invariant-loop-b
invariant-loop-b l = (l.b ≤ l.n) × Taken l.initial.table l.k l.row l.b l.table

abbrev pub decreases-loop-b : goal.decreases-loop-b
decreases-loop-b l = l.n - l.b
