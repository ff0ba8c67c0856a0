-- `reach::walk::settle_from` meets its contract: the events come of what they were, and all on the path are among them. Assumes nothing.
use Prim.Native.Nat.{◌-◌, ◌≤◌}
use Rattle.reach.proofs.WalkLaws.{Walk}
use Rattle.reach.proofs.walk.settle_from.Given as goal

abbrev pub invariant-loop : goal.invariant-loop
invariant-loop g l = (l.counter ≤ l.end) × Walk (g.S.Settling.events l.fn.relation) l.b l.e l.path.depth l.path.events × g.S.Settling.Comes l.fn.relation l.relation

abbrev pub decreases-loop : goal.decreases-loop
decreases-loop g l = l.end - l.counter
