-- `calls::lent::Store::close` meets its contract: the loops deliver the lowest put that some site lacks to all that lack it. Assumes nothing.
use Prim.Native.Nat.{◌-◌, ◌≤◌}
use Rattle.rows.specs.Lowest.{lowest}
use Rattle.record.specs.Layout.{most_events}
use Rattle.calls.specs.Lent.{lacked_by_some}
use Rattle.calls.proofs.CloseTurn.{ClosingFrom, CopyingFrom}
use Rattle.calls.proofs.lent.Store.close.Given as goal

abbrev pub invariant-loop-t : goal.invariant-loop-t
invariant-loop-t l = (l.t ≤ l.n) × CopyingFrom l.n l.initial.self l.lacked l.initial.copies l.self l.copies l.t

abbrev pub invariant-loop-lacked : goal.invariant-loop-lacked
invariant-loop-lacked l = ClosingFrom l.n l.fn.self l.self l.copies

abbrev pub decreases-loop-lacked : goal.decreases-loop-lacked
decreases-loop-lacked l = most_events - lowest most_events (lacked_by_some l.self l.n)
