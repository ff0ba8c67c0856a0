-- `pairs::reads::last_of` meets its contract. The invariant: an event that is no longer in `seen` is not later than x. The measure is what is left of the
-- positions. Assumes nothing.
use Rattle.std.proofs.Common.{◌-◌}
use Rattle.record.specs.Words.{position_in}
use Rattle.pairs.proofs.LatestLaws.{Following}
use Rattle.pairs.proofs.reads.last_of.Given as goal

abbrev pub invariant-loop-later : goal.invariant-loop-later
invariant-loop-later g l = Following g.row.W (position_in l.order.events.heads.words.now) l.initial.seen l.seen l.x

abbrev pub decreases-loop-later : goal.decreases-loop-later
decreases-loop-later g l = l.order.events.count - position_in l.order.events.heads.words.now l.x
