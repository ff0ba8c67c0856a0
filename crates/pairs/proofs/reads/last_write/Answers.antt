-- `pairs::reads::last_write` meets its contract: `seen` has the candidates. Assumes nothing.
use Rattle.std.proofs.Common.{arith}
use Rattle.rows.specs.Row.{Row}
use Rattle.rows.proofs.RowLaws.{row_in}
use Rattle.record.specs.Words.{history_from}
use Rattle.consistency.specs.Reads.{candidate}
use Rattle.pairs.proofs.LatestLaws.{row_candidates, latest_write, latest_below}
use Rattle.pairs.proofs.reads.last_write.Goals.{After-meet}
use Rattle.pairs.proofs.reads.last_write.Given.{Over}
use Rattle.pairs.proofs.reads.last_write.Goals as goal

-- `seen` has the candidates
candidates : (g : Over) (c : After-meet g) → let e = c.args.order.now.events in Row e.count (candidate (history_from e.count g.row.W e.heads.words.now e.seen.now) c.args.e) c.meet.new.dst
candidates g c =
    let e = c.args.order.now.events in
    row_candidates e.count g.row.W e.heads.words.now e.seen.now e.groups.now c.meet.new.dst c.args.e c.object-object.result e.given e.grouped c.requires c.object-object.ensures
    (rw (← c.seen_by.ensures, ← c.group.ensures, ← c.group-2.ensures) c.meet.ensures)

pub last_of-requires : goal.last_of-requires
last_of-requires g c =
    let e = c.args.order.now.events in
    (omega arith, (omega (arith, e.given.narrow), λ x h. (row_in e.count (candidate (history_from e.count g.row.W e.heads.words.now e.seen.now) c.args.e) c.meet.new.dst (candidates g (goal.at.last_of-requires g c).After-meet) x h).0))

pub returns-clause-value : goal.returns-clause-value
unfolding history_from
returns-clause-value g c =
    let e = c.args.order.now.events in
    latest_write (history_from e.count g.row.W e.heads.words.now e.seen.now) c.args.e c.meet.new.dst (candidates g (goal.at.returns-clause-value g c).After-meet) e.given.placed.distinct c.last_of.result c.last_of.ensures

pub returns-clause-found_below : goal.returns-clause-found_below
unfolding history_from
returns-clause-found_below g c =
    let e = c.args.order.now.events in
    latest_below (history_from e.count g.row.W e.heads.words.now e.seen.now) c.args.e c.meet.new.dst (candidates g (goal.at.returns-clause-found_below g c).After-meet) c.last_of.result c.last_of.ensures
