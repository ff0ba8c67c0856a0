use Rattle.std.proofs.Common.{◌<◌, arith}
use Rattle.record.specs.Words.{position_in}
use Rattle.pairs.proofs.LatestLaws.{Following, latest_found, following_more}
use Rattle.pairs.proofs.reads.last_of.Goals.{At-loop-later, In-Some}
use Rattle.pairs.proofs.reads.last_of.Given.{Over}
use Rattle.pairs.proofs.reads.last_of.Goals as goal

pub returns-in_default : goal.returns-in_default
returns-in_default g c =
    let o = c.args.order.now in
    let k = c.loop-later in
    latest_found o.events.count g.row.W o.events.heads.words.now o.ars.now c.args.seen.now k.seen c.remove.new.row k.x o.events.given.placed o.table o.events.given.rows.wide c.requires k.invariant c.remove.ensures
    (rw (← c.before-in-loop-later.ensures) c.in_default.ensures)

-- the next event is later
turn : (g : Over) (c : In-Some g) → let o = c.args.order.now in (position_in o.events.heads.words.now c.loop-later.x < position_in o.events.heads.words.now c.in-Some.later)
    × (position_in o.events.heads.words.now c.in-Some.later < o.events.count) × Following g.row.W (position_in o.events.heads.words.now) c.args.seen.now c.remove.new.row c.in-Some.later
turn g c =
    let o = c.args.order.now in
    let k = c.loop-later in
    following_more o.events.count g.row.W o.events.heads.words.now o.ars.now c.args.seen.now k.seen c.remove.new.row k.x o.events.given.placed o.table o.events.given.rows.wide c.requires k.invariant c.remove.ensures
    (rw (← c.before-in-loop-later.ensures) c.in-Some.ensures)

pub loop-later-smaller : goal.loop-later-smaller
loop-later-smaller g c = omega (arith, (turn g c).0, (turn g c).1)

pub loop-later-preserved : goal.loop-later-preserved
loop-later-preserved g c = (turn g c).2
