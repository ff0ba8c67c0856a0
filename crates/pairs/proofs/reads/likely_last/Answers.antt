-- `pairs::reads::likely_last` meets its contract: whichever it takes is a member. Assumes nothing.
use Rattle.std.proofs.Common.{◌≡◌, ◌∙◌, sym, ap, arith, true, length}
use Rattle.rows.specs.Row.{has}
use Rattle.rows.proofs.RowLaws.{has_within}
use Rattle.rows.proofs.TableLaws.{row_room, length-row}
use Rattle.pairs.proofs.LatestLaws.{lowest-member, lowest_none, highest-member, highest_none}
use Rattle.pairs.proofs.reads.likely_last.Goals.{In_ok-low}
use Rattle.pairs.proofs.reads.likely_last.Given.{Over}
use Rattle.pairs.proofs.reads.likely_last.Goals as goal

low : (g : Over) (c : In_ok-low g) → has c.args.seen.now c.in_ok-low.low ≡ true
low g c = lowest-member c.args.seen.now (sym c.lowest.ensures ∙ c.in_ok-low.was)

high : (g : Over) (c : In_ok-low g) → has c.args.seen.now c.in_ok-high.high ≡ true
high g c = highest-member c.args.seen.now (sym c.highest.ensures ∙ c.in_ok-high.was)

pub returns-in_err-high : goal.returns-in_err-high
returns-in_err-high g c = rw c.from_residual.ensures (highest_none c.args.seen.now (sym c.highest.ensures ∙ c.in_err-high.was))

pub returns-in_err-low : goal.returns-in_err-low
returns-in_err-low g c = rw c.from_residual-in_err-low.ensures (lowest_none c.args.seen.now (sym c.lowest.ensures ∙ c.in_err-low.was))

pub before-requires : goal.before-requires
before-requires g c = (omega arith, c.requires c.in_ok-low.low (low g c))

pub test-requires : goal.test-requires
test-requires g c =
    let o = c.args.order.now in
    let k = (goal.at.test-requires g c).In_ok-low in
    omega (arith, length-row o.ars.now g.row.W c.in_ok-low.low (row_room o.events.count g.row.W c.in_ok-low.low _ (c.requires c.in_ok-low.low (low g k)) o.size), ap length c.before-2.ensures, has_within c.args.seen.now c.in_ok-high.high (high g k))

pub returns-then-test : goal.returns-then-test
returns-then-test g c = low g (goal.at.returns-then-test g c).In_ok-low

pub returns-else-test : goal.returns-else-test
returns-else-test g c = high g (goal.at.returns-else-test g c).In_ok-low
