-- `pairs::order::is_apart` meets its contract, by the tests on the way. Assumes nothing.
use Rattle.std.proofs.Common.{sym, ◌∙◌}
use Rattle.pairs.proofs.DifferenceLaws.{apart_told}
use Rattle.pairs.proofs.order.is_apart.Goals as goal

pub returns-then-test : goal.returns-then-test
returns-then-test g c =
    let o = c.args.order.now in
    let e = o.events in
    apart_told c.args.cut e.count g.row.W e.heads.words.now e.seen.now o.ars.now c.mates.result.now c.args.a c.args.b _ e.given o.table c.requires.0 c.requires.1 c.mates.ensures.mates
    (rw (sym c.test.ensures ∙ c.if-test.true, ← c.seen_by.ensures, ← c.before-then-test.ensures, ← c.test-then-test.ensures, ← c.test-then-test-2.ensures))

pub returns-else-test : goal.returns-else-test
returns-else-test g c =
    let o = c.args.order.now in
    let e = o.events in
    apart_told c.args.cut e.count g.row.W e.heads.words.now e.seen.now o.ars.now c.mates.result.now c.args.a c.args.b _ e.given o.table c.requires.0 c.requires.1 c.mates.ensures.mates
    (rw (← c.test.ensures, c.if-test.false))
