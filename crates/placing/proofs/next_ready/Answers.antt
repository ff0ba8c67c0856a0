-- `placing::next_ready` meets its contract: the first of the events that is ready. Assumes nothing.
use mathlib.Core.Path.{◌≡◌}
use mathlib.Core.Bool.{true, false}
use borrow.Author.Rules.{rules}
use borrow.Author.Tests.{tests}
use Rattle.std.proofs.lemmas.Iterator.{first_from_Range}
use Rattle.rows.specs.Row.{has}
use Rattle.rows.specs.Relation.{related}
use Rattle.rows.specs.Placing.{ready}
use Rattle.rows.proofs.FoundLaws.{first-found}
use Rattle.placing.proofs.next_ready.Goals as goal

pub returns : goal.returns
returns c =
    let r = c.args.before.now in
    let f = ready r.count (related r.words.now r.width) (has c.args.placed.now) in
    first-found r.count f c.find.result
    (first_from_Range (record { start = 0; end = r.count }) _ _ c.find.result (λ k. f k ≡ true) (λ k. f k ≡ false) c.find.ensures.ran (λ x q k. search (rules, tests)) (λ x q k. search (rules, tests)))
