-- `record::openings::hold` meets its contract. Assumes nothing.
use mathlib.Core.Path.{refl}
use Rattle.std.proofs.Common.{◌≡◌, true, false, rules}
use borrow.Author.Tests.{tests}
use Rattle.std.proofs.lemmas.Iterator.{cases_from_all, YieldsList-from_range}
use Rattle.record.specs.Terms.{stray, openings_right}
use Rattle.record.proofs.SearchLaws.{none_from_all}
use Rattle.record.proofs.openings.hold.Goals as goal

pub returns : goal.returns
unfolding openings_right
returns c =
    let wrong = stray c.args.s.now c.args.at in
    none_from_all 32 wrong c.all.result
    (cases_from_all _ _ _ (λ o. wrong o ≡ false) (λ o. wrong o ≡ true) c.all.ensures.ran (YieldsList-from_range 0 32 32 refl refl)
    (λ x q k. search (rules, tests)) (λ x q k. search (rules, tests)))
