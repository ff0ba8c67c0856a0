-- `rows::lowest` meets its contract: the lowest set bit of the first word that is not zero is the lowest member. Assumes nothing.
use mathlib.Core.Path.{◌≡◌, ◌∙◌}
use mathlib.Core.Logic.{◌≢◌}
use Prim.Native.Nat.{◌<◌}
use native.Mathlib.Omega.{arith}
use borrow.Author.Rules.{rules}
use borrow.Author.Tests.{tests}
use lib.ListN.{length, get_or}
use Rattle.std.specs.Option.{MatchOption}
use Rattle.std.specs.List.{AllWithin, HoldsAt}
use Rattle.std.proofs.lemmas.Iterator.{IsFirst-from_position, YieldsList-from_slice}
use Rattle.rows.specs.Row.{has}
use Rattle.rows.proofs.RowLaws.{has_word}
use Rattle.rows.proofs.WordLaws.{found-word, found-none}
use Rattle.rows.proofs.lowest.Goals.{After-position}
use Rattle.rows.proofs.lowest.Goals as goal

-- the place of the first word that is not zero
first : (c : goal.After-position) → let row = c.args.row.now in MatchOption c.position.result (AllWithin (λ x. x ≡ 0) row 0 (length row)) (λ i. (i < length row) × HoldsAt (λ x. x ≢ 0) row i × AllWithin (λ x. x ≡ 0) row 0 i)
first c = IsFirst-from_position _ _ _ (λ x. x ≢ 0) (λ x. x ≡ 0) c.position.ensures.ran (YieldsList-from_slice c.args.row.now cc) (λ x q k. search (rules, tests)) (λ x q k. search (rules, tests))

pub returns-in_err-i : goal.returns-in_err-i
returns-in_err-i c =
    let row = c.args.row.now in
    let none = rw c.in_err-i.was at (first (goal.at.returns-in_err-i c).After-position) in
    c.from_residual.ensures ∙ found-none (has row) (λ j. get_or row j 0) (has_word row) (length row) (λ j l. none j 0 (omega arith) l)

pub returns : goal.returns
returns c =
    let row = c.args.row.now in
    let i = c.in_ok-i.i in
    let here = rw c.in_ok-i.was at (first (goal.at.returns c).After-position) in
    found-word (has row) (λ j. get_or row j 0) (has_word row) (length row) i here.0 (c.type_inv.row i).fits (here.1 0) (λ j l. here.2 j 0 (omega arith) l)
