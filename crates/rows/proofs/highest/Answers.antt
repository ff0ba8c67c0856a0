-- `rows::highest` meets its contract: the highest set bit of the last word that is not zero is the highest member. Assumes nothing.
use mathlib.Core.Path.{◌≡◌, sym, ap, ◌∙◌}
use mathlib.Core.Logic.{◌≢◌}
use mathlib.Core.List.{List, ◌∷◌, [], reverse, reverse-append}
use Prim.Native.Nat.{ℕ, ◌+◌, ◌-◌, ◌<◌}
use native.Mathlib.Omega.{arith}
use borrow.Author.Rules.{rules}
use borrow.Author.Tests.{tests}
use native.Mathlib.Decide.{dec_lt}
use lib.ListN.{length, get_or, length-reverse, get_or-eq_default}
use Rattle.std.specs.Prelude.{Option, Some, None}
use Rattle.std.specs.Option.{MatchOption, IsSomeAnd, option_map}
use Rattle.std.specs.List.{AllWithin, HoldsAt}
use Rattle.std.specs.Slice.Iter.{iter_rest, iter_steps_back}
use Rattle.std.proofs.lemmas.List.{get_or-reverse}
use Rattle.std.proofs.lemmas.Iterator.{YieldsList, IsFirst-from_position}
use Rattle.std.proofs.lemmas.Iterator.Consumers.{YieldsList-from_shown}
use Rattle.rows.specs.Row.{has}
use Rattle.rows.proofs.RowLaws.{has_word}
use Rattle.rows.proofs.WordLaws.{last-word, last-none}
use Rattle.rows.proofs.highest.Goals.{After-rposition}
use Rattle.rows.proofs.highest.Goals as goal

-- a place among n, counted from the other end
abbrev turned : ℕ → Option ℕ → Option ℕ
turned n r = option_map (λ i. n - 1 - i) r

turn_found : {A : Type 0} (P : A → Type 0) (n k : ℕ) (r : Option ℕ) (o : Option A) → MatchOption o (r ≡ None) (λ x. IsSomeAnd r (λ i. i + 1 + k ≡ n) × P x)
    → MatchOption o (turned n r ≡ None) (λ x. (turned n r ≡ Some k) × P x)
turn_found P n k r None e = ap (turned n) e
turn_found P n k (Some i) (Some x) e = let z : n - 1 - i ≡ k = omega (arith, e.0) in (ap Some z, e.1)
turn_found P n k None (Some x) e = absurd e.0

-- the place of the last word that is not zero, counted from the end
last : (c : goal.After-rposition)
    → let row = iter_rest c.iter.result in
    MatchOption (turned (length row) c.rposition.result) (AllWithin (λ x. x ≡ 0) (reverse row) 0 (length (reverse row)))
    (λ i. (i < length (reverse row)) × HoldsAt (λ x. x ≢ 0) (reverse row) i × AllWithin (λ x. x ≡ 0) (reverse row) 0 i)
last c =
    let row = iter_rest c.iter.result in
    let d = c.rposition.ensures.ran in
    let backwards : YieldsList iter_steps_back (λ y. y.now) c.iter.result (reverse row) = YieldsList-from_shown iter_steps_back (λ y. y.now) (λ u. reverse (iter_rest u)) (λ u t p. length-reverse _ ∙ p.0)
    (λ u x t p. ap reverse p ∙ reverse-append (iter_rest t) (x.now ∷ [])) c.iter.result in
    IsFirst-from_position _ _ (turned (length row) c.rposition.result) (λ x. x ≢ 0) (λ x. x ≡ 0)
    (d.0, d.1, d.2, d.3, d.4, turn_found _ (length row) (length d.0) c.rposition.result d.1 d.5)
    backwards
    (λ x q k. search (rules, tests)) (λ x q k. search (rules, tests))

from_end : (row : List ℕ) (j : ℕ) → j < length row → get_or (reverse row) (length row - 1 - j) 0 ≡ get_or row j 0
from_end row j l =
    let twice : length row - 1 - (length row - 1 - j) ≡ j = omega arith in
    get_or-reverse row (length row - 1 - j) 0 (omega arith) ∙ ap (λ k. get_or row k 0) twice

zero_past : (row : List ℕ) (j : ℕ) → (j < length row → get_or row j 0 ≡ 0) → get_or row j 0 ≡ 0
zero_past row j f = elim (dec_lt j (length row)) [ yes l ↦ f l | no n ↦ get_or-eq_default row 0 (omega arith) ]

pub returns-in_err-i : goal.returns-in_err-i
returns-in_err-i c =
    let row = c.args.row.now in
    let none = rw (c.in_err-i.was, c.iter.ensures.rest) at (last (goal.at.returns-in_err-i c).After-rposition) in
    c.from_residual.ensures
    ∙ last-none (has row) (λ j. get_or row j 0) (has_word row) (length row)
    (λ j. zero_past row j (λ l. sym (from_end row j l) ∙ none (length row - 1 - j) 0 (omega arith) (omega (arith, length-reverse row))))

pub returns : goal.returns
returns c =
    let row = c.args.row.now in
    let i = c.in_ok-i.i in
    let here = rw (c.in_ok-i.was, c.iter.ensures.rest) at (last (goal.at.returns c).After-rposition) in
    let l : i < length row = omega (arith, c.in_ok-i.ensures.bound) in
    last-word (has row) (λ j. get_or row j 0) (has_word row) (length row) i l (c.type_inv.row i).fits (λ e. here.1 0 (from_end row i l ∙ e))
    (λ j h. zero_past row j (λ k. sym (from_end row j k) ∙ here.2 (length row - 1 - j) 0 (omega arith) (omega arith)))
