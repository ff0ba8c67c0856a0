-- What a search among the numbers below n found: by `all`, by `find`, or by a loop. Assumes nothing.
use mathlib.Core.Path.{◌≡◌, sym, ap, ◌∙◌}
use mathlib.Core.Bool.{Bool, true, false, not}
use mathlib.Core.List.{List}
use Prim.Native.Nat.{ℕ, ◌≤◌, ◌<◌}
use native.Mathlib.Nat.{zero-add}
use native.Mathlib.Omega.{arith}
use lib.ListN.{length, get_or}
use Rattle.std.specs.Prelude.{Option, Some, None}
use Rattle.std.specs.Bool.{MatchBool}
use Rattle.std.specs.List.{range_with_len, AllWithin, HoldsAt}
use Rattle.std.specs.Option.{MatchOption}
use Rattle.std.proofs.lemmas.List.FromFn.{length-range_with_len, get_or-range_with_len}
use Rattle.rows.specs.Lowest.{lowest, some, if_below, found}
use Rattle.rows.proofs.LowestLaws.{Searched, searched_hit, searched_end, lowest_low, lowest_hit, lowest-none, some_of, none-some}
use Rattle.rows.proofs.FoundLaws.{some-below, none-below, below-some, below-none}
use Rattle.record.specs.Answers.{LowestWrong}

module _ (n : ℕ) (wrong : ℕ → Bool) where
  abbrev numbers : List ℕ
  numbers = range_with_len 0 n

  at : (k : ℕ) (d : ℕ) → k < n → get_or (range_with_len 0 n) k d ≡ k
  at k d l = get_or-range_with_len 0 n k d l ∙ zero-add k

  pub none_from_all : (r : Bool)
      → MatchBool r (AllWithin (λ k. wrong k ≡ false) (range_with_len 0 n) 0 (length (range_with_len 0 n)))
      ((k : ℕ) × (k < length (range_with_len 0 n)) × HoldsAt (λ j. wrong j ≡ true) (range_with_len 0 n) k)
      → r ≡ not (some n wrong)
  none_from_all true h =
      sym (ap not (none-some n wrong (λ k l. ap wrong (sym (at k 0 l)) ∙ h k 0 (omega arith) (omega (arith, l, length-range_with_len 0 n)))))
  none_from_all false h =
      let l : h.0 < n = omega (arith, h.1, length-range_with_len 0 n) in
      sym (ap not (some_of n wrong h.0 l (ap wrong (sym (at h.0 0 l)) ∙ h.2 0)))

  pub found_from_find : (r : Option ℕ)
      → MatchOption r ((k : ℕ) → 0 ≤ k → k < n → wrong k ≡ false)
      (λ i. (0 ≤ i) × (i < n) × (wrong i ≡ true) × ((k : ℕ) → 0 ≤ k → k < i → wrong k ≡ false))
      → r ≡ found n wrong
  found_from_find None h = sym (none-below n _ (omega (arith, lowest-none n wrong (λ k l. h k (omega arith) l))))
  found_from_find (Some i) h =
      let low = lowest_hit n wrong i h.1 (λ k l. h.3 k (omega arith) l) h.2 in
      sym (ap (λ (j : ℕ). if_below n j) low ∙ some-below n i h.1)

-- a loop's turn that found it, and its end
pub found_hit : {n : ℕ} {f : ℕ → Bool} {i : ℕ} → Searched n f i → i < n → f i ≡ true → Some i ≡ found n f
found_hit {n} {f} {i} l h e = sym (ap (if_below n) (sym (searched_hit l h e)) ∙ some-below n i h)

pub found_end : {n : ℕ} {f : ℕ → Bool} {i : ℕ} → Searched n f i → n ≤ i → None ≡ found n f
found_end {n} {f} {i} l h = sym (none-below n _ (omega (arith, searched_end l h)))

-- what was found is the lowest that is wrong; where there is none, all are right
pub lowest_found : (n : ℕ) (wrong : ℕ → Bool) (k : ℕ) → Some k ≡ found n wrong → LowestWrong n wrong k
lowest_found n wrong k q =
    let b = below-some n (lowest n wrong) k (sym q) in
    let low = lowest_low n wrong in
    record {
      within = omega (arith, b.0, b.1);
      fails = ap wrong b.0 ∙ low.at b.1;
      lower = λ j l. low.below j (omega (arith, b.0, l));
    }

pub none_found : (n : ℕ) (wrong : ℕ → Bool) → None ≡ found n wrong → (k : ℕ) → k < n → wrong k ≡ false
none_found n wrong q k l = (lowest_low n wrong).below k (omega (arith, below-none n (lowest n wrong) (sym q), l))
