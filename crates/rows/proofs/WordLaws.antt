-- The first and the last word of a row that is not zero has its lowest and its highest member: f is the row's test, and w its words. Assumes nothing.
use mathlib.Core.Path.{◌≡◌, sym, ap, ◌∙◌}
use mathlib.Core.Logic.{◌≢◌}
use mathlib.Core.Bool.{Bool, false}
use Prim.Native.Nat.{ℕ, ◌+◌, ◌-◌, ◌*◌, ◌/◌, ◌%◌, ◌^◌, ◌<◌}
use native.Mathlib.Omega.{arith}
use lib.Count.{count_leading_zeros, count_trailing_zeros}
use Rattle.std.specs.Prelude.{Some, None}
use Rattle.rows.specs.Lowest.{found, found_last}
use Rattle.rows.specs.Row.{bit_of}
use Rattle.rows.proofs.Digits.{bit_of-zero, lowest_digit, leading_lt}
use Rattle.rows.proofs.FoundLaws.{some-below, none-below}
use Rattle.rows.proofs.LowestLaws.{lowest-none, highest-none}
use Rattle.rows.proofs.RowLaws.{word_found, word_found_down}

module _ (f : ℕ → Bool) (w : ℕ → ℕ) (same : (i k : ℕ) → k < 64 → f (i * 64 + k) ≡ bit_of (w i) k) where
  -- no member stands in a word that is zero
  word_empty : (b : ℕ) → w (b / 64) ≡ 0 → f b ≡ false
  word_empty b e =
      let place : b ≡ b / 64 * 64 + b % 64 = omega arith in
      ap f place ∙ same (b / 64) (b % 64) (omega arith) ∙ ap (λ (y : ℕ). bit_of y (b % 64)) e ∙ bit_of-zero (b % 64)

  pub found-word : (n i : ℕ) → i < n → w i < 2 ^ 64 → w i ≢ 0 → ((j : ℕ) → j < i → w j ≡ 0) → Some (64 * i + count_trailing_zeros 64 (w i)) ≡ found (64 * n) f
  found-word n i l h ne none =
      let e = word_found f i (w i) (same i) (λ b k. word_empty b (none (b / 64) (omega arith))) n l h ne in
      let at : i * 64 + count_trailing_zeros 64 (w i) ≡ 64 * i + count_trailing_zeros 64 (w i) = omega arith in
      let t : count_trailing_zeros 64 (w i) < 64 = (lowest_digit (w i) h ne).0 in
      ap Some (sym at ∙ e) ∙ sym (some-below (64 * n) _ (omega (arith, e)))

  pub found-none : (n : ℕ) → ((j : ℕ) → j < n → w j ≡ 0) → None ≡ found (64 * n) f
  found-none n none = sym (none-below (64 * n) _ (omega (arith, lowest-none (64 * n) f (λ b h. word_empty b (none (b / 64) (omega arith))))))

  pub last-word : (n i : ℕ) → i < n → w i < 2 ^ 64 → w i ≢ 0 → ((j : ℕ) → i < j → w j ≡ 0) → Some (64 * i + (63 - count_leading_zeros 64 (w i))) ≡ found_last (64 * n) f
  last-word n i l h ne none =
      let e = word_found_down f i (w i) (same i) (λ b k. word_empty b (none (b / 64) (omega arith))) n l h ne in
      let at : i * 64 + (63 - count_leading_zeros 64 (w i)) ≡ 64 * i + (63 - count_leading_zeros 64 (w i)) = omega arith in
      let t : count_leading_zeros 64 (w i) < 64 = leading_lt 64 (w i) h ne in
      ap Some (sym at ∙ e) ∙ sym (some-below (64 * n) _ (omega (arith, e)))

  pub last-none : (n : ℕ) → ((j : ℕ) → w j ≡ 0) → None ≡ found_last (64 * n) f
  last-none n none = sym (none-below (64 * n) _ (omega (arith, highest-none (64 * n) f (λ b h. word_empty b (none (b / 64))))))
