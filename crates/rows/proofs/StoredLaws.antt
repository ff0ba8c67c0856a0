-- A loop that stores f i at each place i of a list, of which the places from i on are as they were. Assumes nothing.
use mathlib.Core.Path.{◌≡◌, refl, sym, ap, ◌∙◌}
use mathlib.Core.List.{List}
use Prim.Native.Nat.{ℕ, ◌+◌, ◌≤◌, ◌<◌}
use native.Mathlib.Omega.{arith}
use native.Mathlib.Decide.{ℕ_discrete}
use lib.ListN.{length, get_or, set, length-set}
use lib.Seq.{get_or-set_same, get_or-set_other, ext_get_or}

pub record Stored (f : ℕ → ℕ) (l₀ l : List ℕ) (i : ℕ) : Type 0 where
  pub long : length l ≡ length l₀
  pub below : (j : ℕ) → j < i → get_or l j 0 ≡ f j
  pub above : (j : ℕ) → i ≤ j → get_or l j 0 ≡ get_or l₀ j 0

module _ (f : ℕ → ℕ) (l₀ : List ℕ) where
  pub stored_none : Stored f l₀ l₀ 0
  stored_none = record { long = refl; below = λ j h. absurd (omega arith); above = λ j h. refl }

  pub stored_more : (l : List ℕ) (i x : ℕ) → Stored f l₀ l i → i < length l₀ → x ≡ f i → Stored f l₀ (set l i x) (i + 1)
  stored_more l i x s h e = record {
    long = length-set l i x ∙ s.long;
    below = λ j k. elim (ℕ_discrete j i) [
      | yes q ↦ ap (λ (k : ℕ). get_or (set l i x) k 0) q ∙ get_or-set_same l i x 0 (omega (arith, s.long)) ∙ e ∙ ap f (sym q)
      | no n ↦ get_or-set_other l i j x 0 n ∙ s.below j (omega arith)
    ];
    above = λ j k. get_or-set_other l i j x 0 (λ q. omega arith) ∙ s.above j (omega arith);
  }

  -- all are stored: the list is any that has f at each place
  pub stored_all : (l m : List ℕ) (i : ℕ) → Stored f l₀ l i → length l₀ ≤ i → length m ≡ length l₀ → ((j : ℕ) → get_or m j 0 ≡ f j) → l ≡ m
  stored_all l m i s h long e = ext_get_or 0 l m (s.long ∙ sym long) (λ j k. s.below j (omega (arith, s.long)) ∙ sym (e j))
