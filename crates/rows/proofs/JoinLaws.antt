-- Laws of a loop that joins the numbers at which a test f holds to a row, word by word. Assumes nothing.
use mathlib.Core.Path.{◌≡◌, refl, sym, ap, ap₂, ◌∙◌}
use mathlib.Core.Logic.{◌≢◌}
use mathlib.Core.Bool.{Bool, false, ◌&&◌, ◌||◌, or-false}
use mathlib.Core.List.{List}
use Prim.Native.Nat.{ℕ, ◌+◌, ◌-◌, ◌*◌, ◌/◌, ◌%◌, ◌^◌, ◌<◌, ◌≤◌}
use native.Mathlib.Omega.{arith}
use borrow.Author.Tests.{ltb-true, ltb-false}
use lib.Dec.{ltb}
use lib.Bits.{bit_and, bit_or}
use lib.ListN.{length, get_or, set, length-set}
use lib.Seq.{get_or-set_same, get_or-set_other}
use Rattle.rows.specs.Row.{bit_of, has, only_first}
use Rattle.rows.proofs.Tests.{split}
use Rattle.rows.proofs.Digits.{bit_or_lem, bit_and_lem}
use Rattle.rows.proofs.RowLaws.{has_word, has_past, lacking, only_word}

-- the first i words of d have what they had in d₀ and what f holds at, and the others are as they were
pub record Joining (f : ℕ → Bool) (d₀ : List ℕ) (i : ℕ) (d : List ℕ) : Type 0 where
  pub size : length d ≡ length d₀
  pub done : (x : ℕ) → x < 64 * i → has d x ≡ has d₀ x || f x
  pub kept : (x : ℕ) → 64 * i ≤ x → has d x ≡ has d₀ x

module _ (f : ℕ → Bool) (d₀ : List ℕ) where
  pub joining_none : Joining f d₀ 0 d₀
  joining_none = record { size = refl; done = λ x h. absurd (omega arith); kept = λ x h. refl }

  module _ (i : ℕ) (d : List ℕ) (j : Joining f d₀ i d) where
    pub joining_all : ((x : ℕ) → 64 * i ≤ x → f x ≡ false) → (x : ℕ) → has d x ≡ has d₀ x || f x
    joining_all none x = split (ltb x (64 * i)) (λ t. j.done x (ltb-true x (64 * i) t)) (λ t.
        let far : 64 * i ≤ x = ltb-false x (64 * i) t in
        j.kept x far ∙ sym (or-false (has d₀ x)) ∙ ap (λ (u : Bool). has d₀ x || u) (sym (none x far)))

    -- y is f's word i
    module _ (y : ℕ) (same : (k : ℕ) → k < 64 → f (i * 64 + k) ≡ bit_of y k) (within : i < length d₀) (d' : List ℕ) (stored : d' ≡ set d i (bit_or (get_or d i 0) y)) where
      here : (k : ℕ) → k < 64 → has d' (i * 64 + k) ≡ has d (i * 64 + k) || f (i * 64 + k)
      here k h =
          ap (λ (r : List ℕ). has r (i * 64 + k)) stored
          ∙ has_word (set d i (bit_or (get_or d i 0) y)) i k h
          ∙ ap (λ (z : ℕ). bit_of z k) (get_or-set_same d i (bit_or (get_or d i 0) y) 0 (omega (arith, j.size)))
          ∙ bit_or_lem (get_or d i 0) y k
          ∙ sym (ap₂ ◌||◌ (has_word d i k h) (same k h))

      elsewhere : (x : ℕ) → x / 64 ≢ i → has d' x ≡ has d x
      unfolding has
      elsewhere x ne = ap (λ (z : ℕ). bit_of z (x % 64)) (ap (λ (r : List ℕ). get_or r (x / 64) 0) stored ∙ get_or-set_other d i (x / 64) (bit_or (get_or d i 0) y) 0 ne)

      next : (x : ℕ) → 64 * i ≤ x → x < 64 * (i + 1) → has d' x ≡ has d x || f x
      next x h k = let place : x ≡ i * 64 + (x - i * 64) = omega arith in rw place (here (x - i * 64) (omega arith))

      pub joining_more : Joining f d₀ (i + 1) d'
      joining_more = record {
        size = ap length stored ∙ length-set d i (bit_or (get_or d i 0) y) ∙ j.size;
        done = λ x h. split (ltb x (64 * i))
            (λ t. let l : x < 64 * i = ltb-true x (64 * i) t in elsewhere x (λ q. omega arith) ∙ j.done x l)
            (λ t. let l : 64 * i ≤ x = ltb-false x (64 * i) t in next x l h ∙ ap (λ (u : Bool). u || f x) (j.kept x l));
        kept = λ x h. elsewhere x (λ q. omega arith) ∙ j.kept x (omega arith);
      }

-- ---- what q and s have and r lacks

abbrev pub outside : List ℕ → List ℕ → List ℕ → ℕ → Bool
outside q s r x = has q x && only_first s r x

pub outside_word : (q s r : List ℕ) (i : ℕ) → get_or r i 0 < 2 ^ 64 → (k : ℕ) → k < 64 → outside q s r (i * 64 + k) ≡ bit_of (bit_and (get_or q i 0) (lacking s r i)) k
outside_word q s r i fits k h = ap₂ ◌&&◌ (has_word q i k h) (only_word s r i fits k h) ∙ sym (bit_and_lem (get_or q i 0) (lacking s r i) k)

pub outside_past : (q s r : List ℕ) (x : ℕ) → 64 * length q ≤ x → outside q s r x ≡ false
outside_past q s r x h = ap (λ (t : Bool). t && only_first s r x) (has_past q x h)
