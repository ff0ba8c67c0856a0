-- Laws of bytes: rows of bits in them, little-endian numbers, and the words of a byte row. Assumes nothing.
use mathlib.Core.Path.{◌≡◌, refl, sym, ap, ap₂, ◌∙◌}
use mathlib.Core.List.{List, [], ◌∷◌, ◌++◌}
use Prim.Native.Nat.{ℕ, zero, suc, ◌+◌, ◌-◌, ◌*◌, ◌/◌, ◌%◌, ◌^◌, ◌<◌}
use native.Mathlib.Nat.{le_refl, not-suc-le-zero, le_of_suc-le-suc, suc-add, zero-add, one-mul, add-zero, mul_assoc, mul_comm, pow-zero, pow-succ'}
use native.Mathlib.Numerals.{add-one}
use native.Mathlib.Omega.{arith}
use native.Mathlib.Decide.{dec_lt}
use lib.Dec.{eqb}
use lib.ListN.{length, get_or, take, drop}
use lib.Seq.{get_or-take, get_or-drop}
use lib.Bits.{bit_or, or_shifted_r}
use lib.Pow.{shl_exact}
use Rattle.std.specs.List.{slice_index}
use Rattle.std.specs.Int.{sum_through, byte_worth}
use Rattle.rows.specs.Row.{digit, bit_of, has}
use Rattle.rows.specs.Octets.{has_byte, little, words}
use Rattle.rows.proofs.Digits.{digit_low, digit_high}

-- ---- little-endian numbers

-- j bytes, and k more
pub little_join : (j k : ℕ) (s : List ℕ) (at : ℕ) → little (j + k) s at ≡ little j s at + 256 ^ j * little k s (at + j)
unfolding little
little_join zero k s at = rw (zero-add k, pow-zero, one-mul, add-zero) (omega arith)
little_join (suc j) k s at =
    let place : at + 1 + j ≡ at + suc j = omega arith in
    ap (λ (n : ℕ). little n s at) (suc-add j k)
    ∙ ap (λ (x : ℕ). get_or s at 0 + 256 * x) (little_join j k s (at + 1) ∙ ap (λ (p : ℕ). little j s (at + 1) + 256 ^ j * little k s p) place)
    ∙ omega (arith, ap (λ (x : ℕ). x * little k s (at + suc j)) (pow-succ' 256 j), mul_assoc 256 (256 ^ j) (little k s (at + suc j)))

pub little_two : (s : List ℕ) (at : ℕ) → little 2 s at ≡ get_or s at 0 + 256 * get_or s (at + 1) 0
unfolding little
little_two s at = omega arith

-- an upper part of q bits shifted over a lower one of p
pub shift-over : (p q x y : ℕ) → x < 2 ^ p → y < 2 ^ q → bit_or x (y * 2 ^ p % 2 ^ (q + p)) ≡ y * 2 ^ p + x
shift-over p q x y i j = ap (bit_or x) (shl_exact {a = y} q p (q + p) j (le_refl (q + p))) ∙ or_shifted_r y p x i

-- the bytes g 0 .. g k of s from `at` on, each by its worth, as `from_le_bytes` adds them
sum-little : (k : ℕ) (s : List ℕ) (at : ℕ) (g : ℕ → ℕ) → ((i : ℕ) → i < suc k → g i ≡ get_or s (at + i) 0) → sum_through (λ i. byte_worth i (g i)) k ≡ little (suc k) s at
unfolding little
sum-little zero s at g e = let here : at + 0 ≡ at = omega arith in omega (arith, e 0 (omega arith), ap (λ (p : ℕ). get_or s p 0) here)
sum-little (suc k) s at g e =
    let last : little 1 s (at + suc k) ≡ get_or s (at + suc k) 0 = omega arith in
    let next : suc (suc k) ≡ suc k + 1 = omega arith in
    ap (λ (x : ℕ). x + g (suc k) * 256 ^ suc k) (sum-little k s at g (λ i h. e i (omega arith)))
    ∙ ap (λ (x : ℕ). little (suc k) s at + x * 256 ^ suc k) (e (suc k) (omega arith) ∙ sym last)
    ∙ ap (λ (x : ℕ). little (suc k) s at + x) (mul_comm (little 1 s (at + suc k)) (256 ^ suc k))
    ∙ sym (ap (λ (n : ℕ). little n s at) next ∙ little_join (suc k) 1 s at)

-- the number that `from_le_bytes` makes of the k + 1 bytes at `at`
pub little_part : (k : ℕ) (s : List ℕ) (at : ℕ) (bytes : List ℕ) → bytes ≡ take (suc k) (drop at s) → sum_through (λ i. byte_worth i (slice_index bytes i)) k ≡ little (suc k) s at
little_part k s at bytes e = sum-little k s at (slice_index bytes) (λ i h. rw e (get_or-take (suc k) (drop at s) i 0 h ∙ get_or-drop at s i 0))

module _ (s : List ℕ) (bytes : (i : ℕ) → get_or s i 0 < 256) where
  pub little_lt : (k at : ℕ) → little k s at < 256 ^ k
  unfolding little
  little_lt zero at = omega arith
  little_lt (suc k) at = omega (arith, little_lt k (at + 1), bytes at, pow-succ' 256 k)

  -- bit b of the number is bit b % 8 of byte b / 8
  pub digit-little : (k at b : ℕ) → b < 8 * k → digit (little k s at) b ≡ digit (get_or s (at + b / 8) 0) (b % 8)
  unfolding little
  digit-little zero at b h = absurd (omega arith)
  digit-little (suc k) at b h =
      let turn : get_or s at 0 + 256 * little k s (at + 1) ≡ little k s (at + 1) * 2 ^ 8 + get_or s at 0 = omega arith in
      ap (λ (n : ℕ). digit n b) turn ∙ elim (dec_lt b 8) [ yes l ↦ low l | no g ↦ upper (λ c q. digit-little k (at + 1) c q) g ]
    where
      low : b < 8 → digit (little k s (at + 1) * 2 ^ 8 + get_or s at 0) b ≡ digit (get_or s (at + b / 8) 0) (b % 8)
      low l = digit_low 8 b (get_or s at 0) (little k s (at + 1)) l ∙ ap₂ (λ (i d : ℕ). digit (get_or s i 0) d) (omega arith) (omega arith)

      upper : ((c : ℕ) → c < 8 * k → digit (little k s (at + 1)) c ≡ digit (get_or s (at + 1 + c / 8) 0) (c % 8)) → ¬ (b < 8)
          → digit (little k s (at + 1) * 2 ^ 8 + get_or s at 0) b ≡ digit (get_or s (at + b / 8) 0) (b % 8)
      upper rest g =
          let up : b ≡ 8 + (b - 8) = omega arith in
          ap (digit (little k s (at + 1) * 2 ^ 8 + get_or s at 0)) up
          ∙ digit_high 8 (b - 8) (get_or s at 0) (little k s (at + 1)) (bytes at)
          ∙ rest (b - 8) (omega arith)
          ∙ ap₂ (λ (i d : ℕ). digit (get_or s i 0) d) (omega arith) (omega arith)

  pub bit-little : (k at b : ℕ) → b < 8 * k → bit_of (little k s at) b ≡ bit_of (get_or s (at + b / 8) 0) (b % 8)
  unfolding bit_of
  bit-little k at b h = ap (λ (d : ℕ). eqb d 1) (digit-little k at b h)

-- ---- the words of a byte row

pub length-words : (w : ℕ) (s : List ℕ) (at : ℕ) → length (words w s at) ≡ w
unfolding words
length-words zero s at = refl
length-words (suc w) s at = ap suc (length-words w s (at + 8))

pub get_d_words : (w : ℕ) (s : List ℕ) (at i : ℕ) → i < w → get_or (words w s at) i 0 ≡ little 8 s (at + 8 * i)
unfolding words
get_d_words zero s at i h = absurd (not-suc-le-zero h)
get_d_words (suc w) s at zero h = ap (little 8 s) (omega arith)
get_d_words (suc w) s at (suc i) h = get_d_words w s (at + 8) i (le_of_suc-le-suc h) ∙ ap (little 8 s) (omega arith)

words-suc : (i : ℕ) (s : List ℕ) (at : ℕ) → words (suc i) s at ≡ words i s at ++ (little 8 s (at + 8 * i) ∷ [])
unfolding words
words-suc zero s at = let here : at ≡ at + 8 * 0 = omega arith in ap (λ (p : ℕ). little 8 s p ∷ []) here
words-suc (suc i) s at =
    let place : at + 8 + 8 * i ≡ at + 8 * suc i = omega arith in
    ap (λ (r : List ℕ). little 8 s at ∷ r) (words-suc i s (at + 8) ∙ ap (λ (p : ℕ). words i s (at + 8) ++ (little 8 s p ∷ [])) place)

-- a loop over the words: one more
pub words_more : (i : ℕ) (s : List ℕ) (at : ℕ) → words (i + 1) s at ≡ words i s at ++ (little 8 s (at + 8 * i) ∷ [])
words_more i s at = rw add-one (words-suc i s at)

-- a byte row and its words have the same members
pub has_words : (s : List ℕ) → ((i : ℕ) → get_or s i 0 < 256) → (w at b : ℕ) → b < 64 * w → has (words w s at) b ≡ has_byte s at b
unfolding has has_byte
has_words s bytes w at b h =
    let byte : at + 8 * (b / 64) + b % 64 / 8 ≡ at + b / 8 = omega arith in
    let bit : b % 64 % 8 ≡ b % 8 = omega arith in
    ap (λ (x : ℕ). bit_of x (b % 64)) (get_d_words w s at (b / 64) (omega arith)) ∙ bit-little s bytes 8 (at + 8 * (b / 64)) (b % 64) (omega arith)
    ∙ ap₂ (λ (i k : ℕ). bit_of (get_or s i 0) k) byte bit
