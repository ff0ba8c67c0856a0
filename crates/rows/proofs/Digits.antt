-- Laws of a number's binary digits, at any place k, and of the bits that tests read. Assumes nothing.
use mathlib.Core.Path.{◌≡◌, refl, sym, ap, ◌∙◌}
use mathlib.Core.Bool.{Bool, true, false, not, ◌&&◌, ◌||◌, and-false, and-true}
use Prim.Native.Nat.{ℕ, zero, suc, ◌+◌, ◌-◌, ◌*◌, ◌/◌, ◌%◌, ◌^◌, ◌≤◌, ◌<◌, min, max}
use native.Mathlib.Nat.{le_refl, pow-succ', not-suc-le-zero, le_of_suc-le-suc, zero-mul, mod-eq_of_lt}
use native.Mathlib.Omega.{arith}
use borrow.Author.Tests.{eq-eqb, eqb-true, eqb-false, ne_eqb, ltb-true, ltb-false}
use lib.Dec.{eqb, ltb}
use lib.Bits.{bit_and, bit_or, or_step, and_mask, or_zero_r}
use lib.Pow.{pow_pos, pow_mono, ones_lt}
use lib.Count.{count_leading_zeros, leading_top, count_trailing_zeros, under, ones, ones_step}
use Rattle.std.specs.Int.{w64}
use Rattle.std.proofs.lemmas.Nat.{one_shl}
use Rattle.std.proofs.lemmas.Nat.Bits.{bit_at_lowest, bit_at-suc, bit_at-zero, bit_at_and, bit_at_or, bit_at-pow_same, bit_at-pow_other, bit_at_ones, bit_at-trailing_zeros, bit_at-lt, bit_at_above, bit_at_cat_low, bit_at_cat_high}
use Rattle.rows.specs.Row.{digit, bit_of}
use Rattle.rows.proofs.Tests.{split}

-- ---- the lowest digit, and the digits above it

pub digit-zero : (n : ℕ) → digit n zero ≡ n % 2
unfolding digit
digit-zero n = bit_at_lowest n

pub digit-suc : (n k : ℕ) → digit n (suc k) ≡ digit (n / 2) k
unfolding digit
digit-suc n k = bit_at-suc n k

pub digit_lt : (n k : ℕ) → digit n k < 2
unfolding digit
digit_lt n k = bit_at-lt n k

-- ---- `a | b` and `a & b`

pub digit_or : (k a b : ℕ) → digit (bit_or a b) k ≡ max (digit a k) (digit b k)
unfolding digit
digit_or k a b = bit_at_or a b k

pub digit_and : (k a b : ℕ) → digit (bit_and a b) k ≡ min (digit a k) (digit b k)
unfolding digit
digit_and k a b = bit_at_and a b k

-- ---- `!a` at w digits

not_half : (w a : ℕ) → a < 2 ^ suc w → ((2 ^ suc w - 1) - a) / 2 ≡ (2 ^ w - 1) - a / 2
not_half w a h = omega (arith, pow-succ' 2 w, pow_pos w)

not-odd : (w a : ℕ) → a < 2 ^ suc w → ((2 ^ suc w - 1) - a) % 2 ≡ 1 - a % 2
not-odd w a h = omega (arith, pow-succ' 2 w, pow_pos w)

half_below : (w a : ℕ) → a < 2 ^ suc w → a / 2 < 2 ^ w
half_below w a h = omega (arith, pow-succ' 2 w)

pub digit_not : (w k a : ℕ) → k < w → a < 2 ^ w → digit ((2 ^ w - 1) - a) k ≡ 1 - digit a k
digit_not zero k a l h = absurd (not-suc-le-zero l)
digit_not (suc w) zero a l h = digit-zero ((2 ^ suc w - 1) - a) ∙ not-odd w a h ∙ ap (λ (x : ℕ). 1 - x) (sym (digit-zero a))
digit_not (suc w) (suc k) a l h =
    digit-suc ((2 ^ suc w - 1) - a) k ∙ ap (λ (x : ℕ). digit x k) (not_half w a h)
    ∙ digit_not w k (a / 2) (le_of_suc-le-suc l) (half_below w a h) ∙ ap (λ (x : ℕ). 1 - x) (sym (digit-suc a k))

-- ---- a number with one digit, and with none

pub digit_of_zero : (k : ℕ) → digit zero k ≡ zero
unfolding digit
digit_of_zero k = bit_at-zero k

pub digit-pow-same : (k : ℕ) → digit (2 ^ k) k ≡ 1
unfolding digit
digit-pow-same k = bit_at-pow_same k

pub digit-pow-other : (k j : ℕ) → (j ≡ k → ⊥) → digit (2 ^ k) j ≡ 0
unfolding digit
digit-pow-other k j h = bit_at-pow_other k j h

-- ---- a number put together of k low digits, x, and the rest, y

pub digit_low : (k j x y : ℕ) → j < k → digit (y * 2 ^ k + x) j ≡ digit x j
unfolding digit
digit_low k j x y h = bit_at_cat_low y k x j h

pub digit_high : (k j x y : ℕ) → x < 2 ^ k → digit (y * 2 ^ k + x) (k + j) ≡ digit y j
unfolding digit
digit_high k j x y h = let rest : k + j - k ≡ j = omega arith in bit_at_cat_high y k x (k + j) h (omega arith) ∙ ap (λ (i : ℕ). y / 2 ^ i % 2) rest

-- ---- the lowest and the highest set digit, and the count of set digits

-- the lowest of a word that is not zero: it is set, and none below it
pub lowest_digit : (n : ℕ) → n < 2 ^ 64 → (n ≡ 0 → ⊥)
    → (count_trailing_zeros 64 n < 64) × (digit n (count_trailing_zeros 64 n) ≡ 1) × ((i : ℕ) → i < count_trailing_zeros 64 n → digit n i ≡ 0)
unfolding digit
lowest_digit n l h = bit_at-trailing_zeros w64 n (omega arith) l

pub trailing_lt : (k n : ℕ) → n < 2 ^ k → (n ≡ 0 → ⊥) → count_trailing_zeros k n < k
unfolding count_trailing_zeros
trailing_lt zero n l h = absurd (h (omega arith))
trailing_lt (suc k) n l h = go (n % 2) refl (λ e. trailing_lt k (n / 2) (half_below k n l) (λ z. h (omega arith)))
  where
    go : (d : ℕ) → n % 2 ≡ d → (n % 2 ≡ 0 → count_trailing_zeros k (n / 2) < k) → under d (count_trailing_zeros k (n / 2)) < suc k
    go zero e f = omega (arith, f e)
    go (suc d) e f = omega arith

-- no digit is set past a number's length
pub digit_past : (j a : ℕ) → a < 2 ^ j → digit a j ≡ 0
unfolding digit
digit_past j a h = bit_at_above a j j h (le_refl j)

digit_top : (j a : ℕ) → 2 ^ j ≤ a → a < 2 ^ suc j → digit a j ≡ 1
digit_top zero a l h = digit-zero a ∙ omega arith
digit_top (suc j) a l h = digit-suc a j ∙ digit_top j (a / 2) (omega (arith, pow-succ' 2 j)) (half_below (suc j) a h)

-- it is below the leading zeros, and none is set above it
pub leading_lt : (k a : ℕ) → a < 2 ^ k → (a ≡ 0 → ⊥) → count_leading_zeros k a < k
leading_lt k a h ne = omega (arith, (leading_top k a (omega arith) h).1)

pub leading_at : (k a : ℕ) → a < 2 ^ k → (a ≡ 0 → ⊥) → digit a (k - 1 - count_leading_zeros k a) ≡ 1
leading_at k a h ne =
    let t = leading_top k a (omega arith) h in
    let place : k - 1 - count_leading_zeros k a ≡ t.0 = omega (arith, t.1) in
    ap (digit a) place ∙ digit_top t.0 a t.2 t.3

pub leading_above : (k a i : ℕ) → a < 2 ^ k → (a ≡ 0 → ⊥) → k - 1 - count_leading_zeros k a < i → digit a i ≡ 0
leading_above k a i h ne l =
    let t = leading_top k a (omega arith) h in
    let past : suc t.0 ≤ i = omega (arith, t.1) in
    digit_past i a (omega (arith, t.3, pow_mono past))

-- one more digit is counted
pub ones-or-pow : (k x : ℕ) → digit x k ≡ 0 → ones (bit_or x (2 ^ k)) ≡ suc (ones x)
ones-or-pow zero x e =
    let half : bit_or x 1 / 2 ≡ x / 2 = omega (arith, or_step x 1, or_zero_r (x / 2)) in
    omega (arith, ones_step (bit_or x 1), ones_step x, ap ones half, or_step x 1, digit-zero x)
ones-or-pow (suc k) x e =
    let pow : 2 ^ suc k / 2 ≡ 2 ^ k = omega (arith, pow-succ' 2 k) in
    let half : bit_or x (2 ^ suc k) / 2 ≡ bit_or (x / 2) (2 ^ k) = omega (arith, or_step x (2 ^ suc k), ap (bit_or (x / 2)) pow) in
    omega (arith, ones_step (bit_or x (2 ^ suc k)), ones_step x, ap ones half, or_step x (2 ^ suc k), pow-succ' 2 k, ones-or-pow k (x / 2) (sym (digit-suc x k) ∙ e))

-- ---- the spelling of code: `1 << k` at w bits, and `x & 1`

pub shl_one : (w k : ℕ) → k < w → (1 * 2 ^ k) % 2 ^ w ≡ 2 ^ k
shl_one w k h = one_shl k w h

pub and_one : (x : ℕ) → bit_and x 1 ≡ x % 2
and_one x = and_mask x 1

-- ---- bits: the same as truth values

-- a digit is 0 or 1
by-digit : (P : ℕ → Type 0) → P 0 → P 1 → (d : ℕ) → d < 2 → P d
by-digit P z o zero h = z
by-digit P z o (suc zero) h = o
by-digit P z o (suc (suc d)) h = absurd (omega arith)

pub bit-one : (n k : ℕ) → digit n k ≡ 1 → bit_of n k ≡ true
unfolding bit_of
bit-one n k e = eq-eqb (digit n k) 1 e

pub one_bit : (n k : ℕ) → bit_of n k ≡ true → digit n k ≡ 1
unfolding bit_of
one_bit n k e = eqb-true (digit n k) 1 e

pub bit-none : (n k : ℕ) → digit n k ≡ 0 → bit_of n k ≡ false
unfolding bit_of
bit-none n k e = ne_eqb (digit n k) 1 (λ q. omega arith)

pub none-bit : (n k : ℕ) → bit_of n k ≡ false → digit n k ≡ 0
unfolding bit_of
none-bit n k e = by-digit (λ d. eqb d 1 ≡ false → d ≡ 0) (λ f. refl) (λ f. (cc)) (digit n k) (digit_lt n k) e

pub bit_of-zero : (k : ℕ) → bit_of 0 k ≡ false
bit_of-zero k = bit-none 0 k (digit_of_zero k)

pub bit-pow : (k j : ℕ) → bit_of (2 ^ k) j ≡ eqb k j
bit-pow k j =
    split (eqb k j)
    (λ t. bit-one (2 ^ k) j (ap (digit (2 ^ k)) (sym (eqb-true k j t)) ∙ digit-pow-same k) ∙ sym t)
    (λ t. bit-none (2 ^ k) j (digit-pow-other k j (λ q. eqb-false k j t (sym q))) ∙ sym t)

-- a truth table on two digits
module _ (f : ℕ → ℕ → ℕ) (g : Bool → Bool → Bool) (zz : eqb (f 0 0) 1 ≡ g false false) (zo : eqb (f 0 1) 1 ≡ g false true) (oz : eqb (f 1 0) 1 ≡ g true false) (oo : eqb (f 1 1) 1 ≡ g true true) where
  by-table : (d e : ℕ) → d < 2 → e < 2 → eqb (f d e) 1 ≡ g (eqb d 1) (eqb e 1)
  by-table d e p q = by-digit (λ x. eqb (f x e) 1 ≡ g (eqb x 1) (eqb e 1))
      (by-digit (λ y. eqb (f 0 y) 1 ≡ g false (eqb y 1)) zz zo e q)
      (by-digit (λ y. eqb (f 1 y) 1 ≡ g true (eqb y 1)) oz oo e q) d p

pub bit_or_lem : (a b k : ℕ) → bit_of (bit_or a b) k ≡ bit_of a k || bit_of b k
unfolding bit_of
bit_or_lem a b k = ap (λ (d : ℕ). eqb d 1) (digit_or k a b) ∙ by-table max ◌||◌ refl refl refl refl (digit a k) (digit b k) (digit_lt a k) (digit_lt b k)

pub bit_and_lem : (a b k : ℕ) → bit_of (bit_and a b) k ≡ bit_of a k && bit_of b k
unfolding bit_of
bit_and_lem a b k = ap (λ (d : ℕ). eqb d 1) (digit_and k a b) ∙ by-table min ◌&&◌ refl refl refl refl (digit a k) (digit b k) (digit_lt a k) (digit_lt b k)

pub bit_not : (w a k : ℕ) → k < w → a < 2 ^ w → bit_of ((2 ^ w - 1) - a) k ≡ not (bit_of a k)
unfolding bit_of
bit_not w a k l h =
    ap (λ (d : ℕ). eqb d 1) (digit_not w k a l h) ∙ by-digit (λ d. eqb (1 - d) 1 ≡ not (eqb d 1)) refl refl (digit a k) (digit_lt a k)

-- the first m bits
below_bits : (m k : ℕ) → k < m → digit (2 ^ m - 1) k ≡ 1
unfolding digit
below_bits m k l = bit_at_ones m k l

pub bit_below : (m k : ℕ) → bit_of (2 ^ m - 1) k ≡ ltb k m
bit_below m k =
    split (ltb k m)
    (λ t. bit-one (2 ^ m - 1) k (below_bits m k (ltb-true k m t)) ∙ sym t)
    (λ t. bit-none (2 ^ m - 1) k (digit_past k (2 ^ m - 1) (omega (arith, ones_lt m, pow_mono (ltb-false k m t)))) ∙ sym t)

-- `a & !b`
pub bit_minus : (w a b k : ℕ) → k < w → b < 2 ^ w → bit_of (bit_and a ((2 ^ w - 1) - b)) k ≡ bit_of a k && not (bit_of b k)
bit_minus w a b k l h = bit_and_lem a ((2 ^ w - 1) - b) k ∙ ap (λ (t : Bool). bit_of a k && t) (bit_not w b k l h)

-- bit b of v, moved to place j: `((v >> b) & 1) << j` at w bits
pub bit_moved : (w v b j k : ℕ) → j < w → bit_of ((bit_and (v / 2 ^ b) 1 * 2 ^ j) % 2 ^ w) k ≡ eqb j k && bit_of v b
unfolding bit_of
bit_moved w v b j k h =
    ap (λ (d : ℕ). bit_of ((d * 2 ^ j) % 2 ^ w) k) (and_one (v / 2 ^ b))
    ∙ by-digit (λ d. bit_of ((d * 2 ^ j) % 2 ^ w) k ≡ eqb j k && eqb d 1)
    (ap (λ (x : ℕ). bit_of x k) (ap (λ (x : ℕ). x % 2 ^ w) (zero-mul (2 ^ j)) ∙ mod-eq_of_lt (pow_pos w)) ∙ bit_of-zero k ∙ sym (and-false (eqb j k)))
    (ap (λ (x : ℕ). bit_of x k) (shl_one w j h) ∙ bit-pow j k ∙ sym (and-true (eqb j k)))
    (digit v b) (digit_lt v b)
