-- Laws of rows, at any width. Assumes nothing.
use mathlib.Core.Path.{◌≡◌, refl, sym, ap, ap₂, ◌∙◌}
use mathlib.Core.Logic.{◌≢◌}
use mathlib.Core.Bool.{Bool, true, false, not, ◌&&◌, ◌||◌, or_comm, and_comm, and-true, and-false, and-or_distrib_left}
use mathlib.Core.List.{List, [], ◌∷◌}
use Prim.Native.Nat.{ℕ, zero, suc, ◌+◌, ◌-◌, ◌*◌, ◌/◌, ◌%◌, ◌^◌, ◌≤◌, ◌<◌, min}
use native.Mathlib.Nat.{not-suc-le-zero, le_of_suc-le-suc}
use native.Mathlib.Numerals.{add-one}
use native.Mathlib.Omega.{arith}
use native.Mathlib.Decide.{ℕ_discrete, dec_lt}
use borrow.Author.Tests.{eq-eqb, ne_eqb, eqb-true, ltb-true, ltb-false, lt-ltb, le-ltb, not-true, not-false}
use mir.Val.{bool_byte}
use lib.Dec.{eqb, ltb}
use lib.Bits.{bit_and, bit_or, or_lt, or_zero_r, and_zero_l, and_le_l}
use lib.Count.{count_leading_zeros, count_trailing_zeros, ones, ones-le}
use lib.ListN.{length, get_or, set, take, replicate, length-set, get_or-eq_default}
use lib.Pow.{pow-lt}
use lib.Seq.{get_or-set_same, get_or-set_other, take_all}
use Rattle.rows.specs.Lowest.{lowest, highest, some}
use Rattle.rows.specs.Row.{bit_of, has, insert, erase, or_row, and_row, minus_row, count_row, only_first, below_word, Row}
use Rattle.rows.proofs.Tests.{split, tell, same_test, or_elim, or_left, or_right, and_both, and_left, and_right}
use Rattle.rows.proofs.LowestLaws.{lowest_hit, lowest_low, some-none, highest_hit}
use Rattle.rows.proofs.Digits.{shl_one, bit_below, bit_or_lem, bit_and_lem, bit_minus, bit-pow, bit-none, bit-one, none-bit, bit_of-zero, lowest_digit, leading_lt, leading_at, leading_above, ones-or-pow}

-- ---- one bit of a list of numbers, after a store: bit m of the number at j

bit-set : (l : List ℕ) (i y j m : ℕ) (t : Bool) → i < length l → (i ≡ j → bit_of y m ≡ t) → ((j ≡ i → ⊥) → bit_of (get_or l j 0) m ≡ t)
    → bit_of (get_or (set l i y) j 0) m ≡ t
bit-set l i y j m t h same other = elim (ℕ_discrete j i) [
  | yes e ↦ ap (λ (x : ℕ). bit_of (get_or (set l i y) x 0) m) e ∙ ap (λ (x : ℕ). bit_of x m) (get_or-set_same l i y 0 h) ∙ same (sym e)
  | no n ↦ ap (λ (x : ℕ). bit_of x m) (get_or-set_other l i j y 0 n) ∙ other n
]

pub bit-put : (l : List ℕ) (i k j m : ℕ) → i < length l
    → bit_of (get_or (set l i (bit_or (get_or l i 0) (2 ^ k))) j 0) m ≡ eqb i j && eqb k m || bit_of (get_or l j 0) m
bit-put l i k j m h = bit-set l i (bit_or (get_or l i 0) (2 ^ k)) j m (eqb i j && eqb k m || bit_of (get_or l j 0) m) h
    (λ e.
    bit_or_lem (get_or l i 0) (2 ^ k) m ∙ ap (λ (t : Bool). bit_of (get_or l i 0) m || t) (bit-pow k m) ∙ or_comm (bit_of (get_or l i 0) m) (eqb k m)
    ∙ ap₂ (λ (t : Bool) (x : ℕ). t && eqb k m || bit_of (get_or l x 0) m) (sym (eq-eqb i j e)) e)
    (λ n. ap (λ (t : Bool). t && eqb k m || bit_of (get_or l j 0) m) (sym (ne_eqb i j (λ q. n (sym q)))))

pub bit-drop : (w : ℕ) (l : List ℕ) (i k j m : ℕ) → i < length l → k < w → m < w
    → bit_of (get_or (set l i (bit_and (get_or l i 0) ((2 ^ w - 1) - 2 ^ k))) j 0) m ≡ not (eqb i j && eqb k m) && bit_of (get_or l j 0) m
bit-drop w l i k j m h p q = bit-set l i (bit_and (get_or l i 0) ((2 ^ w - 1) - 2 ^ k)) j m (not (eqb i j && eqb k m) && bit_of (get_or l j 0) m) h
    (λ e.
    bit_minus w (get_or l i 0) (2 ^ k) m q (pow-lt p) ∙ ap (λ (t : Bool). bit_of (get_or l i 0) m && not t) (bit-pow k m) ∙ and_comm (bit_of (get_or l i 0) m) (not (eqb k m))
    ∙ ap₂ (λ (t : Bool) (x : ℕ). not (t && eqb k m) && bit_of (get_or l x 0) m) (sym (eq-eqb i j e)) e)
    (λ n. ap (λ (t : Bool). not (t && eqb k m) && bit_of (get_or l j 0) m) (sym (ne_eqb i j (λ r. n (sym r)))))

-- two numbers are equal exactly if both their parts are
pub parts_equal : (i j k m b c : ℕ) → (i ≡ j → k ≡ m → b ≡ c) → (b ≡ c → (i ≡ j) × (k ≡ m)) → eqb i j && eqb k m ≡ eqb b c
parts_equal i j k m b c f g = same_test (eqb i j && eqb k m) (eqb b c)
    (λ e. eq-eqb b c (f (eqb-true i j (and_left (eqb i j) (eqb k m) e)) (eqb-true k m (and_right (eqb i j) (eqb k m) e))))
    (λ e. let p = g (eqb-true b c e) in and_both (eqb i j) (eqb k m) (eq-eqb i j p.0) (eq-eqb k m p.1))

word_and-bit : (b c : ℕ) → eqb (b / 64) (c / 64) && eqb (b % 64) (c % 64) ≡ eqb b c
word_and-bit b c = parts_equal (b / 64) (c / 64) (b % 64) (c % 64) b c (λ p q. omega arith) (λ e. omega arith)

-- ---- members

pub has-insert : (l : List ℕ) (b c : ℕ) → b / 64 < length l → has (insert l b) c ≡ eqb b c || has l c
unfolding has insert
has-insert l b c h =
    bit-put l (b / 64) (b % 64) (c / 64) (c % 64) h ∙ ap (λ (t : Bool). t || bit_of (get_or l (c / 64) 0) (c % 64)) (word_and-bit b c)

-- word i of a row with b put in, as a loop makes it that asks each word whether it is b's
pub word_insert : (l : List ℕ) (b i : ℕ) → b / 64 < length l → get_or (insert l b) i 0 ≡ bit_or (get_or l i 0) ((bool_byte (eqb i (b / 64)) * 2 ^ (b % 64)) % 2 ^ 64)
unfolding insert
word_insert l b i h = elim (ℕ_discrete i (b / 64)) [
  | yes q ↦ rw (eq-eqb i (b / 64) q, q, shl_one 64 (b % 64) (omega arith)) (get_or-set_same l (b / 64) (bit_or (get_or l (b / 64) 0) (2 ^ (b % 64))) 0 h)
  | no n ↦
      let none : (0 * 2 ^ (b % 64)) % 2 ^ 64 ≡ 0 = omega arith in
      get_or-set_other l (b / 64) i (bit_or (get_or l (b / 64) 0) (2 ^ (b % 64))) 0 n ∙ rw (ne_eqb i (b / 64) n, none) (sym (or_zero_r (get_or l i 0)))
]

pub insert-words : (l : List ℕ) (b : ℕ) → b / 64 < length l → ((i : ℕ) → get_or l i 0 < 2 ^ 64) → (i : ℕ) → get_or (insert l b) i 0 < 2 ^ 64
insert-words l b h words i =
    let y : ℕ = bool_byte (eqb i (b / 64)) * 2 ^ (b % 64) in
    let small : y % 2 ^ 64 < 2 ^ 64 = omega arith in
    rw (word_insert l b i h) (or_lt 64 (get_or l i 0) (y % 2 ^ 64) (words i) small)

pub insert_elim : {C : Type 0} (l : List ℕ) (b c : ℕ) → b / 64 < length l → has (insert l b) c ≡ true → (b ≡ c → C) → (has l c ≡ true → C) → C
insert_elim l b c h e f g = or_elim (eqb b c) (has l c) (sym (has-insert l b c h) ∙ e) (λ t. f (eqb-true b c t)) g

pub has-erase : (l : List ℕ) (b c : ℕ) → b / 64 < length l → has (erase l b) c ≡ not (eqb b c) && has l c
unfolding has erase
has-erase l b c h =
    bit-drop 64 l (b / 64) (b % 64) (c / 64) (c % 64) h (omega arith) (omega arith)
    ∙ ap (λ (t : Bool). not t && bit_of (get_or l (c / 64) 0) (c % 64)) (word_and-bit b c)

pub length-insert : (l : List ℕ) (b : ℕ) → length (insert l b) ≡ length l
unfolding insert
length-insert l b = length-set l (b / 64) (bit_or (get_or l (b / 64) 0) (2 ^ (b % 64)))

pub length-erase : (l : List ℕ) (b : ℕ) → length (erase l b) ≡ length l
unfolding erase
length-erase l b = length-set l (b / 64) (bit_and (get_or l (b / 64) 0) ((2 ^ 64 - 1) - 2 ^ (b % 64)))

-- by the word
pub has_word : (l : List ℕ) (i k : ℕ) → k < 64 → has l (i * 64 + k) ≡ bit_of (get_or l i 0) k
unfolding has
has_word l i k h = let p : (i * 64 + k) / 64 ≡ i = omega arith in let q : (i * 64 + k) % 64 ≡ k = omega arith in rw (p, q)

empty_word : (l : List ℕ) (b : ℕ) → get_or l (b / 64) 0 ≡ 0 → has l b ≡ false
unfolding has
empty_word l b e = ap (λ (x : ℕ). bit_of x (b % 64)) e ∙ bit_of-zero (b % 64)

-- no member is past the end
pub has_past : (l : List ℕ) (b : ℕ) → 64 * length l ≤ b → has l b ≡ false
has_past l b h = empty_word l b (get_or-eq_default l 0 (omega arith))

pub has_within : (l : List ℕ) (b : ℕ) → has l b ≡ true → b < 64 * length l
has_within l b e = split (ltb b (64 * length l)) (λ t. ltb-true b (64 * length l) t)
    (λ t. absurd (tell (has l b) e (has_past l b (ltb-false b (64 * length l) t))))

pub none_within : (l : List ℕ) → ((b : ℕ) → b < 64 * length l → has l b ≡ false) → (b : ℕ) → has l b ≡ false
none_within l none b = split (ltb b (64 * length l)) (λ t. none b (ltb-true b (64 * length l) t)) (λ t. has_past l b (ltb-false b (64 * length l) t))

replicate-zero : (n i : ℕ) → get_or {A = ℕ} (replicate n 0) i 0 ≡ 0
replicate-zero zero i = refl
replicate-zero (suc n) zero = refl
replicate-zero (suc n) (suc i) = replicate-zero n i

pub has_cleared : (n b : ℕ) → has (replicate n 0) b ≡ false
has_cleared n b = empty_word (replicate n 0) b (replicate-zero n (b / 64))

-- ---- union and intersection: word by word, as far as the second row goes

abbrev pub merge : (ℕ → ℕ → ℕ) → List ℕ → List ℕ → List ℕ
merge f [] m = []
merge f (x ∷ l) [] = x ∷ l
merge f (x ∷ l) (y ∷ m) = f x y ∷ merge f l m

-- `x & !y`
abbrev pub and_not : ℕ → ℕ → ℕ
and_not x y = bit_and x ((2 ^ 64 - 1) - y)

pub or-merge : (l m : List ℕ) → or_row l m ≡ merge bit_or l m
or-merge [] m = refl
or-merge (x ∷ l) [] = refl
or-merge (x ∷ l) (y ∷ m) = ap (λ (r : List ℕ). bit_or x y ∷ r) (or-merge l m)

pub and-merge : (l m : List ℕ) → and_row l m ≡ merge bit_and l m
and-merge [] m = refl
and-merge (x ∷ l) [] = refl
and-merge (x ∷ l) (y ∷ m) = ap (λ (r : List ℕ). bit_and x y ∷ r) (and-merge l m)

module _ (f : ℕ → ℕ → ℕ) where
  pub length-merge : (l m : List ℕ) → length (merge f l m) ≡ length l
  length-merge [] m = refl
  length-merge (x ∷ l) [] = refl
  length-merge (x ∷ l) (y ∷ m) = ap suc (length-merge l m)

  pub get_d_merge : (l m : List ℕ) (i : ℕ) → i < length l → i < length m → get_or (merge f l m) i 0 ≡ f (get_or l i 0) (get_or m i 0)
  get_d_merge [] m i h k = absurd (not-suc-le-zero h)
  get_d_merge (x ∷ l) [] i h k = absurd (not-suc-le-zero k)
  get_d_merge (x ∷ l) (y ∷ m) zero h k = refl
  get_d_merge (x ∷ l) (y ∷ m) (suc i) h k = get_d_merge l m i (le_of_suc-le-suc h) (le_of_suc-le-suc k)

  get_d_merge_past : (l m : List ℕ) (i : ℕ) → length m ≤ i → get_or (merge f l m) i 0 ≡ get_or l i 0
  get_d_merge_past [] m i h = refl
  get_d_merge_past (x ∷ l) [] i h = refl
  get_d_merge_past (x ∷ l) (y ∷ m) zero h = absurd (not-suc-le-zero h)
  get_d_merge_past (x ∷ l) (y ∷ m) (suc i) h = get_d_merge_past l m i (le_of_suc-le-suc h)

  -- a loop over the words of m: none is in yet, one more, all
  pub merge_none : (l m : List ℕ) → l ≡ merge f l (take zero m)
  merge_none [] m = refl
  merge_none (x ∷ l) m = refl

  merge-suc : (l m : List ℕ) (i : ℕ) → i < length m → length m ≤ length l
      → set (merge f l (take i m)) i (f (get_or (merge f l (take i m)) i 0) (get_or m i 0)) ≡ merge f l (take (suc i) m)
  merge-suc l [] i h k = absurd (not-suc-le-zero h)
  merge-suc [] (y ∷ m) i h k = absurd (not-suc-le-zero k)
  merge-suc (x ∷ l) (y ∷ m) zero h k = ap (λ (r : List ℕ). f x y ∷ r) (merge_none l m)
  merge-suc (x ∷ l) (y ∷ m) (suc i) h k = ap (λ (r : List ℕ). f x y ∷ r) (merge-suc l m i (le_of_suc-le-suc h) (le_of_suc-le-suc k))

  pub merge-more : (l m : List ℕ) {d : List ℕ} (i : ℕ) → d ≡ merge f l (take i m) → i < length m → length m ≤ length l
      → set d i (f (get_or d i 0) (get_or m i 0)) ≡ merge f l (take (i + 1) m)
  merge-more l m i e h k = rw (e, add-one) (merge-suc l m i h k)

  pub merge_all : (l m : List ℕ) {d : List ℕ} (i : ℕ) → d ≡ merge f l (take i m) → length m ≤ i → d ≡ merge f l m
  merge_all l m i e h = e ∙ ap (merge f l) (take_all i m h)

pub minus_merge : (l m : List ℕ) → minus_row l m ≡ merge and_not l m
minus_merge [] m = refl
minus_merge (x ∷ l) [] = refl
minus_merge (x ∷ l) (y ∷ m) = ap (λ (r : List ℕ). and_not x y ∷ r) (minus_merge l m)

pub length-or : (l m : List ℕ) → length (or_row l m) ≡ length l
length-or l m = ap length (or-merge l m) ∙ length-merge bit_or l m

pub length-and : (l m : List ℕ) → length (and_row l m) ≡ length l
length-and l m = ap length (and-merge l m) ∙ length-merge bit_and l m

pub get_d_or : (l m : List ℕ) (i : ℕ) → length m ≤ length l → get_or (or_row l m) i 0 ≡ bit_or (get_or l i 0) (get_or m i 0)
get_d_or l m i h = ap (λ (r : List ℕ). get_or r i 0) (or-merge l m) ∙ elim (dec_lt i (length m)) [
  | yes k ↦ get_d_merge bit_or l m i (omega arith) k
  | no n ↦ get_d_merge_past bit_or l m i (omega arith)
      ∙ sym (ap (bit_or (get_or l i 0)) (get_or-eq_default m 0 (omega arith)) ∙ or_zero_r (get_or l i 0))
]

pub get_d_and : (l m : List ℕ) (i : ℕ) → i < length m → get_or (and_row l m) i 0 ≡ bit_and (get_or l i 0) (get_or m i 0)
get_d_and l m i h = ap (λ (r : List ℕ). get_or r i 0) (and-merge l m) ∙ elim (dec_lt i (length l)) [
  | yes k ↦ get_d_merge bit_and l m i k h
  | no n ↦ get_or-eq_default (merge bit_and l m) 0 (omega (arith, length-merge bit_and l m))
      ∙ sym (ap (λ (x : ℕ). bit_and x (get_or m i 0)) (get_or-eq_default l 0 (omega arith)) ∙ and_zero_l (get_or m i 0))
]

pub has-or : (l m : List ℕ) (b : ℕ) → length m ≤ length l → has (or_row l m) b ≡ has l b || has m b
unfolding has
has-or l m b h = ap (λ (x : ℕ). bit_of x (b % 64)) (get_d_or l m (b / 64) h) ∙ bit_or_lem (get_or l (b / 64) 0) (get_or m (b / 64) 0) (b % 64)

-- below the end of m, past which the words of l stay
pub has-and-within : (l m : List ℕ) (b : ℕ) → b < 64 * length m → has (and_row l m) b ≡ has l b && has m b
unfolding has
has-and-within l m b h =
    ap (λ (x : ℕ). bit_of x (b % 64)) (get_d_and l m (b / 64) (omega arith)) ∙ bit_and_lem (get_or l (b / 64) 0) (get_or m (b / 64) 0) (b % 64)

pub has-and : (l m : List ℕ) (b : ℕ) → length l ≤ length m → has (and_row l m) b ≡ has l b && has m b
has-and l m b h = split (ltb b (64 * length m)) (λ t. has-and-within l m b (ltb-true b (64 * length m) t)) past
  where
    past : ltb b (64 * length m) ≡ false → has (and_row l m) b ≡ has l b && has m b
    past t =
        let far : 64 * length m ≤ b = ltb-false b (64 * length m) t in
        has_past (and_row l m) b (omega (arith, length-and l m)) ∙ sym (and-false (has l b)) ∙ ap (λ (s : Bool). has l b && s) (sym (has_past m b far))

pub has_minus : (l m : List ℕ) (b : ℕ) → ((i : ℕ) → get_or m i 0 < 2 ^ 64) → has (minus_row l m) b ≡ only_first l m b
unfolding has
has_minus l m b words = ap (λ (r : List ℕ). bit_of (get_or r (b / 64) 0) (b % 64)) (minus_merge l m) ∙ elim (dec_lt (b / 64) (length m)) [
  | yes k ↦ elim (dec_lt (b / 64) (length l)) [
    | yes h ↦ ap (λ (x : ℕ). bit_of x (b % 64)) (get_d_merge and_not l m (b / 64) h k)
        ∙ bit_minus 64 (get_or l (b / 64) 0) (get_or m (b / 64) 0) (b % 64) (omega arith) (words (b / 64))
    | no n ↦ has_past (merge and_not l m) b (omega (arith, length-merge and_not l m)) ∙ ap (λ (t : Bool). t && not (has m b)) (sym (has_past l b (omega arith)))
  ]
  | no n ↦ ap (λ (x : ℕ). bit_of x (b % 64)) (get_d_merge_past and_not l m (b / 64) (omega arith))
      ∙ sym (and-true (has l b)) ∙ ap (λ (t : Bool). has l b && not t) (sym (has_past m b (omega arith)))
]

-- ---- the count of members

count_set : (l : List ℕ) (i x : ℕ) → i < length l → count_row (set l i x) + ones (get_or l i 0) ≡ count_row l + ones x
count_set [] i x h = absurd (not-suc-le-zero h)
count_set (y ∷ l) zero x h = omega arith
count_set (y ∷ l) (suc i) x h = omega (arith, count_set l i x (le_of_suc-le-suc h))

-- a new member raises it by one
pub count-insert : (l : List ℕ) (b : ℕ) → b / 64 < length l → has l b ≡ false → count_row (insert l b) ≡ suc (count_row l)
unfolding insert has
count-insert l b h e =
    omega (arith, count_set l (b / 64) (bit_or (get_or l (b / 64) 0) (2 ^ (b % 64))) h, ones-or-pow (b % 64) (get_or l (b / 64) 0) (none-bit (get_or l (b / 64) 0) (b % 64) e))

pub count_le : (l : List ℕ) → ((i : ℕ) → get_or l i 0 < 2 ^ 64) → count_row l ≤ 64 * length l
count_le [] w = omega arith
count_le (x ∷ l) w = omega (arith, ones-le 64 x (w 0), count_le l (λ i. w (suc i)))

-- ---- the lowest number at which f holds, by a loop over words: x is f's word i, and f holds nowhere before it

module _ (f : ℕ → Bool) (i x : ℕ) (same : (k : ℕ) → k < 64 → f (i * 64 + k) ≡ bit_of x k) (none : (b : ℕ) → b < i * 64 → f b ≡ false) where
  bits_none : (t : ℕ) → t ≤ 64 → ((k : ℕ) → k < t → bit_of x k ≡ false) → (b : ℕ) → b < i * 64 + t → f b ≡ false
  bits_none t w z b h = split (ltb b (i * 64)) (λ l. none b (ltb-true b (i * 64) l)) (λ l. here (ltb-false b (i * 64) l))
    where
      here : i * 64 ≤ b → f b ≡ false
      here l =
          let place : b ≡ i * 64 + (b - i * 64) = omega arith in
          ap f place ∙ same (b - i * 64) (omega arith) ∙ z (b - i * 64) (omega arith)

  pub word_none : x ≡ 0 → (b : ℕ) → b < (i + 1) * 64 → f b ≡ false
  word_none e b h = bits_none 64 (omega arith) (λ k l. ap (λ (y : ℕ). bit_of y k) e ∙ bit_of-zero k) b (omega arith)

  pub word_found : (n : ℕ) → i < n → x < 2 ^ 64 → x ≢ 0 → i * 64 + count_trailing_zeros 64 x ≡ lowest (64 * n) f
  word_found n l h ne =
      let low = lowest_digit x h ne in
      sym (lowest_hit (64 * n) f (i * 64 + count_trailing_zeros 64 x) (omega (arith, low.0))
      (bits_none (count_trailing_zeros 64 x) (omega (arith, low.0)) (λ k q. bit-none x k (low.2 k q)))
      (same (count_trailing_zeros 64 x) low.0 ∙ bit-one x (count_trailing_zeros 64 x) low.1))

-- ---- the highest number at which f holds, by a loop over words from the last: x is f's word i, and f holds nowhere past it

module _ (f : ℕ → Bool) (i x : ℕ) (same : (k : ℕ) → k < 64 → f (i * 64 + k) ≡ bit_of x k) (none : (b : ℕ) → (i + 1) * 64 ≤ b → f b ≡ false) where
  bits_above : (t : ℕ) → ((k : ℕ) → t ≤ k → k < 64 → bit_of x k ≡ false) → (b : ℕ) → i * 64 + t ≤ b → f b ≡ false
  bits_above t z b h = split (ltb b ((i + 1) * 64)) (λ l. here (ltb-true b ((i + 1) * 64) l)) (λ l. none b (ltb-false b ((i + 1) * 64) l))
    where
      here : b < (i + 1) * 64 → f b ≡ false
      here l =
          let place : b ≡ i * 64 + (b - i * 64) = omega arith in
          ap f place ∙ same (b - i * 64) (omega arith) ∙ z (b - i * 64) (omega arith) (omega arith)

  pub word_found_down : (n : ℕ) → i < n → x < 2 ^ 64 → x ≢ 0 → i * 64 + (63 - count_leading_zeros 64 x) ≡ highest (64 * n) f
  word_found_down n l h ne =
      let t : count_leading_zeros 64 x < 64 = leading_lt 64 x h ne in
      sym (highest_hit (64 * n) f (i * 64 + (63 - count_leading_zeros 64 x)) (omega arith)
      (same (63 - count_leading_zeros 64 x) (omega arith) ∙ bit-one x (63 - count_leading_zeros 64 x) (leading_at 64 x h ne))
      (λ j p q. bits_above (suc (63 - count_leading_zeros 64 x)) (λ k u v. bit-none x k (leading_above 64 x k h ne (omega arith))) j (omega arith)))

-- the words that hold what l has and m lacks
abbrev pub lacking : List ℕ → List ℕ → ℕ → ℕ
lacking l m i = and_not (get_or l i 0) (get_or m i 0)

pub lacking_lt : (l m : List ℕ) (i : ℕ) → get_or l i 0 < 2 ^ 64 → lacking l m i < 2 ^ 64
lacking_lt l m i h = omega (arith, and_le_l (get_or l i 0) ((2 ^ 64 - 1) - get_or m i 0))

pub only_word : (l m : List ℕ) (i : ℕ) → get_or m i 0 < 2 ^ 64 → (k : ℕ) → k < 64 → only_first l m (i * 64 + k) ≡ bit_of (lacking l m i) k
only_word l m i h k q =
    ap₂ (λ (s t : Bool). s && not t) (has_word l i k q) (has_word m i k q) ∙ sym (bit_minus 64 (get_or l i 0) (get_or m i 0) k q h)

-- ---- one row within another

pub only_none : (l m : List ℕ) (x : ℕ) → only_first l m x ≡ false → has l x ≡ true → has m x ≡ true
only_none l m x e h = not-false (has m x) (sym (ap (λ (t : Bool). t && not (has m x)) h) ∙ e)

pub only-some : (l m : List ℕ) (x : ℕ) → only_first l m x ≡ true → (has l x ≡ true) × (has m x ≡ false)
only-some l m x e = (and_left (has l x) (not (has m x)) e, not-true (has m x) (and_right (has l x) (not (has m x)) e))

-- the lowest that l has and m lacks
pub only-lowest : (l m : List ℕ) (n x : ℕ) → x ≡ lowest n (only_first l m) → x < n → (has l x ≡ true) × (has m x ≡ false)
only-lowest l m n x e h =
    let k : lowest n (only_first l m) < n = omega arith in
    only-some l m x (ap (only_first l m) e ∙ (lowest_low n (only_first l m)).at k)

-- and what l has below that
pub only_below : (l m : List ℕ) (n x : ℕ) → x ≡ lowest n (only_first l m) → (y : ℕ) → y < x → has l y ≡ true → has m y ≡ true
only_below l m n x e y h t = only_none l m y ((lowest_low n (only_first l m)).below y (omega arith)) t

-- l lies within m
pub subset_has : (l m : List ℕ) → not (some (64 * length l) (only_first l m)) ≡ true → (x : ℕ) → has l x ≡ true → has m x ≡ true
subset_has l m e x h = only_none l m x (some-none (64 * length l) (only_first l m) (not-true (some (64 * length l) (only_first l m)) e) x (has_within l x h)) h

-- ---- rows that hold what a test says

pub row_of : (n : ℕ) (f : ℕ → Bool) (l : List ℕ) → ((x : ℕ) → has l x ≡ true → (x < n) × (f x ≡ true)) → ((x : ℕ) → x < n → f x ≡ true → has l x ≡ true) → Row n f l
row_of n f l sound full x = same_test (has l x) (ltb x n && f x)
    (λ e. let p = sound x e in and_both (ltb x n) (f x) (lt-ltb x n p.0) p.1)
    (λ e. full x (ltb-true x n (and_left (ltb x n) (f x) e)) (and_right (ltb x n) (f x) e))

-- a cleared row
pub row-none : (f : ℕ → Bool) (w : ℕ) → Row 0 f (replicate w 0)
row-none f w = row_of 0 f (replicate w 0) (λ x e. absurd (tell (has (replicate w 0) x) e (has_cleared w x))) (λ x h. absurd (not-suc-le-zero h))

pub row_empty : (n w : ℕ) → Row n (λ x. false) (replicate w 0)
row_empty n w x = has_cleared w x ∙ sym (and-false (ltb x n))

module _ (n : ℕ) (f : ℕ → Bool) (l : List ℕ) (r : Row n f l) where
  pub row_has : (x : ℕ) → x < n → has l x ≡ f x
  row_has x h = r x ∙ ap (λ (t : Bool). t && f x) (lt-ltb x n h)

  pub row_in : (x : ℕ) → has l x ≡ true → (x < n) × (f x ≡ true)
  row_in x e =
      let t : ltb x n && f x ≡ true = sym (r x) ∙ e in
      (ltb-true x n (and_left (ltb x n) (f x) t), and_right (ltb x n) (f x) t)

  pub row_same : (g : ℕ → Bool) → ((x : ℕ) → x < n → f x ≡ g x) → Row n g l
  row_same g e = row_of n g l (λ x h. let p = row_in x h in (p.0, sym (e x p.0) ∙ p.1)) (λ x h t. row_has x h ∙ e x h ∙ t)

  -- a loop over the numbers: the next is put in, or is not
  pub row-set : n / 64 < length l → f n ≡ true → Row (n + 1) f (insert l n)
  row-set h e = row_of (n + 1) f (insert l n) sound full
    where
      sound : (x : ℕ) → has (insert l n) x ≡ true → (x < n + 1) × (f x ≡ true)
      sound x t = or_elim (eqb n x) (has l x) (sym (has-insert l n x h) ∙ t)
          (λ q. let i : n ≡ x = eqb-true n x q in (omega arith, ap f (sym i) ∙ e))
          (λ q. let p = row_in x q in (omega (arith, p.0), p.1))

      full : (x : ℕ) → x < n + 1 → f x ≡ true → has (insert l n) x ≡ true
      full x k t = has-insert l n x h ∙ split (ltb x n)
          (λ q. or_right (eqb n x) (has l x) (row_has x (ltb-true x n q) ∙ t))
          (λ q. or_left (eqb n x) (has l x) (eq-eqb n x (omega (arith, ltb-false x n q))))

  pub row_skip : f n ≡ false → Row (n + 1) f l
  row_skip e = row_of (n + 1) f l (λ x t. let p = row_in x t in (omega (arith, p.0), p.1)) full
    where
      full : (x : ℕ) → x < n + 1 → f x ≡ true → has l x ≡ true
      full x k t = split (ltb x n) (λ q. row_has x (ltb-true x n q) ∙ t)
          (λ q. let i : x ≡ n = omega (arith, ltb-false x n q) in absurd (tell (f n) (rw i at t) e))

  -- one member more, or less
  pub row-insert : (k : ℕ) → k < n → k / 64 < length l → Row n (λ x. eqb k x || f x) (insert l k)
  row-insert k h w x = has-insert l k x w ∙ ap (λ (t : Bool). eqb k x || t) (r x) ∙ split (eqb k x) here there
    where
      here : eqb k x ≡ true → eqb k x || ltb x n && f x ≡ ltb x n && (eqb k x || f x)
      here t = let q : k ≡ x = eqb-true k x t in rw (t, lt-ltb x n (omega arith))

      there : eqb k x ≡ false → eqb k x || ltb x n && f x ≡ ltb x n && (eqb k x || f x)
      there t = rw t

-- two rows
module _ (n : ℕ) (f : ℕ → Bool) (l : List ℕ) (r : Row n f l) (g : ℕ → Bool) (m : List ℕ) (s : Row n g m) where
  pub row-or : length m ≤ length l → Row n (λ x. f x || g x) (or_row l m)
  row-or h x = has-or l m x h ∙ ap₂ ◌||◌ (r x) (s x) ∙ sym (and-or_distrib_left (ltb x n) (f x) (g x))

  pub row-and : length l ≤ length m → Row n (λ x. f x && g x) (and_row l m)
  row-and h x = has-and l m x h ∙ ap₂ ◌&&◌ (r x) (s x) ∙ twice (ltb x n) (f x) (g x)
    where
      twice : (t u v : Bool) → (t && u) && (t && v) ≡ t && (u && v)
      twice true u v = refl
      twice false u v = refl

-- ---- the numbers below n, word by word

pub row_below : (n : ℕ) (l : List ℕ) → n ≤ 64 * length l → ((i : ℕ) → i < length l → get_or l i 0 ≡ below_word n i) → Row n (λ x. true) l
unfolding has
row_below n l h e x = elim (dec_lt (x / 64) (length l)) [
  | yes k ↦
      ap (λ (y : ℕ). bit_of y (x % 64)) (e (x / 64) k) ∙ bit_below (min 64 (n - 64 * (x / 64))) (x % 64)
      ∙ same_test (ltb (x % 64) (min 64 (n - 64 * (x / 64)))) (ltb x n && true)
      (λ t. let low : x % 64 < min 64 (n - 64 * (x / 64)) = ltb-true (x % 64) (min 64 (n - 64 * (x / 64))) t in rw (lt-ltb x n (omega arith)))
      (λ t. let low : x < n = ltb-true x n (and_left (ltb x n) true t) in lt-ltb (x % 64) (min 64 (n - 64 * (x / 64))) (omega arith))
  | no k ↦ ap (λ (y : ℕ). bit_of y (x % 64)) (get_or-eq_default l 0 (omega arith)) ∙ bit_of-zero (x % 64) ∙ sym (ap (λ (t : Bool). t && true) (le-ltb x n (omega arith)))
]
