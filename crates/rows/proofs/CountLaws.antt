-- Laws of sums and of how many numbers pass a test; the ones of a word, and the members of a row that another lacks. Assumes nothing.
use mathlib.Core.Path.{◌≡◌, refl, sym, ap, ◌∙◌}
use mathlib.Core.Bool.{Bool, true, false, not, cond, ◌||◌}
use mathlib.Core.List.{List}
use Prim.Native.Nat.{ℕ, zero, suc, ◌+◌, ◌-◌, ◌*◌, ◌/◌, ◌%◌, ◌^◌, ◌≤◌, ◌<◌}
use native.Mathlib.Omega.{arith}
use borrow.Author.Tests.{eq-eqb, ne_eqb, eqb-true, eqb-false}
use lib.Count.{ones, ones_step, ones-le}
use lib.Dec.{eqb}
use lib.ListN.{length, get_or, take}
use lib.Seq.{take_all}
use Rattle.std.specs.List.{zip, sum_by}
use Rattle.std.proofs.lemmas.List.Sums.{sum_by_more}
use Rattle.std.proofs.lemmas.Slice.Zip.{length-zip, get_or-zip}
use native.Mathlib.Nat.{le_refl, pow-succ'}
use Rattle.rows.specs.Lowest.{some}
use Rattle.rows.specs.Count.{sum, how_many}
use Rattle.rows.specs.Row.{bit_of, only_first}
use Rattle.rows.proofs.Tests.{split}
use Rattle.rows.proofs.LowestLaws.{some_of, some_more, none-some}
use Rattle.rows.proofs.Digits.{digit-zero, digit-suc}
use Rattle.rows.proofs.RowLaws.{and_not, lacking, lacking_lt, only_word}

-- ---- sums

pub sum-none : (f : ℕ → ℕ) → sum 0 f ≡ 0
unfolding sum
sum-none f = refl

pub sum_more : (k : ℕ) (f : ℕ → ℕ) → sum (suc k) f ≡ sum k f + f k
unfolding sum
sum_more k f = refl

pub sum_same : (k : ℕ) (f g : ℕ → ℕ) → ((j : ℕ) → j < k → f j ≡ g j) → sum k f ≡ sum k g
unfolding sum
sum_same zero f g h = refl
sum_same (suc k) f g h = omega (arith, sum_same k f g (λ j l. h j (omega arith)), h k (le_refl _))

pub sum-most : (k : ℕ) (f : ℕ → ℕ) (c : ℕ) → ((j : ℕ) → j < k → f j ≤ c) → sum k f ≤ k * c
unfolding sum
sum-most zero f c h = omega arith
sum-most (suc k) f c h = omega (arith, sum-most k f c (λ j l. h j (omega arith)), h k (le_refl _))

pub sum-each : (k c : ℕ) → sum k (λ j. c) ≡ k * c
unfolding sum
sum-each zero c = omega arith
sum-each (suc k) c = omega (arith, sum-each k c)

pub sum-add : (k : ℕ) (f g : ℕ → ℕ) → sum k (λ j. f j + g j) ≡ sum k f + sum k g
unfolding sum
sum-add zero f g = refl
sum-add (suc k) f g = omega (arith, sum-add k f g)

-- one term is d more
pub sum-other : (k : ℕ) (f g : ℕ → ℕ) (i d : ℕ) → i < k → f i ≡ g i + d → ((j : ℕ) → j < k → (j ≡ i → ⊥) → f j ≡ g j) → sum k f ≡ sum k g + d
unfolding sum
sum-other zero f g i d l here there = absurd (omega arith)
sum-other (suc k) f g i d l here there =
    split (eqb k i)
    (λ t.
    let q : k ≡ i = eqb-true k i t in
    omega (arith, sum_same k f g (λ j m. there j (omega arith) (λ e. omega arith)), ap f q, ap g q))
    (λ t.
    let ne : k ≡ i → ⊥ = eqb-false k i t in
    omega (arith, sum-other k f g i d (omega arith) here (λ j m. there j (omega arith)), there k (le_refl _) ne))

-- the first k terms, and then m more
pub sum_split : (k m : ℕ) (f : ℕ → ℕ) → sum (k + m) f ≡ sum k f + sum m (λ j. f (k + j))
unfolding sum
sum_split k zero f = let z : k + 0 ≡ k = omega arith in ap (λ (i : ℕ). sum i f) z ∙ omega arith
sum_split k (suc m) f =
    let z : k + suc m ≡ suc (k + m) = omega arith in
    ap (λ (i : ℕ). sum i f) z ∙ omega (arith, sum_split k m f)

-- ---- how many

one_le : (s t : Bool) → (s ≡ true → t ≡ true) → cond s 1 0 ≤ cond t 1 0
one_le true t h = rw (h refl) (le_refl 1)
one_le false t h = omega arith

pub many_le : (n : ℕ) (f g : ℕ → Bool) → ((x : ℕ) → x < n → g x ≡ true → f x ≡ true) → how_many n g ≤ how_many n f
unfolding sum
many_le zero f g within = omega arith
many_le (suc n) f g within = omega (arith, one_le (g n) (f n) (within n (le_refl _)), many_le n f g (λ x l. within x (omega arith)))

-- fewer where it holds at a no more
pub many_less : (n : ℕ) (f g : ℕ → Bool) → ((x : ℕ) → x < n → g x ≡ true → f x ≡ true) → (a : ℕ) → a < n → f a ≡ true → g a ≡ false
    → how_many n g < how_many n f
unfolding sum
many_less zero f g within a h e d = absurd (omega arith)
many_less (suc n) f g within a h e d =
    let here : cond (g n) 1 0 ≤ cond (f n) 1 0 = one_le (g n) (f n) (within n (le_refl _)) in
    split (eqb a n)
    (λ t.
    let q : a ≡ n = eqb-true a n t in
    rw (rw q at e, rw q at d) (omega (arith, many_le n f g (λ x l. within x (omega arith)))))
    (λ t.
    let ne = eqb-false a n t in
    omega (arith, many_less n f g (λ x l. within x (omega arith)) a (omega arith) e d))

pub many_same : (n : ℕ) (f g : ℕ → Bool) → ((x : ℕ) → x < n → f x ≡ g x) → how_many n f ≡ how_many n g
many_same n f g h = sum_same n _ _ (λ x l. ap (λ (t : Bool). cond {A = ℕ} t 1 0) (h x l))

pub many_most : (n : ℕ) (f : ℕ → Bool) → how_many n f ≤ n
many_most n f = omega (arith, sum-most n (λ x. cond (f x) 1 0) 1 (λ x l. split (f x) (λ t. rw t (omega arith)) (λ t. rw t (omega arith))))

-- not all, where a fails
pub many_few : (n : ℕ) (f : ℕ → Bool) (a : ℕ) → a < n → f a ≡ false → how_many n f < n
many_few n f a l e = omega (arith, many_less n (λ x. true) f (λ x m t. refl) a l refl e, sum-each n 1)

pub many_all : (n : ℕ) (f : ℕ → Bool) → n ≤ how_many n f → (a : ℕ) → a < n → f a ≡ true
many_all n f all a l = split (f a) (λ t. t) (λ t. absurd (omega (arith, many_few n f a l t)))

-- all but one
pub many_others : (n s : ℕ) → s < n → how_many n (λ t. not (eqb t s)) ≡ n - 1
many_others n s l =
    let all : sum n (λ t. 1) ≡ how_many n (λ t. not (eqb t s)) + 1 =
    sum-other n (λ t. 1) (λ t. cond (not (eqb t s)) 1 0) s 1 l (rw (eq-eqb s s refl) refl) (λ t m other. rw (ne_eqb t s other) refl) in
    omega (arith, sum-each n 1)

-- none past the first k
pub many_past : (k m : ℕ) (f : ℕ → Bool) → ((x : ℕ) → k ≤ x → f x ≡ false) → how_many (k + m) f ≡ how_many k f
many_past k m f none =
    sum_split k m (λ x. cond (f x) 1 0)
    ∙ omega (arith, sum-most m (λ j. cond (f (k + j)) 1 0) 0 (λ j l. rw (none (k + j) (omega arith)) (omega arith)))

-- ---- the ones of a word

bit-first : (x : ℕ) → cond (bit_of x 0) 1 0 ≡ x % 2
unfolding bit_of
bit-first x = rw (digit-zero x) (go (x % 2) (omega arith))
  where
    go : (d : ℕ) → d < 2 → cond (eqb d 1) 1 0 ≡ d
    go zero l = refl
    go (suc zero) l = refl
    go (suc (suc d)) l = absurd (omega arith)

bit-later : (x j : ℕ) → bit_of x (1 + j) ≡ bit_of (x / 2) j
unfolding bit_of
bit-later x j = let next : 1 + j ≡ suc j = omega arith in rw next (ap (λ (d : ℕ). eqb d 1) (digit-suc x j))

pub ones_many : (w x : ℕ) → x < 2 ^ w → how_many w (bit_of x) ≡ ones x
ones_many zero x l = omega (arith, sum-none (λ k. cond (bit_of x k) 1 0), ones-le 0 x l)
ones_many (suc w) x l =
    let next : suc w ≡ 1 + w = omega arith in
    ap (λ (k : ℕ). how_many k (bit_of x)) next
    ∙ sum_split 1 w (λ k. cond (bit_of x k) 1 0)
    ∙ omega (
      arith,
      sum_more 0 (λ k. cond (bit_of x k) 1 0),
      sum-none (λ k. cond (bit_of x k) 1 0),
      bit-first x,
      many_same w (λ j. bit_of x (1 + j)) (bit_of (x / 2)) (λ j m. bit-later x j),
      ones_many w (x / 2) (omega (arith, pow-succ' 2 w)),
      ones_step x,
    )

-- ---- what a row has and another lacks, a word more

pub only_many : (a b : List ℕ) (i : ℕ) → get_or a i 0 < 2 ^ 64 → get_or b i 0 < 2 ^ 64
    → how_many ((i + 1) * 64) (only_first a b) ≡ how_many (i * 64) (only_first a b) + ones (lacking a b i)
only_many a b i h k =
    let next : (i + 1) * 64 ≡ i * 64 + 64 = omega arith in
    ap (λ (n : ℕ). how_many n (only_first a b)) next
    ∙ sum_split (i * 64) 64 (λ x. cond (only_first a b x) 1 0)
    ∙ omega (
      arith,
      many_same 64 (λ j. only_first a b (i * 64 + j)) (bit_of (lacking a b i)) (only_word a b i k),
      ones_many 64 (lacking a b i) (lacking_lt a b i h),
    )

-- and in all words
module _ (a b : List ℕ) (wide : length a ≤ length b) (fits : (i : ℕ) → get_or a i 0 < 2 ^ 64) (fits' : (i : ℕ) → get_or b i 0 < 2 ^ 64) where
  counted : (i : ℕ) → i ≤ length a → sum_by (λ p. ones (and_not p.0 p.1)) (take i (zip a b)) ≡ how_many (i * 64) (only_first a b)
  counted zero h = sym (sum-none (λ x. cond (only_first a b x) 1 0))
  counted (suc i) h =
      let next : suc i ≡ i + 1 = omega arith in
      let here : ones (and_not (get_or (zip a b) i (0, 0)).0 (get_or (zip a b) i (0, 0)).1) ≡ ones (lacking a b i) = ap (λ (p : ℕ × ℕ). ones (and_not p.0 p.1)) (get_or-zip a b i (0, 0) h (omega arith)) in
      rw next (sum_by_more (λ p. ones (and_not p.0 p.1)) (zip a b) i (0, 0) (omega (arith, length-zip a b))
      ∙ omega (arith, counted i (omega arith), here, only_many a b i (fits i) (fits' i)))

  pub ones_counted : sum_by (λ p. ones (and_not p.0 p.1)) (zip a b) ≡ how_many (64 * length a) (only_first a b)
  ones_counted =
      let all : take (length a) (zip a b) ≡ zip a b = take_all (length a) (zip a b) (omega (arith, length-zip a b)) in
      let turn : length a * 64 ≡ 64 * length a = omega arith in
      ap (sum_by (λ p. ones (and_not p.0 p.1))) (sym all) ∙ counted (length a) (le_refl _) ∙ ap (λ (n : ℕ). how_many n (only_first a b)) turn

-- ---- different numbers below n

-- x is one of f 0 .. f (m - 1)
abbrev valued : (ℕ → ℕ) → ℕ → ℕ → Bool
valued f m x = some m (λ i. eqb (f i) x)

module _ (n : ℕ) (f : ℕ → ℕ) where
  many_valued : (m : ℕ) → ((i : ℕ) → i < m → f i < n) → ((i j : ℕ) → i < j → j < m → f i ≡ f j → ⊥) → how_many n (valued f m) ≡ m
  many_valued zero below apart = many_same n (valued f 0) (λ x. false) (λ x l. none-some 0 (λ i. eqb (f i) x) (λ i h. absurd (omega arith))) ∙ sum-each n 0 ∙ omega arith
  many_valued (suc m) below apart =
      let rest = many_valued m (λ i h. below i (omega arith)) (λ i j h l. apart i j h (omega arith)) in
      let new : valued f m (f m) ≡ false = none-some m (λ i. eqb (f i) (f m)) (λ i h. ne_eqb (f i) (f m) (λ q. apart i m h (le_refl (suc m)) q)) in
      let now : valued f (suc m) (f m) ≡ true = some_of (suc m) (λ i. eqb (f i) (f m)) m (le_refl (suc m)) (eq-eqb (f m) (f m) refl) in
      sum-other n (λ x. cond (valued f (suc m) x) 1 0) (λ x. cond (valued f m x) 1 0) (f m) 1 (below m (le_refl (suc m)))
      (rw (new, now) refl)
      (λ x l other. ap (λ (t : Bool). cond {A = ℕ} t 1 0) (some_more m (λ i. eqb (f i) x) ∙ or-none (valued f m x) (eqb (f m) x) (ne_eqb (f m) x (λ q. other (sym q)))))
      ∙ omega (arith, rest)
    where
      or-none : (t u : Bool) → u ≡ false → t || u ≡ t
      or-none true u e = refl
      or-none false u e = e

  -- there are at most n
  pub few_different : (m : ℕ) → ((i : ℕ) → i < m → f i < n) → ((i j : ℕ) → i < j → j < m → f i ≡ f j → ⊥) → m ≤ n
  few_different m below apart = omega (arith, many_valued m below apart, many_most n (valued f m))

  -- and where there are n, each number below n is one of them
  pub all_different : ((i : ℕ) → i < n → f i < n) → ((i j : ℕ) → i < n → j < n → f i ≡ f j → i ≡ j) → (x : ℕ) → x < n → some n (λ i. eqb (f i) x) ≡ true
  all_different below apart x l =
      many_all n (valued f n) (omega (arith, many_valued n below (λ i j h k q. omega (arith, apart i j (omega arith) k q)))) x l
