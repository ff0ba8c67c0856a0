-- Laws of the lowest and the highest number at which a test holds. Assumes nothing.
use mathlib.Core.Path.{◌≡◌, refl, sym, ap, ◌∙◌}
use mathlib.Core.Bool.{Bool, true, false, cond, ◌||◌}
use Prim.Native.Nat.{ℕ, zero, suc, ◌+◌, ◌-◌, ◌<◌, ◌≤◌}
use native.Mathlib.Omega.{arith}
use native.Mathlib.Nat.{le_refl}
use lib.Dec.{ltb}
use borrow.Author.Tests.{ltb-true, ltb-false}
use Rattle.rows.specs.Lowest.{search_from, lowest, some, search_down, highest}
use Rattle.rows.proofs.Tests.{split, tell, same_test, or_elim, or_left, or_right}

-- ---- what is known of the lowest, and that it is the only such number

pub record Low (n : ℕ) (f : ℕ → Bool) (r : ℕ) : Type 0 where
  pub within : r ≤ n
  pub below : (k : ℕ) → k < r → f k ≡ false
  pub at : r < n → f r ≡ true

-- the same of the m numbers from k on
record Run (f : ℕ → Bool) (k m r : ℕ) : Type 0 where
  from : k ≤ r
  within : r ≤ k + m
  below : (j : ℕ) → k ≤ j → j < r → f j ≡ false
  at : r < k + m → f r ≡ true

search_run : (f : ℕ → Bool) (m k : ℕ) → Run f k m (search_from f k m)
unfolding search_from
search_run f zero k = record { from = le_refl k; within = omega arith; below = λ j h l. absurd (omega arith); at = λ l. absurd (omega arith) }
search_run f (suc m) k = go (search_run f m (suc k)) (f k) refl
  where
    go : Run f (suc k) m (search_from f (suc k) m) → (t : Bool) → f k ≡ t → Run f k (suc m) (cond t k (search_from f (suc k) m))
    go r true e = record { from = le_refl k; within = omega arith; below = λ j h l. absurd (omega arith); at = λ l. e }
    go r false e = record {
      from = omega (arith, r.from);
      within = omega (arith, r.within);
      below = λ j h l. split (ltb k j)
          (λ t. r.below j (ltb-true k j t) l)
          (λ t. let q : j ≡ k = omega (arith, ltb-false k j t) in rw q e);
      at = λ l. r.at (omega arith);
    }

pub lowest_low : (n : ℕ) (f : ℕ → Bool) → Low n f (lowest n f)
unfolding lowest
lowest_low n f =
    let r = search_run f n 0 in
    record { within = omega (arith, r.within); below = λ k h. r.below k (omega arith) h; at = λ h. r.at (omega arith) }

pub low_only : (n : ℕ) (f : ℕ → Bool) (r s : ℕ) → Low n f r → Low n f s → r ≡ s
low_only n f r s p q =
    split (ltb r s)
    (λ t. absurd (tell (f r) (p.at (omega (arith, q.within, ltb-true r s t))) (q.below r (ltb-true r s t))))
    (λ t. split (ltb s r)
    (λ u. absurd (tell (f s) (q.at (omega (arith, p.within, ltb-true s r u))) (p.below s (ltb-true s r u))))
    (λ u. omega (arith, ltb-false r s t, ltb-false s r u)))

pub lowest_is : (n : ℕ) (f : ℕ → Bool) (r : ℕ) → Low n f r → lowest n f ≡ r
lowest_is n f r p = low_only n f (lowest n f) r (lowest_low n f) p

-- where a loop found it, or found none
pub lowest_hit : (n : ℕ) (f : ℕ → Bool) (r : ℕ) → r < n → ((k : ℕ) → k < r → f k ≡ false) → f r ≡ true → lowest n f ≡ r
lowest_hit n f r h b e = lowest_is n f r (record { within = omega arith; below = b; at = λ l. e })

pub lowest-none : (n : ℕ) (f : ℕ → Bool) → ((k : ℕ) → k < n → f k ≡ false) → lowest n f ≡ n
lowest-none n f b = lowest_is n f n (record { within = omega arith; below = b; at = λ l. absurd (omega arith) })

-- tests that agree below n
pub same-lowest : (n : ℕ) (f g : ℕ → Bool) → ((k : ℕ) → k < n → f k ≡ g k) → lowest n f ≡ lowest n g
same-lowest n f g e =
    let l = lowest_low n g in
    lowest_is n f (lowest n g) (record {
      within = l.within;
      below = λ k h. e k (omega (arith, l.within)) ∙ l.below k h;
      at = λ h. e (lowest n g) h ∙ l.at h;
    })

-- ---- a loop's turn: i numbers are passed, and n - i are left

pub search_start : (n : ℕ) (f : ℕ → Bool) → lowest n f ≡ search_from f 0 (n - 0)
unfolding lowest
search_start n f = let z : n ≡ n - 0 = omega arith in ap (search_from f 0) z

search_suc : (f : ℕ → Bool) (i m j n : ℕ) → n ≡ suc m → j ≡ suc i → f i ≡ false → search_from f i n ≡ search_from f j m
unfolding search_from
search_suc f i m j n p q e = rw (p, q, e)

search_at : (f : ℕ → Bool) (i m n : ℕ) → n ≡ suc m → f i ≡ true → search_from f i n ≡ i
unfolding search_from
search_at f i m n p e = rw (p, e)

pub search_more : (n : ℕ) (f : ℕ → Bool) (i : ℕ) → i < n → f i ≡ false → search_from f i (n - i) ≡ search_from f (i + 1) (n - (i + 1))
search_more n f i h e = search_suc f i (n - (i + 1)) (i + 1) (n - i) (omega arith) (omega arith) e

pub search_hit : (n : ℕ) (f : ℕ → Bool) (i : ℕ) → i < n → f i ≡ true → search_from f i (n - i) ≡ i
search_hit n f i h e = search_at f i (n - (i + 1)) (n - i) (omega arith) e

pub search_end : (n : ℕ) (f : ℕ → Bool) (i : ℕ) → n ≤ i → search_from f i (n - i) ≡ i
unfolding search_from
search_end n f i h = let z : n - i ≡ 0 = omega arith in rw z

-- the same as a loop's invariant
pub record Searched (n : ℕ) (f : ℕ → Bool) (i : ℕ) : Type 0 where
  pub within : i ≤ n
  pub left : lowest n f ≡ search_from f i (n - i)

pub searched_start : (n : ℕ) (f : ℕ → Bool) → Searched n f 0
searched_start n f = record { within = omega arith; left = search_start n f }

pub searched_more : {n : ℕ} {f : ℕ → Bool} {i : ℕ} → Searched n f i → i < n → f i ≡ false → Searched n f (i + 1)
searched_more {n} {f} {i} l h e = record { within = omega arith; left = l.left ∙ search_more n f i h e }

pub searched_hit : {n : ℕ} {f : ℕ → Bool} {i : ℕ} → Searched n f i → i < n → f i ≡ true → i ≡ lowest n f
searched_hit {n} {f} {i} l h e = sym (l.left ∙ search_hit n f i h e)

pub searched_end : {n : ℕ} {f : ℕ → Bool} {i : ℕ} → Searched n f i → n ≤ i → n ≡ lowest n f
searched_end {n} {f} {i} l h =
    let all : n ≡ i = omega (arith, l.within) in
    all ∙ sym (l.left ∙ search_end n f i h)

-- ---- whether there is any

pub some_of : (n : ℕ) (f : ℕ → Bool) (k : ℕ) → k < n → f k ≡ true → some n f ≡ true
unfolding some
some_of n f k h e =
    split (ltb (lowest n f) n) (λ t. t)
    (λ t. absurd (tell (f k) e ((lowest_low n f).below k (omega (arith, ltb-false (lowest n f) n t)))))

pub some_at : (n : ℕ) (f : ℕ → Bool) → some n f ≡ true → (lowest n f < n) × (f (lowest n f) ≡ true)
unfolding some
some_at n f e = let h = ltb-true (lowest n f) n e in (h, (lowest_low n f).at h)

pub some-none : (n : ℕ) (f : ℕ → Bool) → some n f ≡ false → (k : ℕ) → k < n → f k ≡ false
unfolding some
some-none n f e k h = (lowest_low n f).below k (omega (arith, ltb-false (lowest n f) n e))

pub none-some : (n : ℕ) (f : ℕ → Bool) → ((k : ℕ) → k < n → f k ≡ false) → some n f ≡ false
none-some n f h = split (some n f) (λ t. let w = some_at n f t in absurd (tell (f (lowest n f)) w.1 (h (lowest n f) w.0))) (λ t. t)

pub same_some : (n : ℕ) (f g : ℕ → Bool) → ((k : ℕ) → k < n → f k ≡ g k) → some n f ≡ some n g
unfolding some
same_some n f g e = ap (λ (r : ℕ). ltb r n) (same-lowest n f g e)

pub some_more : (n : ℕ) (f : ℕ → Bool) → some (suc n) f ≡ some n f || f n
some_more n f = same_test (some (suc n) f) (some n f || f n) there back
  where
    there : some (suc n) f ≡ true → some n f || f n ≡ true
    there e =
        let w = some_at (suc n) f e in
        split (ltb (lowest (suc n) f) n)
        (λ t. or_left (some n f) (f n) (some_of n f (lowest (suc n) f) (ltb-true (lowest (suc n) f) n t) w.1))
        (λ t. or_right (some n f) (f n) (let q : lowest (suc n) f ≡ n = omega (arith, w.0, ltb-false (lowest (suc n) f) n t) in rw q at w.1))

    back : some n f || f n ≡ true → some (suc n) f ≡ true
    back e = or_elim (some n f) (f n) e
        (λ t. let w = some_at n f t in some_of (suc n) f (lowest n f) (omega (arith, w.0)) w.1)
        (λ t. some_of (suc n) f n (le_refl (suc n)) t)

-- ---- the highest

-- what is known of the highest of the numbers below k
record Down (f : ℕ → Bool) (n k r : ℕ) : Type 0 where
  at : r < n → f r ≡ true
  none : n ≤ r → (j : ℕ) → j < k → f j ≡ false

search_down_lem : (f : ℕ → Bool) (n k : ℕ) → k ≤ n → Down f n k (search_down f n k)
unfolding search_down
search_down_lem f n zero h = record { at = λ l. absurd (omega arith); none = λ p j q. absurd (omega arith) }
search_down_lem f n (suc k) h = go (search_down_lem f n k (omega arith)) (f k) refl
  where
    go : Down f n k (search_down f n k) → (t : Bool) → f k ≡ t → Down f n (suc k) (cond t k (search_down f n k))
    go r true e = record { at = λ l. e; none = λ p j q. absurd (omega arith) }
    go r false e = record { at = r.at; none = λ p j. below j (r.none p j) }
      where
        below : (j : ℕ) → (j < k → f j ≡ false) → j < suc k → f j ≡ false
        below j g q = split (ltb j k) (λ t. g (ltb-true j k t)) (λ t. let i : j ≡ k = omega (arith, ltb-false j k t) in rw i e)

module _ (n : ℕ) (f : ℕ → Bool) (r : ℕ) (is : r ≡ highest n f) where
  down : Down f n n r
  unfolding highest
  down = rw is (search_down_lem f n n (le_refl n))

  pub highest-at : r < n → f r ≡ true
  highest-at = down.at

  pub highest_past : n ≤ r → (j : ℕ) → j < n → f j ≡ false
  highest_past = down.none

-- where a loop found it, or found none
down_hit : (f : ℕ → Bool) (n k r : ℕ) → r < k → f r ≡ true → ((j : ℕ) → r < j → j < k → f j ≡ false) → search_down f n k ≡ r
unfolding search_down
down_hit f n zero r h e a = absurd (omega arith)
down_hit f n (suc k) r h e a = split (ltb r k)
    (λ t. let l : r < k = ltb-true r k t in rw (a k l (le_refl (suc k))) (down_hit f n k r l e (λ j p q. a j p (omega arith))))
    (λ t. let q : r ≡ k = omega (arith, ltb-false r k t) in let s : f k ≡ true = rw q at e in rw s (sym q))

pub highest_hit : (n : ℕ) (f : ℕ → Bool) (r : ℕ) → r < n → f r ≡ true → ((j : ℕ) → r < j → j < n → f j ≡ false) → highest n f ≡ r
unfolding highest
highest_hit n f r h e a = down_hit f n n r h e a

down_none : (f : ℕ → Bool) (n k : ℕ) → ((j : ℕ) → j < k → f j ≡ false) → search_down f n k ≡ n
unfolding search_down
down_none f n zero a = refl
down_none f n (suc k) a = rw (a k (le_refl (suc k))) (down_none f n k (λ j p. a j (omega arith)))

pub highest-none : (n : ℕ) (f : ℕ → Bool) → ((j : ℕ) → j < n → f j ≡ false) → highest n f ≡ n
unfolding highest
highest-none n f a = down_none f n n a
