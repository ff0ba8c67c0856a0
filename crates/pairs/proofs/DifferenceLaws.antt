-- Laws of rows that tell two relations apart: what exactly one of two rows has, a row cut to one object, and the events for which two relations
-- differ anywhere. Assumes nothing.
use mathlib.Core.Path.{◌≡◌, refl, sym, ap, ap₂, ◌∙◌}
use mathlib.Core.Bool.{Bool, true, false, not, ◌&&◌, ◌||◌, and-true, and-false, beq}
use mathlib.Core.List.{List}
use Prim.Native.Nat.{ℕ, zero, suc, ◌+◌, ◌*◌, ◌/◌, ◌%◌, ◌^◌, ◌≤◌, ◌<◌}
use native.Mathlib.Numerals.{add-one}
use native.Mathlib.Omega.{arith}
use lib.Dec.{eqb, ltb}
use lib.Bits.{bit_and, bit_xor, xor_shr, xor_mod}
use lib.ListN.{length, get_or, replicate}
use Rattle.std.specs.Prelude.{Some, None}
use Rattle.rows.specs.Lowest.{some}
use Rattle.rows.specs.Row.{digit, bit_of, has, row_at, Row}
use Rattle.rows.specs.Relation.{Rel, Table}
use Rattle.rows.proofs.Tests.{split, tell, and_left, and_right}
use Rattle.rows.proofs.Digits.{digit_lt, bit_and_lem}
use Rattle.rows.proofs.LowestLaws.{some_more, some-none, none-some}
use Rattle.rows.proofs.RowLaws.{has_word, has_past, row_empty, row_has, row_same}
use Rattle.record.specs.History.{History, vis}
use Rattle.record.specs.Words.{object_in, history_from}
use Rattle.consistency.specs.Relations.{ob, ar}
use Rattle.consistency.specs.Predicates.{differ, excused}
use Rattle.events.specs.Given.{Given, Groups, every_row, fields_of}
use Rattle.consistency.specs.FirstPair.{first}
use Rattle.consistency.proofs.FirstPairLaws.{first-at, first-none}
use Rattle.pairs.specs.Searches.{all_pairs, cut_to, misplaced, told_apart, Compared, Parted}

-- ---- what exactly one of a and b has joins a row, word by word

bit_xor_lem : (a b k : ℕ) → bit_of (bit_xor a b) k ≡ differ (bit_of a k) (bit_of b k)
unfolding digit bit_of
bit_xor_lem a b k = ap (λ (x : ℕ). eqb x 1) (ap (λ (x : ℕ). x % 2) (xor_shr a b k) ∙ xor_mod (a / 2 ^ k) (b / 2 ^ k) 1) ∙ go (digit a k) (digit b k) (digit_lt a k) (digit_lt b k)
  where
    go : (x y : ℕ) → x < 2 → y < 2 → eqb (bit_xor x y) 1 ≡ differ (eqb x 1) (eqb y 1)
    go zero zero h i = refl
    go zero (suc zero) h i = refl
    go zero (suc (suc y)) h i = absurd (omega (arith, i))
    go (suc zero) zero h i = refl
    go (suc zero) (suc zero) h i = refl
    go (suc zero) (suc (suc y)) h i = absurd (omega (arith, i))
    go (suc (suc x)) y h i = absurd (omega (arith, h))

-- cut to the members of m
pub differ_word : (a b m : List ℕ) (i k : ℕ) → k < 64 → differ (has a (i * 64 + k)) (has b (i * 64 + k)) && has m (i * 64 + k) ≡ bit_of (bit_and (bit_xor (get_or a i 0) (get_or b i 0)) (get_or m i 0)) k
differ_word a b m i k h =
    ap₂ ◌&&◌ (ap₂ differ (has_word a i k h) (has_word b i k h) ∙ sym (bit_xor_lem (get_or a i 0) (get_or b i 0) k)) (has_word m i k h)
    ∙ sym (bit_and_lem (bit_xor (get_or a i 0) (get_or b i 0)) (get_or m i 0) k)

pub both_word : (a m : List ℕ) (i k : ℕ) → k < 64 → has a (i * 64 + k) && has m (i * 64 + k) ≡ bit_of (bit_and (get_or a i 0) (get_or m i 0)) k
both_word a m i k h = ap₂ ◌&&◌ (has_word a i k h) (has_word m i k h) ∙ sym (bit_and_lem (get_or a i 0) (get_or m i 0) k)

pub mate_past : (t : Bool) (m : List ℕ) (x : ℕ) → 64 * length m ≤ x → t && has m x ≡ false
mate_past t m x h = ap (λ (u : Bool). t && u) (has_past m x h) ∙ and-false t

-- ---- the events with which b is compared

module _ (cut : Bool) (n w : ℕ) (l v groups : List ℕ) (b k : ℕ) (m : List ℕ) (i : Groups n w l groups) (e : m ≡ row_at groups w k) where
  pub mates_all : cut ≡ false → k ≡ every_row → Row n (λ a. cut_to cut (history_from n w l v) all_pairs a b) m
  mates_all c q = rw (c, e, q) i.every

  pub mates_cut : cut ≡ true → k ≡ object_in l b → Row n (λ a. cut_to cut (history_from n w l v) all_pairs a b) m
  unfolding ob history_from
  mates_cut c q = rw (c, e, ← q) (i.objects k (omega arith))

-- what is cut is what has a mate
cut_mate : (cut : Bool) (h : History) (q : Rel) (a b : ℕ) → cut_to cut h q a b ≡ q a b && cut_to cut h all_pairs a b
cut_mate true h q a b = refl
cut_mate false h q a b = sym (and-true (q a b))

-- ---- the events for which two relations differ on some event

module _ (cut : Bool) (h : History) (q r : Rel) where
  -- both cut
  abbrev less : Rel → Rel
  less p = cut_to cut h p

  pub compared_none : (k m : ℕ) (d v : List ℕ) → d ≡ replicate k 0 → v ≡ replicate m 0 → Compared h.count 0 (less q) (less r) d v
  compared_none k m d v e f = record {
    differs = rw e (none k (λ x y. differ (less q x y) (less r x y)));
    begins = rw f (none m (less q));
  }
    where
      none : (k : ℕ) (p : Rel) → Row h.count (λ a. some 0 (p a)) (replicate k 0)
      none k p = row_same h.count (λ x. false) (replicate k 0) (row_empty h.count k) (λ a. some 0 (p a)) (λ x h. sym (none-some 0 (p x) (λ k l. absurd (omega arith))))

  -- event k more: it is seen by those of s, ar has those of p before it, and m are its mates
  pub compared_more : (k : ℕ) (d v s p m d' v' : List ℕ) → Compared h.count k (less q) (less r) d v → Row h.count (λ a. q a k) s → Row h.count (λ a. r a k) p
      → Row h.count (λ a. less all_pairs a k) m → ((x : ℕ) → has d' x ≡ has d x || differ (has s x) (has p x) && has m x) → ((x : ℕ) → has v' x ≡ has v x || has s x && has m x)
      → Compared h.count (k + 1) (less q) (less r) d' v'
  compared_more k d v s p m d' v' i t u o e f = record {
    differs = λ x. e x ∙ ap₂ ◌||◌ (i.differs x) (ap₂ ◌&&◌ (ap₂ differ (t x) (u x)) (o x)) ∙ out (ltb x h.count) (some k (both x)) (q x k) (r x k) (less all_pairs x k)
        ∙ ap (λ (y : Bool). ltb x h.count && (some k (both x) || y)) (sym (ap₂ differ (cut_mate cut h q x k) (cut_mate cut h r x k)))
        ∙ ap (λ (y : Bool). ltb x h.count && y) (next (both x));
    begins = λ x. f x ∙ ap₂ ◌||◌ (i.begins x) (ap₂ ◌&&◌ (t x) (o x)) ∙ in_row (ltb x h.count) (some k (less q x)) (q x k) (less all_pairs x k)
        ∙ ap (λ (y : Bool). ltb x h.count && (some k (less q x) || y)) (sym (cut_mate cut h q x k))
        ∙ ap (λ (y : Bool). ltb x h.count && y) (next (less q x));
  }
    where
      both : Rel
      both x y = differ (less q x y) (less r x y)

      next : (g : ℕ → Bool) → some k g || g k ≡ some (k + 1) g
      next g = rw add-one (sym (some_more k g))

      out : (y z g h c : Bool) → (y && z) || (differ (y && g) (y && h) && (y && c)) ≡ y && (z || differ (g && c) (h && c))
      out true z true true true = refl
      out true z true true false = refl
      out true z true false true = refl
      out true z true false false = refl
      out true z false true true = refl
      out true z false true false = refl
      out true z false false true = refl
      out true z false false false = refl
      out false z g h c = refl

      in_row : (y z g c : Bool) → (y && z) || ((y && g) && (y && c)) ≡ y && (z || (g && c))
      in_row true z g c = refl
      in_row false z g c = refl

-- vis and ar are apart, by the rows of b
pub apart_told : (cut : Bool) (n w : ℕ) (l v ars m : List ℕ) (a b : ℕ) (u : Bool) → Given n w l v → Table n w (ar (fields_of l)) ars → a < n → b < n
    → Row n (λ x. cut_to cut (history_from n w l v) all_pairs x b) m → u ≡ has m a && not (beq (has (row_at v w b) a) (has (row_at ars w b) a)) → u ≡ told_apart cut (history_from n w l v) a b
unfolding ob ar vis history_from
apart_told cut n w l v ars m a b u g t i j o e =
    e
    ∙ ap₂ (λ (x y : Bool). x && not (beq (has (row_at v w b) a) y)) (row_has n (λ x. cut_to cut (history_from n w l v) all_pairs x b) m o a i) (row_has n (λ x. ar (fields_of l) x b) (row_at ars w b) (t b j) a i)
    ∙ turned (cut_to cut (history_from n w l v) all_pairs a b) (has (row_at v w b) a) (ar (fields_of l) a b)
    ∙ sym (ap₂ differ (cut_mate cut (history_from n w l v) (vis (history_from n w l v)) a b) (cut_mate cut (history_from n w l v) (ar (history_from n w l v)) a b))
  where
    turned : (c s t : Bool) → c && not (beq s t) ≡ differ (s && c) (t && c)
    turned true true true = refl
    turned true true false = refl
    turned true false true = refl
    turned true false false = refl
    turned false true true = refl
    turned false true false = refl
    turned false false true = refl
    turned false false false = refl

-- ---- the first pair that breaks the rule

module _ (cut : Bool) (h : History) (differing visible : List ℕ) (i : Parted cut h differing visible) where
  -- what is asked of an event: vis and ar differ for it, and it is no pending event that nothing sees
  abbrev pub asked : ℕ → Bool
  asked a = has differing a && not (h.is_pending a && not (has visible a))

  module _ (a : ℕ) (k : a < h.count) where
    excused_test : h.is_pending a && not (has visible a) ≡ excused h (cut_to cut h (vis h)) a
    excused_test = ap (λ (t : Bool). h.is_pending a && not t) (row_has h.count (λ x. some h.count (cut_to cut h (vis h) x)) visible i.begins a k)

    differs_test : has differing a ≡ some h.count (told_apart cut h a)
    differs_test = row_has h.count (λ x. some h.count (told_apart cut h x)) differing i.differs a k

    fits : asked a ≡ false → (b : ℕ) → b < h.count → misplaced cut h a b ≡ false
    fits e b l = ap₂ (λ (s t : Bool). not s && t) (sym excused_test) refl ∙ split (has differing a)
        (λ t. ap (λ (s : Bool). s && told_apart cut h a b) (sym (ap (λ (s : Bool). s && not (h.is_pending a && not (has visible a))) t) ∙ e))
        (λ t. ap (λ (s : Bool). not (h.is_pending a && not (has visible a)) && s) (some-none h.count (told_apart cut h a) (sym differs_test ∙ t) b l) ∙ and-false (not (h.is_pending a && not (has visible a))))

    breaks : asked a ≡ true → (b : ℕ) → misplaced cut h a b ≡ told_apart cut h a b
    breaks e b =
        ap (λ (s : Bool). not s && told_apart cut h a b) (sym excused_test)
        ∙ ap (λ (s : Bool). s && told_apart cut h a b) (and_right (has differing a) (not (h.is_pending a && not (has visible a))) e)

    -- an event that fits neither way has a pair
    pub asked_any : asked a ≡ true → ((b : ℕ) → b < h.count → told_apart cut h a b ≡ false) → ⊥
    asked_any e f = tell (some h.count (told_apart cut h a)) (sym differs_test ∙ and_left (has differing a) (not (h.is_pending a && not (has visible a))) e) (none-some h.count (told_apart cut h a) f)

  pub asked_none : ((a : ℕ) → a < h.count → asked a ≡ false) → first h.count (misplaced cut h) ≡ None
  asked_none f = first-none h.count (misplaced cut h) (λ x y k l. fits x k (f x k) y l)

  pub asked_first : (a b : ℕ) → a < h.count → b < h.count → asked a ≡ true → told_apart cut h a b ≡ true → ((x : ℕ) → x < a → asked x ≡ false)
      → ((y : ℕ) → y < b → told_apart cut h a y ≡ false) → first h.count (misplaced cut h) ≡ Some (a, b)
  asked_first a b k l e t f g = first-at h.count (misplaced cut h) a b (record {
    left = k;
    right = l;
    holds = breaks a k e b ∙ t;
    least_a = λ x y m n. fits x (omega (arith, m, k)) (f x m) y n;
    least_b = λ y m. breaks a k e y ∙ g y m;
  })
