-- Records of letters other than those of `GCR2` and `GCR3`, so every `GCR1`, are judged as before there was a second edition, and up to 19,456 bytes read as then. Assumes nothing.
use mathlib.Core.Path.{◌≡◌, refl, sym, ap, subst, ◌∙◌}
use mathlib.Core.Bool.{Bool, true, false, not, cond, ◌&&◌}
use mathlib.Core.List.{List, [], ◌∷◌}
use Prim.Native.Nat.{ℕ, ◌≤◌}
use lib.Dec.{eqb, leb, ltb}
use lib.ListN.{length, take}
use Rattle.std.specs.Prelude.{Some, None}
use Rattle.rows.specs.Relation.{Rel}
use Rattle.record.specs.Layout.{Layout, GCR1, gcr1, gcr2, gcr3, edition_of, count_in, sites_in, zeros, same}
use Rattle.record.specs.Terms.{Held, none, value, Terms}
use Rattle.record.specs.History.{History, history_of, under}
use Rattle.record.specs.Questions.{length_right, terms_right, header_right}
use Rattle.record.specs.BeforeHarvest.{longest_before, layout_before, length_before}
use Rattle.record.proofs.LayoutLaws.{letters-name, edition-first}
use Rattle.record.proofs.BeforeHarvest.{length-kept}
use Rattle.consistency.specs.FirstPair.{first}
use Rattle.consistency.specs.Relations.{rb, ar, write, read, from}
use Rattle.consistency.specs.Reads.{last_write, same_held, held, left_by, expected, wrong_read, last_or, wrong, Last}
use Rattle.consistency.specs.Predicates.{rule, outside, breaks, verdict}
use Rattle.consistency.specs.declared.Predicate.{Predicate}
use Rattle.consistency.specs.declared.Predicate.TheVariants.{RVal, RealTime, RealTimeWrites}
use Rattle.consistency.proofs.FirstPairLaws.{first-same}
use Rattle.consistency.proofs.ClockLaws.{rb-even}
use Rattle.consistency.proofs.SameVerdict.{SameFor, verdict-under}

-- ---- what was asked of block 0, and what a read was held to, before

-- the edition that there was
abbrev pub before : Layout
before = layout_before false

abbrev pub header_before : List ℕ → Bool
header_before s = same (take 4 s) (71 ∷ 67 ∷ 82 ∷ 49 ∷ []) && (leb (count_in s) 256 && (leb 1 (sites_in s) && (leb (sites_in s) 8 && zeros 501 s 7)))

-- by one clock
abbrev pub rb_before : History → Rel
rb_before h a b = cond (h.is_pending a) false (ltb (h.return a) (h.start b))

-- none where it sees no write
abbrev pub left_before : History → Last → Held
left_before h None = none
left_before h (Some w) = value (h.value w)

abbrev pub wrong_before : History → Rel
wrong_before h e w =
    ((read h e && not (h.is_pending e)) && not (same_held (held h e) (left_before h (last_write h e)))) && eqb w (last_or e (last_write h e))

-- ---- as before

pub record AsBefore (s : List ℕ) : Type 0 where
  -- so every other question but 3, and predicates 2 and 13, of which no definition moved, are asked in the edition that there was
  pub edition : edition_of s ≡ before
  -- question 3, up to the longest record that there was
  pub length : length s ≤ longest_before → length_right s ≡ length_before s
  -- question 5
  pub header : header_right (edition_of s) s ≡ header_before s
  -- predicate 1
  pub reads : verdict RVal (history_of (edition_of s) s) ≡ first (count_in s) (wrong_before (history_of (edition_of s) s))
  -- predicates 3 and 4
  pub real_time : verdict RealTime (history_of (edition_of s) s) ≡ first (count_in s) (outside (rb_before (history_of (edition_of s) s)) (ar (history_of (edition_of s) s)))
  pub real_time_writes : verdict RealTimeWrites (history_of (edition_of s) s)
      ≡ first (count_in s) (outside (from (write (history_of (edition_of s) s)) (rb_before (history_of (edition_of s) s))) (ar (history_of (edition_of s) s)))
  -- rb, of which so, hb and predicates 5 to 12 are made
  pub times : (a b : ℕ) → rb (history_of (edition_of s) s) a b ≡ rb_before (history_of (edition_of s) s) a b
  -- all thirteen, on any terms that say the same of what the predicate is judged by; 2 and 5 to 13 are judged by none
  pub others : (p : Predicate) (t : Terms) → SameFor p t (history_of (edition_of s) s).terms → verdict p (under t (history_of (edition_of s) s)) ≡ verdict p (history_of (edition_of s) s)

left-before : (h : History) → ((o : ℕ) → h.terms.opening o ≡ none) → (e : ℕ) (l : Last) → left_by h e l ≡ left_before h l
left-before h so e None = so (h.object e)
left-before h so e (Some w) = refl

wrong-before : (h : History) → ((o : ℕ) → h.terms.opening o ≡ none) → (e w : ℕ) → wrong h e w ≡ wrong_before h e w
unfolding wrong wrong_read expected
wrong-before h so e w =
    ap (λ (x : Held). ((read h e && not (h.is_pending e)) && not (same_held (held h e) x)) && eqb w (last_or e (last_write h e)))
    (left-before h so e (last_write h e))

reads_before : (h : History) → ((o : ℕ) → h.terms.opening o ≡ none) → verdict RVal h ≡ first h.count (wrong_before h)
unfolding verdict rule breaks
reads_before h so = first-same h.count (wrong h) (wrong_before h) (λ a b i j. wrong-before h so a b)

header-before : (s : List ℕ) → header_right gcr1 s ≡ header_before s
unfolding header_right terms_right
header-before s = refl

none_before : (s : List ℕ) (o : ℕ) → (history_of gcr1 s).terms.opening o ≡ none
unfolding history_of
none_before s o = refl

even-before : (s : List ℕ) → (history_of gcr1 s).terms.difference ≡ 0
unfolding history_of
even-before s = refl

module _ (h : History) (even : h.terms.difference ≡ 0) where
  before_same : (f : Bool → Bool) (a b : ℕ) → f (rb h a b) ≡ f (rb_before h a b)
  before_same f a b = ap f (rb-even h a b even)

  real_time-before : verdict RealTime h ≡ first h.count (outside (rb_before h) (ar h))
  unfolding verdict rule breaks
  real_time-before = first-same h.count (outside (rb h) (ar h)) (outside (rb_before h) (ar h)) (λ a b i j. before_same (λ (t : Bool). t && not (ar h a b)) a b)

  writes-before : verdict RealTimeWrites h ≡ first h.count (outside (from (write h) (rb_before h)) (ar h))
  unfolding verdict rule breaks
  writes-before = first-same h.count (outside (from (write h) (rb h)) (ar h)) (outside (from (write h) (rb_before h)) (ar h))
      (λ a b i j. before_same (λ (t : Bool). (write h a && t) && not (ar h a b)) a b)

first_count : (s : List ℕ) → (history_of gcr1 s).count ≡ count_in s
unfolding history_of
first_count s = refl

pub first_as_before : (s : List ℕ) → edition_of s ≡ gcr1 → AsBefore s
first_as_before s first_one = record {
  edition = first_one;
  length = length-kept s;
  header = ap (λ (L : Layout). header_right L s) first_one ∙ header-before s;
  reads = subst (λ (L : Layout). verdict RVal (history_of L s) ≡ first (count_in s) (wrong_before (history_of L s))) (sym first_one)
      (reads_before (history_of gcr1 s) (none_before s) ∙ ap (λ (n : ℕ). first n (wrong_before (history_of gcr1 s))) (first_count s));
  real_time = subst (λ (L : Layout). verdict RealTime (history_of L s) ≡ first (count_in s) (outside (rb_before (history_of L s)) (ar (history_of L s)))) (sym first_one)
      (real_time-before (history_of gcr1 s) (even-before s) ∙ ap (λ (n : ℕ). first n (outside (rb_before (history_of gcr1 s)) (ar (history_of gcr1 s)))) (first_count s));
  real_time_writes = subst (λ (L : Layout). verdict RealTimeWrites (history_of L s) ≡ first (count_in s) (outside (from (write (history_of L s)) (rb_before (history_of L s))) (ar (history_of L s)))) (sym first_one)
      (writes-before (history_of gcr1 s) (even-before s) ∙ ap (λ (n : ℕ). first n (outside (from (write (history_of gcr1 s)) (rb_before (history_of gcr1 s))) (ar (history_of gcr1 s)))) (first_count s));
  times = subst (λ (L : Layout). (a b : ℕ) → rb (history_of L s) a b ≡ rb_before (history_of L s) a b) (sym first_one) (λ a b. rb-even (history_of gcr1 s) a b (even-before s));
  others = λ p t. verdict-under t (history_of (edition_of s) s) p;
}

-- as every record is whose letters are no other edition's
pub as_before : (s : List ℕ) → same (take 4 s) gcr3.letters ≡ false → same (take 4 s) gcr2.letters ≡ false → AsBefore s
as_before s d e = first_as_before s (edition-first s d e)

-- and every `GCR1`
pub gcr1_as_before : (s : List ℕ) → same (take 4 s) gcr1.letters ≡ true → AsBefore s
gcr1_as_before s e = first_as_before s (letters-name GCR1 s e)
