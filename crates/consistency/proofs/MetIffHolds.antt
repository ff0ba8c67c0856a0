-- For each of the thirteen predicates: the verdict is met exactly if the predicate holds, and broken at (a, b) exactly if that is the first pair
-- that breaks it. That what holds is met asks for distinct positions (question 8), and that only for predicate 1, RVal. Assumes nothing.
use mathlib.Core.Path.{◌≡◌, refl, sym, ap, ◌∙◌}
use mathlib.Core.Logic.{◌↔◌}
use mathlib.Core.Bool.{Bool, true, false, not, ◌&&◌, false≢true}
use Prim.Native.Nat.{ℕ}
use lib.Dec.{eqb}
use borrow.Author.Tests.{eqb-true, eq-eqb, not-true}
use Rattle.std.specs.Prelude.{Some, None}
use Rattle.rows.specs.Lowest.{some}
use Rattle.rows.specs.Relation.{Rel}
use Rattle.rows.proofs.LowestLaws.{some-none, none-some}
use Rattle.rows.proofs.Tests.{tell, never, and_both, and_left, and_right, not_of}
use Rattle.record.specs.History.{History}
use Rattle.consistency.specs.FirstPair.{Verdict}
use Rattle.consistency.specs.Relations.{read}
use Rattle.record.specs.Terms.{Held, none, value}
use Rattle.consistency.specs.Reads.{same_held, held, expected, last_write, last_or, wrong_read, wrong}
use Rattle.consistency.specs.Predicates.{Rule, last-value, ◌within◌, ◌fits◌, rule, outside, excused, differ, misfit, breaks, verdict}
use Rattle.consistency.specs.Holds.{Within, Fits, RightReads, DistinctPositions, Obeys, Holds}
use Rattle.consistency.specs.declared.Predicate.{Predicate}
use Rattle.consistency.proofs.FirstPairLaws.{FirstPair, NoPair, Says, first_is, says_of}
use Rattle.consistency.proofs.LastWriteLaws.{last_or_lt, expected-right, right-expected}

-- ---- inclusions

implied : (x y : Bool) → x && not y ≡ false → x ≡ true → y ≡ true
implied true true e f = refl
implied true false e f = sym e
implied false y e f = absurd (false≢true f)

imply : (x y : Bool) → (x ≡ true → y ≡ true) → x && not y ≡ false
imply true true k = refl
imply true false k = sym (k refl)
imply false y k = refl

pub none_within : (n : ℕ) (q r : Rel) → NoPair n (outside q r) → Within n q r
none_within n q r no-pair a b i j e = implied (q a b) (r a b) (no-pair a b i j) e

pub within_none : (n : ℕ) (q r : Rel) → Within n q r → NoPair n (outside q r)
within_none n q r w a b i j = imply (q a b) (r a b) (λ e. w a b i j e)

-- ---- 2 and 13: that every event fits, and that a set of pending events exists

-- x: the event is excused; q, r: the two relations at a pair that begins with it
excused_pair : (x q r : Bool) → not x && differ q r ≡ false → (x ≡ true → q ≡ false) → q ≡ (r && not x)
excused_pair true q true e k = k refl
excused_pair true q false e k = k refl
excused_pair false true true e k = refl
excused_pair false true false e k = e
excused_pair false false true e k = sym e
excused_pair false false false e k = refl

-- the excused events are such a set
pub none-fits : (h : History) (q r : Rel) → NoPair h.count (misfit h q r) → Fits h q r
none-fits h q r no-pair = record {
  set = excused h q;
  pending = λ a i e. and_left (h.is_pending a) (not (some h.count (q a))) e;
  pairs = λ a b i j.
      excused_pair (excused h q a) (q a b) (r a b) (no-pair a b i j)
      (λ e. some-none h.count (q a) (not-true (some h.count (q a)) (and_right (h.is_pending a) (not (some h.count (q a))) e)) b j);
}

-- x: the event is excused; s: it is in the set
fitting_pair : (x s q r : Bool) → q ≡ (r && not s) → (s ≡ true → x ≡ true) → not x && differ q r ≡ false
fitting_pair true s q r e k = refl
fitting_pair false true q r e k = absurd (false≢true (k refl))
fitting_pair false false true true e k = refl
fitting_pair false false true false e k = e
fitting_pair false false false true e k = sym e
fitting_pair false false false false e k = refl

cut : (r s : Bool) → s ≡ true → (r && not s) ≡ false
cut true s e = ap not e
cut false s e = refl

-- an event of the set is pending and visible to nothing, so excused
pub fits-none : (h : History) (q r : Rel) → Fits h q r → NoPair h.count (misfit h q r)
fits-none h q r o a b i j =
    fitting_pair (excused h q a) (o.set a) (q a b) (r a b) (o.pairs a b i j)
    (λ s. and_both (h.is_pending a) (not (some h.count (q a))) (o.pending a i s)
    (not_of (some h.count (q a)) (none-some h.count (q a) (λ y l. o.pairs a y i l ∙ cut (r a y) (o.set a) s))))

-- ---- 1: each returned read is right

pub same_held_lem : (x y : Held) → same_held x y ≡ true → x ≡ y
same_held_lem none none e = refl
same_held_lem none (value y) e = absurd (false≢true e)
same_held_lem (value x) none e = absurd (false≢true e)
same_held_lem (value x) (value y) e = ap value (eqb-true x y e)

pub held_same : (x y : Held) → x ≡ y → same_held x y ≡ true
held_same none y e = ap (same_held none) (sym e)
held_same (value x) y e = ap (same_held (value x)) (sym e) ∙ eq-eqb x x refl

module _ (h : History) where
  pub none_right : NoPair h.count (wrong h) → RightReads h
  unfolding wrong wrong_read
  none_right no-pair e i r q =
      let b = last_or e (last_write h e) in
      let right : wrong_read h e ≡ false =
      never (wrong_read h e) (λ t. tell (wrong h e b) (and_both (wrong_read h e) (eqb b b) t (eq-eqb b b refl)) (no-pair e b i (last_or_lt h e i))) in
      expected-right h e (same_held_lem (held h e) (expected h e)
      (implied (read h e && not (h.is_pending e)) (same_held (held h e) (expected h e)) right
      (and_both (read h e) (not (h.is_pending e)) r (not_of (h.is_pending e) q))))

  pub right-none : DistinctPositions h → RightReads h → NoPair h.count (wrong h)
  unfolding wrong wrong_read
  right-none d r e b i j =
      ap (λ (t : Bool). t && eqb b (last_or e (last_write h e)))
      (imply (read h e && not (h.is_pending e)) (same_held (held h e) (expected h e))
      (λ t. held_same (held h e) (expected h e) (right-expected h e d
      (r e i (and_left (read h e) (not (h.is_pending e)) t) (not-true (h.is_pending e) (and_right (read h e) (not (h.is_pending e)) t))))))

  -- ---- all three kinds

  pub none_obeys : (u : Rule) → NoPair h.count (breaks h u) → Obeys h u
  unfolding breaks Obeys
  none_obeys last-value n = none_right n
  none_obeys (q within r) n = none_within h.count q r n
  none_obeys (q fits r) n = none-fits h q r n

  pub obeys_none : DistinctPositions h → (u : Rule) → Obeys h u → NoPair h.count (breaks h u)
  unfolding breaks Obeys
  obeys_none d last-value o = right-none d o
  obeys_none d (q within r) o = within_none h.count q r o
  obeys_none d (q fits r) o = fits-none h q r o

-- ---- the thirteen

module _ (p : Predicate) (h : History) where
  -- a verdict is the one that says what is so of the breaking pairs
  pub verdict-says : (v : Verdict) → verdict p h ≡ v → Says h.count (breaks h (rule p h)) v
  unfolding verdict
  verdict-says v e = says_of h.count (breaks h (rule p h)) v e

  pub verdict_is : (v : Verdict) → Says h.count (breaks h (rule p h)) v → verdict p h ≡ v
  unfolding verdict
  verdict_is v s = first_is h.count (breaks h (rule p h)) v s

  pub met_holds : verdict p h ≡ None → Holds p h
  unfolding Holds
  met_holds e = none_obeys h (rule p h) (verdict-says None e)

  pub holds-met : DistinctPositions h → Holds p h → verdict p h ≡ None
  unfolding Holds
  holds-met d o = verdict_is None (obeys_none h d (rule p h) o)

  pub met_iff_holds : DistinctPositions h → (verdict p h ≡ None) ↔ Holds p h
  met_iff_holds d = (met_holds, holds-met d)

  -- an inclusion is met with any positions
  pub within-met : (q r : Rel) → rule p h ≡ (q within r) → Within h.count q r → verdict p h ≡ None
  unfolding breaks
  within-met q r e w = verdict_is None (rw e (within_none h.count q r w))

  pub broken-first : (a b : ℕ) → verdict p h ≡ Some (a, b) → FirstPair h.count (breaks h (rule p h)) a b
  broken-first a b e = verdict-says (Some (a, b)) e

  pub first_broken_lem : (a b : ℕ) → FirstPair h.count (breaks h (rule p h)) a b → verdict p h ≡ Some (a, b)
  first_broken_lem a b s = verdict_is (Some (a, b)) s
