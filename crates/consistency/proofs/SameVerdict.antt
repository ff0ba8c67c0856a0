-- Histories that say the same of their events have the same verdict of a predicate, where they also say the same of the terms that it is judged by: 1 by
-- openings, 3 and 4 by the difference of clocks, the others by none. Assumes nothing.
use mathlib.Core.Path.{◌≡◌, refl, sym, ap, ap₂, ◌∙◌}
use mathlib.Core.Bool.{Bool, false, not, cond, ◌&&◌, ◌||◌}
use mathlib.Core.List.{List, [], ◌∷◌}
use Prim.Native.Nat.{ℕ, zero, suc, ◌+◌, ◌<◌, ◌≤◌}
use native.Mathlib.Omega.{arith}
use native.Mathlib.Nat.{le_refl}
use lib.Dec.{ltb, eqb}
use Rattle.std.specs.Prelude.{Some, None}
use Rattle.rows.specs.Lowest.{some}
use Rattle.rows.specs.Relation.{Rel, reaches}
use Rattle.rows.proofs.Tests.{split}
use Rattle.rows.proofs.LowestLaws.{same_some}
use Rattle.rows.proofs.ReachLaws.{reaches_same}
use Rattle.record.specs.Terms.{none, value, Terms, SameTerms}
use Rattle.record.specs.History.{History, under, vis, SameEvents, Agree}
use Rattle.consistency.specs.FirstPair.{first}
use Rattle.consistency.specs.Relations.{ss, ob, rb, so, ar, step, hb, read, from, to, both, through}
use Rattle.consistency.specs.Reads.{candidate, later, last_below, last_write, same_held, held, left_by, expected, wrong_read, last_or, wrong, Last}
use Rattle.consistency.specs.Predicates.{Rule, last-value, ◌within◌, ◌fits◌, rule, differ, breaks, verdict, numbered}
use Rattle.consistency.specs.Models.{or_else, first_broken}
use Rattle.consistency.specs.declared.Predicate.{Predicate}
use Rattle.consistency.specs.declared.Predicate.TheVariants.{RVal, SingleOrder, RealTime, RealTimeWrites, MonotonicReads, ReadYourWrites, MonotonicWrites, WritesFollowReads, Pram, CausalVisibility, CausalArbitration, PerObjectPram, PerObjectSingleOrder}
use Rattle.consistency.proofs.FirstPairLaws.{Alike, first-same}
use Rattle.consistency.proofs.LastWriteLaws.{LastIn, last_in, write_in}
use Rattle.consistency.proofs.ClockLaws.{returned, so-own}

-- ---- what is said the same, beside the events

-- of the terms that a predicate is judged by
abbrev pub SameFor : Predicate → Terms → Terms → Type 0
SameFor RVal t u = (o : ℕ) → t.opening o ≡ u.opening o
SameFor SingleOrder t u = Unit
SameFor RealTime t u = t.difference ≡ u.difference
SameFor RealTimeWrites t u = t.difference ≡ u.difference
SameFor MonotonicReads t u = Unit
SameFor ReadYourWrites t u = Unit
SameFor MonotonicWrites t u = Unit
SameFor WritesFollowReads t u = Unit
SameFor Pram t u = Unit
SameFor CausalVisibility t u = Unit
SameFor CausalArbitration t u = Unit
SameFor PerObjectPram t u = Unit
SameFor PerObjectSingleOrder t u = Unit

same_for : (t u : Terms) → SameTerms t u → (p : Predicate) → SameFor p t u
same_for t u s RVal = s.opening
same_for t u s SingleOrder = tt
same_for t u s RealTime = s.difference
same_for t u s RealTimeWrites = s.difference
same_for t u s MonotonicReads = tt
same_for t u s ReadYourWrites = tt
same_for t u s MonotonicWrites = tt
same_for t u s WritesFollowReads = tt
same_for t u s Pram = tt
same_for t u s CausalVisibility = tt
same_for t u s CausalArbitration = tt
same_for t u s PerObjectPram = tt
same_for t u s PerObjectSingleOrder = tt

-- ---- relations made of others

-- sets that agree below n
abbrev AlikeSet : ℕ → (ℕ → Bool) → (ℕ → Bool) → Type 0
AlikeSet n s t = (e : ℕ) → e < n → s e ≡ t e

from-same : {n : ℕ} (s t : ℕ → Bool) (q r : Rel) → AlikeSet n s t → Alike n q r → Alike n (from s q) (from t r)
from-same s t q r e f a b i j = ap₂ ◌&&◌ (e a i) (f a b i j)

to_same : {n : ℕ} (s t : ℕ → Bool) (q r : Rel) → AlikeSet n s t → Alike n q r → Alike n (to s q) (to t r)
to_same s t q r e f a b i j = ap₂ ◌&&◌ (e b j) (f a b i j)

both-same : {n : ℕ} (q r q' r' : Rel) → Alike n q q' → Alike n r r' → Alike n (both q r) (both q' r')
both-same q r q' r' e f a b i j = ap₂ ◌&&◌ (e a b i j) (f a b i j)

-- rules of one kind over relations that agree, and over openings that do
data AlikeRule (n : ℕ) (openings : Type 0) : Rule → Rule → Type 0 where
  last_values : openings → AlikeRule n openings last-value last-value
  withins : {q r q' r' : Rel} → Alike n q q' → Alike n r r' → AlikeRule n openings (q within r) (q' within r')
  fitses : {q r q' r' : Rel} → Alike n q q' → Alike n r r' → AlikeRule n openings (q fits r) (q' fits r')

wider : (m n : ℕ) (l : Last) → m ≤ n → LastIn m l → LastIn n l
wider m n None h s = tt
wider m n (Some w) h s = omega arith

-- a pending event is before nothing, whatever would be asked of its return
unless_pending : {p q x y : Bool} → p ≡ q → (p ≡ false → x ≡ y) → cond p false x ≡ cond q false y
unless_pending {p} {q} {x} {y} e f = split p (λ t. rw (t, sym e ∙ t) refl) (λ t. rw (t, sym e ∙ t) (f t))

module _ (h k : History) (s : SameEvents h k) where
  abbrev Same : Rel → Rel → Type 0
  Same = Alike h.count

  abbrev SameSet : (ℕ → Bool) → (ℕ → Bool) → Type 0
  SameSet = AlikeSet h.count

  -- ---- the relations of a history

  ss-same : Same (ss h) (ss k)
  unfolding ss
  ss-same a b i j = ap₂ eqb (s.site a i) (s.site b j)

  ob-same : Same (ob h) (ob k)
  unfolding ob
  ob-same a b i j = ap₂ eqb (s.object a i) (s.object b j)

  -- by one clock, and so at one site
  returned-same : (a b : ℕ) → a < h.count → b < h.count → returned h a (h.start b) ≡ returned k a (k.start b)
  returned-same a b i j = unless_pending (s.is_pending a i) (λ p. ap₂ ltb (s.return a i p) (s.start b j))

  pub so-same : Same (so h) (so k)
  so-same a b i j = so-own h a b ∙ ap₂ ◌&&◌ (returned-same a b i j) (ss-same a b i j) ∙ sym (so-own k a b)

  rb-same : h.terms.difference ≡ k.terms.difference → Same (rb h) (rb k)
  unfolding rb
  rb-same e a b i j =
      unless_pending (s.is_pending a i)
      (λ p. ap₂ (λ (t : Bool) (r : ℕ). cond t (ltb r (h.start b)) (ltb (r + h.terms.difference) (h.start b))) (ss-same a b i j) (s.return a i p)
      ∙ ap₂ (λ (x d : ℕ). cond (ss k a b) (ltb (k.return a) x) (ltb (k.return a + d) x)) (s.start b j) e)

  pub vis-same : Same (vis h) (vis k)
  unfolding vis
  vis-same a b i j = s.sees b a j i

  pub ar-same : Same (ar h) (ar k)
  unfolding ar
  ar-same a b i j = ap₂ ltb (s.position a i) (s.position b j)

  pub step_same : Same (step h) (step k)
  unfolding step
  step_same a b i j = ap₂ ◌||◌ (so-same a b i j) (vis-same a b i j)

  hb-same : Same (hb h) (hb k)
  unfolding hb
  hb-same a b i j = reaches_same h.count (step h) (step k) step_same a b i j ∙ ap (λ (n : ℕ). reaches n (step k) a b) s.count

  pub read_same : SameSet (read h) (read k)
  read_same e i = ap not (s.is_write e i)

  -- a test of any event, which reads the events of its own history
  some_same : (f g : ℕ → Bool) → SameSet f g → some h.count f ≡ some k.count g
  some_same f g e = same_some h.count f g e ∙ ap (λ (n : ℕ). some n g) s.count

  through_same : Same (through h (read h) (vis h) (so h)) (through k (read k) (vis k) (so k))
  unfolding through
  through_same a c i j =
      some_same (λ b. vis h a b && (read h b && so h b c)) (λ b. vis k a b && (read k b && so k b c))
      (λ b l. ap₂ ◌&&◌ (vis-same a b i l) (ap₂ ◌&&◌ (read_same b l) (so-same b c l j)))

  -- ---- 1: reads

  candidate-same : (e w : ℕ) → e < h.count → w < h.count → candidate h e w ≡ candidate k e w
  unfolding candidate
  candidate-same e w i j = ap₂ ◌&&◌ (vis-same w e j i) (ap₂ ◌&&◌ (s.is_write w j) (ob-same w e j i))

  later_same : (l : Last) (w : ℕ) → LastIn h.count l → w < h.count → later h l w ≡ later k l w
  later_same None w i j = refl
  later_same (Some v) w i j = ap (λ (t : Bool). cond t (Some w) (Some v)) (ar-same v w i j)

  last-same : (e m : ℕ) → e < h.count → m ≤ h.count → last_below h e m ≡ last_below k e m
  unfolding last_below
  last-same e zero i j = refl
  last-same e (suc m) i j =
      let l = last_below h e m in
      ap₂ (λ (t : Bool) (x : Last). cond t x l) (candidate-same e m i j) (later_same l m (wider m h.count l (omega arith) (last_in h e m)) j)
      ∙ ap (λ (x : Last). cond (candidate k e m) (later k x m) x) (last-same e m i (omega arith))

  write_same : (e : ℕ) → e < h.count → last_write h e ≡ last_write k e
  unfolding last_write
  write_same e i = last-same e h.count i (le_refl h.count) ∙ ap (last_below k e) s.count

  held_same : (e : ℕ) → e < h.count → held h e ≡ held k e
  held_same e i = ap₂ (λ (t : Bool) (v : ℕ). cond t (value v) none) (s.is_present e i) (s.value e i)

  left-same : SameFor RVal h.terms k.terms → (e : ℕ) (l : Last) → e < h.count → LastIn h.count l → left_by h e l ≡ left_by k e l
  left-same o e None j i = o (h.object e) ∙ ap k.terms.opening (s.object e j)
  left-same o e (Some w) j i = ap value (s.value w i)

  expected-same : SameFor RVal h.terms k.terms → (e : ℕ) → e < h.count → expected h e ≡ expected k e
  unfolding expected
  expected-same o e i = left-same o e (last_write h e) i (write_in h e) ∙ ap (left_by k e) (write_same e i)

  wrong-same : SameFor RVal h.terms k.terms → Same (wrong h) (wrong k)
  unfolding wrong wrong_read
  wrong-same o e w i j =
      ap₂ ◌&&◌
      (ap₂ (λ (x y : Bool). x && not y) (ap₂ (λ (x y : Bool). x && not y) (read_same e i) (s.is_pending e i))
      (ap₂ same_held (held_same e i) (expected-same o e i)))
      (ap (λ (l : Last). eqb w (last_or e l)) (write_same e i))

  -- ---- the three kinds of rule, and the thirteen predicates

  breaks-same : {u v : Rule} → AlikeRule h.count (SameFor RVal h.terms k.terms) u v → Same (breaks h u) (breaks k v)
  unfolding breaks
  breaks-same (last_values o) a b i j = wrong-same o a b i j
  breaks-same (withins e f) a b i j = ap₂ (λ (x y : Bool). x && not y) (e a b i j) (f a b i j)
  breaks-same (fitses {q} {r} {q'} {r'} e f) a b i j =
      ap₂ (λ (x y : Bool). not x && y)
      (ap₂ (λ (x y : Bool). x && not y) (s.is_pending a i) (some_same (q a) (q' a) (λ y l. e a y i l)))
      (ap₂ differ (e a b i j) (f a b i j))

  rule-same : (p : Predicate) → SameFor p h.terms k.terms → AlikeRule h.count (SameFor RVal h.terms k.terms) (rule p h) (rule p k)
  unfolding rule
  rule-same RVal o = last_values o
  rule-same SingleOrder t = fitses vis-same ar-same
  rule-same RealTime e = withins (rb-same e) ar-same
  rule-same RealTimeWrites e = withins (from-same _ _ _ _ s.is_write (rb-same e)) ar-same
  rule-same MonotonicReads t = withins (to_same _ _ _ _ read_same through_same) vis-same
  rule-same ReadYourWrites t = withins (from-same _ _ _ _ s.is_write (to_same _ _ _ _ read_same so-same)) vis-same
  rule-same MonotonicWrites t = withins (from-same _ _ _ _ s.is_write (to_same _ _ _ _ s.is_write so-same)) ar-same
  rule-same WritesFollowReads t = withins (from-same _ _ _ _ s.is_write (to_same _ _ _ _ s.is_write through_same)) ar-same
  rule-same Pram t = withins so-same vis-same
  rule-same CausalVisibility t = withins hb-same vis-same
  rule-same CausalArbitration t = withins hb-same ar-same
  rule-same PerObjectPram t = withins (both-same _ _ _ _ so-same ob-same) vis-same
  rule-same PerObjectSingleOrder t = fitses (both-same _ _ _ _ vis-same ob-same) (both-same _ _ _ _ ar-same ob-same)

  -- ---- verdicts

  pub verdict_for : (p : Predicate) → SameFor p h.terms k.terms → verdict p h ≡ verdict p k
  unfolding verdict
  verdict_for p t =
      first-same h.count (breaks h (rule p h)) (breaks k (rule p k)) (breaks-same (rule-same p t))
      ∙ ap (λ (n : ℕ). first n (breaks k (rule p k))) s.count

-- ---- histories that say the same of all

module _ (h k : History) (s : Agree h k) where
  pub verdict-same : (p : Predicate) → verdict p h ≡ verdict p k
  verdict-same p = verdict_for h k s.events p (same_for h.terms k.terms s.terms p)

  pub first_broken-same : (ps : List ℕ) → first_broken ps h ≡ first_broken ps k
  unfolding first_broken
  first_broken-same [] = refl
  first_broken-same (p ∷ ps) = ap₂ (or_else p) (verdict-same (numbered p)) (first_broken-same ps)

-- ---- the events of one history, on other terms, and with other numbers where there is no return

-- h, but for the returns
abbrev pub returning : (ℕ → ℕ) → History → History
returning r h = record {
  count = h.count;
  is_write = h.is_write;
  site = h.site;
  object = h.object;
  is_pending = h.is_pending;
  is_present = h.is_present;
  value = h.value;
  position = h.position;
  start = h.start;
  return = r;
  sees = h.sees;
  terms = h.terms;
}

-- the same returns, of the events that have one
abbrev pub SameReturns : (ℕ → ℕ) → History → Type 0
SameReturns r h = (e : ℕ) → e < h.count → h.is_pending e ≡ false → r e ≡ h.return e

same_but : (t : Terms) (r : ℕ → ℕ) (h : History) → SameReturns r h → SameEvents (returning r (under t h)) h
same_but t r h s = record {
  count = refl;
  is_write = λ e i. refl;
  site = λ e i. refl;
  object = λ e i. refl;
  is_pending = λ e i. refl;
  is_present = λ e i. refl;
  value = λ e i. refl;
  position = λ e i. refl;
  start = λ e i. refl;
  return = s;
  sees = λ e b i j. refl;
}

same-under : (t : Terms) (h : History) → SameEvents (under t h) h
same-under t h = same_but t h.return h (λ e i p. refl)

pub verdict-under : (t : Terms) (h : History) (p : Predicate) → SameFor p t h.terms → verdict p (under t h) ≡ verdict p h
verdict-under t h = verdict_for (under t h) h (same-under t h)

pub write_under : (t : Terms) (h : History) (e : ℕ) → e < h.count → last_write (under t h) e ≡ last_write h e
write_under t h = write_same (under t h) h (same-under t h)

-- no verdict goes by a number that stands where a pending event has no return
pub no_stand_in : (r : ℕ → ℕ) (h : History) → SameReturns r h → (p : Predicate) → verdict p (returning r h) ≡ verdict p h
no_stand_in r h s p =
    verdict_for (returning r h) h (same_but h.terms r h s) p
    (same_for h.terms h.terms (record { difference = refl; opening = λ o. refl }) p)
