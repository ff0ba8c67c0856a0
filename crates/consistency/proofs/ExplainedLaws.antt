-- What is told of a break explains it; it is the only list that does; it is the same for histories that say the same; and it is no longer than there are events. Assumes nothing.
use mathlib.Core.Path.{◌≡◌, refl, sym, ap, ap₂, ◌∙◌}
use mathlib.Core.Bool.{Bool, true, not, ◌&&◌}
use mathlib.Core.List.{List, [], ◌∷◌}
use Prim.Native.Nat.{ℕ, ◌<◌, ◌≤◌}
use native.Mathlib.Omega.{arith}
use lib.ListN.{length}
use Rattle.std.specs.Prelude.{Some}
use Rattle.rows.specs.Lowest.{lowest}
use Rattle.rows.specs.Shortest.{shortest_chain}
use Rattle.rows.proofs.Tests.{tell, and_both, and_left, and_right}
use Rattle.rows.proofs.LowestLaws.{lowest_low, some_at, same-lowest}
use Rattle.rows.proofs.ShortestLaws.{shortest, shortest_only, chain_same}
use Rattle.record.specs.History.{History, vis, SameEvents}
use Rattle.consistency.specs.Relations.{so, ar, step, hb, read, write, from, to, through}
use Rattle.consistency.specs.Predicates.{rule, breaks, verdict}
use Rattle.consistency.specs.Explained.{telling, middle_of, told_by, explained, Middle, LowestMiddle, lowest-middle, Tells, Explains}
use Rattle.consistency.specs.declared.Predicate.{Predicate}
use Rattle.consistency.specs.declared.Predicate.TheVariants.{RVal, SingleOrder, RealTime, RealTimeWrites, MonotonicReads, ReadYourWrites, MonotonicWrites, WritesFollowReads, Pram, CausalVisibility, CausalArbitration, PerObjectPram, PerObjectSingleOrder}
use Rattle.consistency.specs.declared.Telling.{Telling}
use Rattle.consistency.specs.declared.Telling.TheVariants.{ByChain, ByMiddle, ByPair}
use Rattle.consistency.proofs.FirstPairLaws.{FirstPair, says_of}
use Rattle.consistency.proofs.SameVerdict.{so-same, vis-same, step_same, read_same}

-- ---- what a pair that breaks a predicate has, by the way in which the break is told

unfoldable pub Has : Telling → History → ℕ → ℕ → Type 0
Has ByChain h a b = hb h a b ≡ true
Has ByMiddle h a b = through h (read h) (vis h) (so h) a b ≡ true
Has ByPair h a b = Unit

module _ (h : History) (a b : ℕ) where
  has_it : (p : Predicate) → breaks h (rule p h) a b ≡ true → Has (telling p) h a b
  unfolding Has breaks rule
  has_it RVal e = tt
  has_it SingleOrder e = tt
  has_it RealTime e = tt
  has_it RealTimeWrites e = tt
  has_it MonotonicReads e = and_right (read h b) (through h (read h) (vis h) (so h) a b) (and_left (to (read h) (through h (read h) (vis h) (so h)) a b) (not (vis h a b)) e)
  has_it ReadYourWrites e = tt
  has_it MonotonicWrites e = tt
  has_it WritesFollowReads e =
      and_right (write h b) (through h (read h) (vis h) (so h) a b)
      (and_right (write h a) (to (write h) (through h (read h) (vis h) (so h)) a b) (and_left (from (write h) (to (write h) (through h (read h) (vis h) (so h))) a b) (not (ar h a b)) e))
  has_it Pram e = tt
  has_it CausalVisibility e = and_left (hb h a b) (not (vis h a b)) e
  has_it CausalArbitration e = and_left (hb h a b) (not (ar h a b)) e
  has_it PerObjectPram e = tt
  has_it PerObjectSingleOrder e = tt

-- a break is at two events, and has what its telling needs
pub record Broke (p : Predicate) (h : History) (a b : ℕ) : Type 0 where
  pub left : a < h.count
  pub right : b < h.count
  pub has : Has (telling p) h a b

pub broke : (p : Predicate) (h : History) (a b : ℕ) → verdict p h ≡ Some (a, b) → Broke p h a b
unfolding verdict
broke p h a b e =
    let f : FirstPair h.count (breaks h (rule p h)) a b = says_of h.count (breaks h (rule p h)) (Some (a, b)) e in
    record { left = f.left; right = f.right; has = has_it h a b p f.holds }

module _ (h : History) (a b : ℕ) (left : a < h.count) (right : b < h.count) where
  -- ---- what is told explains the break

  between : ℕ → Bool
  between m = vis h a m && (read h m && so h m b)

  middle_of_lem : (m : ℕ) → m < h.count → between m ≡ true → Middle h a b m
  unfolding between
  middle_of_lem m l e =
      let q = and_right (vis h a m) (read h m && so h m b) e in
      record { event = l; sees = and_left (vis h a m) (read h m && so h m b) e; reads = and_left (read h m) (so h m b) q; before = and_right (read h m) (so h m b) q }

  of_middle : (m : ℕ) → Middle h a b m → between m ≡ true
  unfolding between
  of_middle m q = and_both (vis h a m) (read h m && so h m b) q.sees (and_both (read h m) (so h m b) q.reads q.before)

  told-tells : (t : Telling) → Has t h a b → Tells t h a b (told_by t h a b)
  unfolding Has Tells told_by hb middle_of through between
  told-tells ByChain e = shortest h.count (step h) b right a e
  told-tells ByMiddle e =
      let at = some_at h.count between e in
      lowest-middle (lowest h.count between) (middle_of_lem (lowest h.count between) at.0 at.1) (λ x q. not_less x (lowest h.count between) (λ l. tell (between x) (of_middle x q) ((lowest_low h.count between).below x l)))
    where
      not_less : (x m : ℕ) → (x < m → ⊥) → m ≤ x
      not_less x m f = omega arith
  told-tells ByPair e = refl

  -- ---- nothing else tells it

  middle-only : {l m : List ℕ} → LowestMiddle h a b l → LowestMiddle h a b m → l ≡ m
  middle-only (lowest-middle x p f) (lowest-middle y q g) = let e : x ≡ y = omega (arith, f y q, g x p) in ap (λ (m : ℕ). m ∷ b ∷ []) e

  tells-only : (t : Telling) (l m : List ℕ) → Tells t h a b l → Tells t h a b m → l ≡ m
  unfolding Tells
  tells-only ByChain l m p q = shortest_only p q
  tells-only ByMiddle l m p q = middle-only p q
  tells-only ByPair l m p q = p ∙ sym q

  -- ---- it fits where all events do, and two

  told-fits : (t : Telling) → Has t h a b → (m : ℕ) → h.count ≤ m → 2 ≤ m → length (told_by t h a b) ≤ m
  unfolding Has told_by hb
  told-fits ByChain e m i j = omega (arith, (shortest h.count (step h) b right a e).fits)
  told-fits ByMiddle e m i j = omega arith
  told-fits ByPair e m i j = omega arith

  -- ---- histories that say the same of their events

  told_same : (k : History) → SameEvents h k → (t : Telling) → Has t h a b → told_by t h a b ≡ told_by t k a b
  unfolding Has told_by hb middle_of
  told_same k s ByChain e =
      chain_same h.count (step h) (step k) (step_same h k s) b right a left e ∙ ap (λ (n : ℕ). shortest_chain n (step k) a b) s.count
  told_same k s ByMiddle e =
      ap (λ (m : ℕ). m ∷ b ∷ [])
      (same-lowest h.count (λ m. vis h a m && (read h m && so h m b)) (λ m. vis k a m && (read k m && so k m b))
      (λ m l. ap₂ ◌&&◌ (vis-same h k s a m left l) (ap₂ ◌&&◌ (read_same h k s m l) (so-same h k s m b l right)))
      ∙ ap (λ (n : ℕ). lowest n (λ m. vis k a m && (read k m && so k m b))) s.count)
  told_same k s ByPair e = refl

-- ---- of the pair that the judge names

module _ (p : Predicate) (h : History) (a b : ℕ) (e : verdict p h ≡ Some (a, b)) where
  abbrev pair : Broke p h a b
  pair = broke p h a b e

  pub explains : Explains p h a b (explained p h a b)
  explains = told-tells h a b pair.left pair.right (telling p) pair.has

  pub explains_only : (l : List ℕ) → Explains p h a b l → l ≡ explained p h a b
  explains_only l q = tells-only h a b pair.left pair.right (telling p) l (explained p h a b) q explains

  pub explained-fits : (m : ℕ) → h.count ≤ m → 2 ≤ m → length (explained p h a b) ≤ m
  explained-fits = told-fits h a b pair.left pair.right (telling p) pair.has

  pub explained-same : (k : History) → SameEvents h k → explained p h a b ≡ explained p k a b
  explained-same k s = told_same h a b pair.left pair.right k s (telling p) pair.has
