-- The last write in ar among the writes on a read's object visible to it: what is found is that write, and a read is right exactly if it holds
-- what that write left. Assumes nothing.
use mathlib.Core.Path.{◌≡◌, refl, ap, ◌∙◌}
use mathlib.Core.Bool.{Bool, true, false, cond}
use Prim.Native.Nat.{ℕ, zero, suc, ◌<◌, ◌≤◌}
use native.Mathlib.Omega.{arith}
use native.Mathlib.Nat.{le_refl}
use lib.Dec.{ltb}
use borrow.Author.Tests.{ltb-true, ltb-false}
use Rattle.std.specs.Prelude.{Some, None}
use Rattle.rows.proofs.Tests.{split, tell}
use Rattle.record.specs.History.{History}
use Rattle.consistency.specs.Relations.{ar}
use Rattle.record.specs.Terms.{value}
use Rattle.consistency.specs.Reads.{candidate, later, last_below, last_write, held, left_by, expected, last_or, Last}
use Rattle.consistency.specs.Holds.{RightRead, sees-none, sees-last, DistinctPositions}

-- w is the last in ar of the candidates below k
pub record LastOf (h : History) (e k w : ℕ) : Type 0 where
  pub below : w < k
  pub seen : candidate h e w ≡ true
  pub last : (x : ℕ) → x < k → candidate h e x ≡ true → h.position x ≤ h.position w

-- what a last write says of the candidates below k
abbrev pub LastSays : History → ℕ → ℕ → Last → Type 0
LastSays h e k None = (x : ℕ) → x < k → candidate h e x ≡ false
LastSays h e k (Some w) = LastOf h e k w

-- a last write is below k
abbrev pub LastIn : ℕ → Last → Type 0
LastIn k None = Unit
LastIn k (Some w) = w < k

-- below one more
below_more : {C : Type 0} (x k : ℕ) → x < suc k → (x < k → C) → (x ≡ k → C) → C
below_more x k l f g = split (ltb x k) (λ t. f (ltb-true x k t)) (λ t. g (omega (arith, ltb-false x k t)))

module _ (h : History) (e : ℕ) where
  -- one candidate more
  later-says : (k : ℕ) (l : Last) → LastSays h e k l → candidate h e k ≡ true → LastSays h e (suc k) (later h l k)
  unfolding ar
  later-says k None s c = record {
    below = le_refl (suc k);
    seen = c;
    last = λ x l q. below_more x k l (λ i. absurd (tell (candidate h e x) q (s x i))) (λ i. omega (arith, ap h.position i));
  }
  later-says k (Some w) s c = go (ltb (h.position w) (h.position k)) refl
    where
      go : (t : Bool) → ltb (h.position w) (h.position k) ≡ t → LastSays h e (suc k) (cond t (Some k) (Some w))
      go true t =
          let p = ltb-true (h.position w) (h.position k) t in
          record {
            below = le_refl (suc k);
            seen = c;
            last = λ x l q. below_more x k l (λ i. omega (arith, s.last x i q)) (λ i. omega (arith, ap h.position i));
          }
      go false t =
          let p = ltb-false (h.position w) (h.position k) t in
          record {
            below = omega (arith, s.below);
            seen = s.seen;
            last = λ x l q. below_more x k l (λ i. s.last x i q) (λ i. omega (arith, ap h.position i));
          }

  -- no candidate more
  same-says : (k : ℕ) (l : Last) → LastSays h e k l → candidate h e k ≡ false → LastSays h e (suc k) l
  same-says k None s c = λ x l. below_more x k l (s x) (λ i. rw i c)
  same-says k (Some w) s c = record {
    below = omega (arith, s.below);
    seen = s.seen;
    last = λ x l q. below_more x k l (λ i. s.last x i q) (λ i. absurd (tell (candidate h e x) q (rw i c)));
  }

  pub last_says : (k : ℕ) → LastSays h e k (last_below h e k)
  unfolding last_below
  last_says zero = λ x l. absurd (omega arith)
  last_says (suc k) = go (last_says k) (candidate h e k) refl
    where
      go : LastSays h e k (last_below h e k) → (t : Bool) → candidate h e k ≡ t → LastSays h e (suc k) (cond t (later h (last_below h e k) k) (last_below h e k))
      go s true c = later-says k (last_below h e k) s c
      go s false c = same-says k (last_below h e k) s c

  pub last_in : (k : ℕ) → LastIn k (last_below h e k)
  last_in k = go (last_below h e k) (last_says k)
    where
      go : (l : Last) → LastSays h e k l → LastIn k l
      go None s = tt
      go (Some w) s = s.below

  pub write-says : LastSays h e h.count (last_write h e)
  unfolding last_write
  write-says = last_says h.count

  pub write_in : LastIn h.count (last_write h e)
  unfolding last_write
  write_in = last_in h.count

  -- a break's second event is an event
  pub last_or_lt : e < h.count → last_or e (last_write h e) < h.count
  last_or_lt i = go (last_write h e) write_in
    where
      go : (l : Last) → LastIn h.count l → last_or e l < h.count
      go None s = i
      go (Some w) s = s

  -- a read that holds what it should hold is right
  pub expected-right : held h e ≡ expected h e → RightRead h e
  unfolding expected
  expected-right = go (last_write h e) write-says
    where
      go : (l : Last) → LastSays h e h.count l → held h e ≡ left_by h e l → RightRead h e
      go None s q = sees-none s q
      go (Some w) s q = sees-last (record { below = s.below; seen = s.seen; last = s.last }) q

  -- and the other way, where no two events have one position: then the last write is the only one
  pub right-expected : DistinctPositions h → RightRead h e → held h e ≡ expected h e
  unfolding expected
  right-expected d r = go (last_write h e) write-says r
    where
      go : (l : Last) → LastSays h e h.count l → RightRead h e → held h e ≡ left_by h e l
      go None s (sees-none n q) = q
      go None s (sees-last {w} t q) = absurd (tell (candidate h e w) t.seen (s w t.below))
      go (Some u) s (sees-none n q) = absurd (tell (candidate h e u) s.seen (n u s.below))
      go (Some u) s (sees-last {w} t q) =
          let same : w ≡ u = d w u t.below s.below (omega (arith, t.last u s.below s.seen, s.last w t.below t.seen)) in
          q ∙ ap (λ (x : ℕ). value (h.value x)) same
