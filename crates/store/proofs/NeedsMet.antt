-- No delivery of a close meets an unmet need: in event order each put comes when the puts that it needs are there. Assumes nothing.
use mathlib.Core.Path.{◌≡◌}
use mathlib.Core.Bool.{Bool, true, false, not, ◌&&◌}
use mathlib.Core.List.{List, [], ◌∷◌, ◌++◌}
use Prim.Native.Nat.{ℕ, zero, suc, ◌≤◌, ◌<◌}
use native.Mathlib.Omega.{arith}
use native.Mathlib.Nat.{le_refl}
use lib.Dec.{ltb}
use borrow.Author.Tests.{lt-ltb, le-ltb}
use Rattle.record.specs.Questions.{ask}
use Rattle.record.specs.Terms.{Terms}
use Rattle.store.specs.Store.{Store}
use Rattle.store.specs.Rules.{reached, refusal, Copy, copies_of, all_copies, copy_refusal, after_copy, after_copies, close_copies}
use Rattle.store.proofs.Invariant.{StoreInv}
use Rattle.store.proofs.CloseLaws.{row-closed, closed_store, all_closed, closed-met, closed-knows}

-- ---- a list of copies

-- none of them is refused by 36, each after those before it
abbrev Met : ℕ → Store → List Copy → Type 0
Met n st [] = Unit {0}
Met n st (c ∷ cs) = (copy_refusal n st c ≡ 36 → ⊥) × Met n (after_copy n st c) cs

met_join : (n : ℕ) (st : Store) (xs ys : List Copy) → Met n st xs → Met n (after_copies n st xs) ys → Met n st (xs ++ ys)
unfolding after_copies
met_join n st [] ys h k = k
met_join n st (c ∷ xs) ys h k = (h.0, met_join n (after_copy n st c) xs ys h.1 k)

met_at : (n : ℕ) (st : Store) (front rest : List Copy) (c : Copy) → Met n st (front ++ (c ∷ rest)) → copy_refusal n (after_copies n st front) c ≡ 36 → ⊥
unfolding after_copies
met_at n st [] rest c h = h.0
met_at n st (x ∷ front) rest c h = met_at n (after_copy n st x) front rest c h.1

-- ---- one copy

not_36 : (site done lacks : Bool) → ask {A = ℕ} site 32 (ask done 33 (ask lacks 35 0)) ≡ 36 → ⊥
not_36 true true true r = omega arith
not_36 true true false r = omega arith
not_36 true false lacks r = omega arith
not_36 false done lacks r = omega arith

copy_met : (n : ℕ) (st : Store) (w t : ℕ) → reached 8 (st.event w).needs (st.site t).held ≡ true
    → copy_refusal n st (record { event = w; site = t }) ≡ 36 → ⊥
unfolding refusal
copy_met n st w t met r = not_36 (ltb t n) (ltb w st.count && (st.event w).is_put) (not ((st.site t).known w)) (rw met at r)

-- ---- all copies

module _ (n : ℕ) (n≤8 : n ≤ 8) {T : Terms} (st : Store) (ok : StoreInv n T st.event st) where
  -- the copy of w for site t comes after all copies of lower events, and those of w for lower sites
  turn_met : (w t : ℕ) → w < st.count → t < n
      → copy_refusal n (after_copies n (closed_store n st w) (copies_of w t)) (record { event = w; site = t }) ≡ 36 → ⊥
  turn_met w t below l =
      let met = closed-met n n≤8 st ok t w l below (closed-knows n n≤8 st ok t w l (omega arith)) in
      rw (row-closed n (closed_store n st w) w below t (omega arith)) (copy_met n _ w t (rw (le-ltb t t (le_refl t), lt-ltb t n l) met))

  row-met : (w : ℕ) → w < st.count → (k : ℕ) → k ≤ n → Met n (closed_store n st w) (copies_of w k)
  unfolding copies_of
  row-met w below zero l = tt
  row-met w below (suc t) l =
      met_join n (closed_store n st w) (copies_of w t) (record { event = w; site = t } ∷ []) (row-met w below t (omega arith))
      (turn_met w t below l, tt)

  all_met : (k : ℕ) → k ≤ st.count → Met n st (all_copies n k)
  unfolding all_copies
  all_met zero l = tt
  all_met (suc w) l =
      met_join n st (all_copies n w) (copies_of w n) (all_met w (omega arith))
      (rw (all_closed n st w (omega arith)) (row-met w l n (le_refl n)))

  pub needs_met : (front rest : List Copy) (c : Copy) → close_copies n st ≡ front ++ (c ∷ rest) → copy_refusal n (after_copies n st front) c ≡ 36 → ⊥
  needs_met front rest c e = met_at n st front rest c (rw e at (all_met st.count (le_refl _)))
