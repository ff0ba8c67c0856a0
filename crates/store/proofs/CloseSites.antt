-- The deliveries of a close may be made in any order in which each is of the lowest put that its site lacks. Assumes nothing.
use mathlib.Core.Path.{◌≡◌, refl, sym, ap, ap₂, ◌∙◌}
use mathlib.Core.Bool.{Bool, true, false, not, cond, ◌&&◌}
use Prim.Native.Nat.{ℕ, zero, suc, ◌+◌, ◌≤◌, ◌<◌}
use native.Mathlib.Omega.{arith}
use native.Mathlib.Nat.{le_refl}
use borrow.Author.Tests.{eqb-true}
use Rattle.rows.proofs.Tests.{and_left, and_right}
use Rattle.record.specs.Terms.{Terms}
use Rattle.store.specs.Store.{Site, Store}
use Rattle.store.specs.Calls.{deliver, close}
use Rattle.store.specs.Rules.{reached, refusal, after_delivery, with_copy, copied, close_copies, effect}
use Rattle.store.specs.Outstanding.{lacks, outstanding}
use Rattle.store.proofs.UpdateLaws.{upd_elim, lt_suc_elim}
use Rattle.store.proofs.Invariant.{Table, StoreInv}
use Rattle.store.proofs.DeliverKeeps.{still_known, put-known}
use Rattle.store.proofs.RunKeeps.{reached_true, copy_inv}
use Rattle.store.proofs.OutstandingLaws.{outstanding-none, known-put, not-lacking, outstanding_less}
use Rattle.store.proofs.CloseLaws.{needs-reached, due, site_then, closed_site, copy_due, each_elim, closed_store, all_closed, copied-outstanding}

-- ---- the lowest put that a site lacks may come first

-- a site that lacks no put stays
closed_same : (F : Table) (a : Site) (k : ℕ) → ((e : ℕ) → e < k → (F e).is_put && not (a.known e) ≡ false) → closed_site F a k ≡ a
unfolding closed_site
closed_same F a zero none = refl
closed_same F a (suc k) none =
    rw (closed_same F a k (λ e l. none e (omega arith)))
    (go (F k).is_put (not (a.known k)) (none k (le_refl _)))
  where
    go : (p l : Bool) → p && l ≡ false → cond (p && (l && reached 8 (F k).needs a.held)) (after_delivery a k (F k)) a ≡ a
    go true l h = rw h
    go false l h = refl

-- what comes later goes by the site alone
closed-from : (F : Table) (a b : Site) (k : ℕ) → closed_site F a k ≡ closed_site F b k → (m : ℕ) → k ≤ m → closed_site F a m ≡ closed_site F b m
unfolding closed_site
closed-from F a b k h zero l = let e : k ≡ 0 = omega arith in rw e at h
closed-from F a b k h (suc m) l =
    lt_suc_elim k (suc m) (omega arith)
    (λ q. ap (λ (c : Site). site_then F c m) (closed-from F a b k h m (omega arith)))
    (λ q. rw q at h)

-- w comes first
closed-first : (F : Table) (a : Site) (w m : ℕ) → w < m → due F a w ≡ true → ((e : ℕ) → e < w → (F e).is_put && not (a.known e) ≡ false)
    → closed_site F (after_delivery a w (F w)) m ≡ closed_site F a m
unfolding closed_site
closed-first F a w m l d none =
    let b : Site = after_delivery a w (F w) in
    let came : closed_site F a (suc w) ≡ b = rw (closed_same F a w none, d) in
    let stays : closed_site F b (suc w) ≡ b =
    closed_same F b (suc w)
    (λ e q. not-lacking (F e).is_put (b.known e)
    (λ p. lt_suc_elim e w q (λ r. still_known a w (F w) e (known-put (F e).is_put (a.known e) (none e r) p)) (λ r. rw r (put-known a w (F w))))) in
    closed-from F b a (suc w) (stays ∙ sym came) m l

-- so far `copies` copies were delivered; what is left to do is the same as at the start, in st₀
pub record Closing (n : ℕ) (st₀ st : Store) (copies : ℕ) : Type 0 where
  pub count : st.count ≡ st₀.count
  pub event : st.event ≡ st₀.event
  -- on any terms
  pub keeps : {T : Terms} → StoreInv n T st₀.event st₀ → StoreInv n T st.event st
  pub sites : (u : ℕ) → u < n → closed_site st.event (st.site u) st.count ≡ closed_site st.event (st₀.site u) st.count
  pub others : (u : ℕ) → n ≤ u → st.site u ≡ st₀.site u
  pub counted : copies + outstanding n st ≡ outstanding n st₀

pub closing-none : (n : ℕ) (st : Store) → Closing n st st 0
closing-none n st = record {
  count = refl;
  event = refl;
  keeps = λ ok. ok;
  sites = λ u l. refl;
  others = λ u l. refl;
  counted = omega arith;
}

-- one part of the deliveries after another
pub closing_join : (n : ℕ) (st₀ st₁ st : Store) (a b : ℕ) → Closing n st₀ st₁ a → Closing n st₁ st b → Closing n st₀ st (a + b)
closing_join n st₀ st₁ st a b h k = record {
  count = k.count ∙ h.count;
  event = k.event ∙ h.event;
  keeps = λ ok. k.keeps (h.keeps ok);
  sites = λ u l. k.sites u l ∙ ap₂ (λ (F : Table) (m : ℕ). closed_site F (st₁.site u) m) k.event k.count ∙ h.sites u l
      ∙ sym (ap₂ (λ (F : Table) (m : ℕ). closed_site F (st₀.site u) m) k.event k.count);
  others = λ u l. k.others u l ∙ h.others u l;
  counted = omega (arith, h.counted, k.counted);
}

module _ (n : ℕ) (n≤8 : n ≤ 8) {T : Terms} (st₀ st : Store) (ok : StoreInv n T st₀.event st₀) (copies : ℕ) (h : Closing n st₀ st copies)
    (t : ℕ) (l : t < n) where
  closing_due : (w : ℕ) → w < st.count → lacks st t w ≡ true
      → ((e : ℕ) → e < w → lacks st t e ≡ false) → due st.event (st.site t) w ≡ true
  closing_due w below lacked none =
      let put : (st.event w).is_put ≡ true = and_left (st.event w).is_put (not ((st.site t).known w)) lacked in
      let new : not ((st.site t).known w) ≡ true = and_right (st.event w).is_put (not ((st.site t).known w)) lacked in
      let met : reached 8 (st.event w).needs (st.site t).held ≡ true =
      reached_true 8 (st.event w).needs (st.site t).held
      (λ i q. needs-reached n st.event st (h.keeps ok) w t below (λ e m. known-put (st.event e).is_put ((st.site t).known e) (none e m)) i) in
      rw (put, new, met)

  -- w is the lowest put that site t lacks: it is not refused
  pub closing_doable : (w : ℕ) → w < st.count → lacks st t w ≡ true
      → ((e : ℕ) → e < w → lacks st t e ≡ false) → refusal n st (deliver w t) ≡ 0
  closing_doable w below lacked none = eqb-true (refusal n st (deliver w t)) 0 (copy_due n st w t below l ∙ closing_due w below lacked none)

  -- and it is delivered
  pub closing-more : (w : ℕ) → w < st.count → lacks st t w ≡ true
      → ((e : ℕ) → e < w → lacks st t e ≡ false) → Closing n st₀ (with_copy st w t) (copies + 1)
  closing-more w below lacked none =
      let doable : refusal n st (deliver w t) ≡ 0 = closing_doable w below lacked none in
      let there : Site = after_delivery (st.site t) w (st.event w) in
      record {
        count = h.count;
        event = h.event;
        keeps = λ x. copy_inv n n≤8 st w t doable (h.keeps x);
        sites = λ u m.
            upd_elim (λ (a : Site). closed_site st.event a st.count ≡ closed_site st.event (st₀.site u) st.count) st.site t there u
            (λ q. rw q (closed-first st.event (st.site t) w st.count below (closing_due w below lacked none) none ∙ h.sites t l))
            (λ q. h.sites u m);
        others = λ u m. upd_elim (λ (a : Site). a ≡ st₀.site u) st.site t there u (λ q. absurd (omega arith)) (λ q. h.others u m);
        counted = omega (arith, outstanding_less n n≤8 st (h.keeps ok) w t doable, h.counted);
      }

-- no site lacks a put: the close is done
module _ (n : ℕ) (n≤8 : n ≤ 8) (st₀ st : Store) (copies : ℕ) (h : Closing n st₀ st copies)
    (none : (e u : ℕ) → e < st.count → u < n → lacks st u e ≡ false) where
  pub closing-store : st ≡ effect n st₀ close
  unfolding effect
  closing-store =
      let here : (u : ℕ) → st.site u ≡ (closed_store n st₀ st₀.count).site u = λ u.
      each_elim (λ (a : Site). st.site u ≡ a) n (λ a. closed_site st₀.event a st₀.count) st₀.site u
      (λ l. sym (closed_same st.event (st.site u) st.count (λ e m. none e u m l))
      ∙ h.sites u l
      ∙ ap₂ (λ (F : Table) (m : ℕ). closed_site F (st₀.site u) m) h.event h.count)
      (λ l. h.others u l) in
      let same : st ≡ closed_store n st₀ st₀.count = λ i. record { count = h.count i; event = h.event i; site = λ u. here u i } in
      same ∙ sym (all_closed n st₀ st₀.count (le_refl _))

  pub closing-copies : {T : Terms} → StoreInv n T st₀.event st₀ → copies ≡ copied n st₀ (close_copies n st₀)
  closing-copies ok = omega (arith, copied-outstanding n n≤8 st₀ ok, h.counted, outstanding-none n st none)
