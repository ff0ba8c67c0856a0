-- Arrays that stand for a store: its invariant and its limits hold, so that what a call needs is there. Assumes nothing.
use mathlib.Core.Path.{◌≡◌, refl, sym, ap, ◌∙◌}
use mathlib.Core.Bool.{Bool, true, false}
use Prim.Native.Nat.{ℕ, ◌≤◌, ◌<◌}
use native.Mathlib.Omega.{arith}
use lib.ListN.{get_or}
use Rattle.record.specs.Layout.{most_events}
use Rattle.record.specs.Terms.{value, Terms}
use Rattle.store.specs.Store.{Site, Event, Store}
use Rattle.store.specs.Calls.{deliver}
use Rattle.store.specs.Rules.{refusal}
use Rattle.store.proofs.Invariant.{StoreInv}
use Rattle.store.proofs.DeliverKeeps.{Deliverable}
use Rattle.store.proofs.RunKeeps.{Doable, deliverable, delivery_site, every-run}
use Rattle.store.proofs.Sizes.{Limits, every_limits, every_stamped, sizes}
use Rattle.store.proofs.OtherPut.{other-put}
use Rattle.calls.specs.Mirror.{shown_of, word_value, word_present, word_site, word_stamp}
use Rattle.calls.specs.Lent.{Lent, row_in, event_in, store_in, Sized, Clear, Stands}
use Rattle.calls.specs.Done.{Makable, Copyable}
use Rattle.calls.proofs.WordLaws.{full-cell}
use Rattle.calls.proofs.LentLaws.{store-count, site-at, event_at_lem, cell_at}

-- what a call may use of the arrays
pub record Fit (n : ℕ) (t : Terms) (z : Lent) : Type 0 where
  pub sized : Sized z
  pub clear : Clear z
  pub keeps : StoreInv n t (store_in t z).event (store_in t z)
  pub limits : Limits (store_in t z)
  pub stamps : (e : ℕ) → e < (store_in t z).count → 1 ≤ ((store_in t z).event e).stamp

pub stands_fit : (n : ℕ) → n ≤ 8 → (t : Terms) (z : Lent) → Stands n t z → Fit n t z
stands_fit n n≤8 t z h = record {
  sized = h.sized;
  clear = h.clear;
  keeps = rw h.store (every-run n n≤8 t h.calls);
  limits = rw h.store (every_limits n t h.calls);
  stamps = rw h.store (every_stamped n t h.calls);
}

shown-present : (t : Bool) (v u : ℕ) → shown_of t v ≡ value u → t ≡ true
shown-present true v u e = refl
shown-present false v u e = cc

module _ (n : ℕ) (n≤8 : n ≤ 8) (t : Terms) (z : Lent) (h : Fit n t z) where
  abbrev st : Store
  st = store_in t z

  pub few : z.count ≤ most_events
  few = rw (store-count t z) at h.limits.count

  held-few : (s i : ℕ) → s < 8 → get_or (row_in z.held s) i 0 ≤ most_events
  held-few s i l = omega (arith, (sizes n n≤8 st h.keeps).held s i, ap (λ (x : Site). x.held i) (site-at t z s l), h.limits.count)

  clock_few : (s : ℕ) → s < 8 → get_or z.clocks s 0 ≤ most_events
  clock_few s l = omega (arith, (sizes n n≤8 st h.keeps).clock s, ap (λ (x : Site). x.clock) (site-at t z s l), h.limits.count)

  -- a put or a get that is not refused
  pub makable : (s o : ℕ) → Doable n st s o → Makable z s o
  makable s o d =
      let low : s < 8 = omega (arith, d.site) in
      record {
        sized = h.sized;
        clear = h.clear;
        room = rw (store-count t z) at d.room;
        site = low;
        object = d.object;
        clock = clock_few s low;
        held = λ i. held-few s i low;
      }

  -- a delivery that is not refused
  pub copyable : (w s : ℕ) → refusal n st (deliver w s) ≡ 0 → Copyable z s w
  copyable w s r =
      let d : Deliverable st w s (st.event w) = deliverable n st w s r in
      let low : s < 8 = omega (arith, delivery_site n st w s r) in
      let done : w < z.count = rw (store-count t z) at d.done in
      let at : st.event w ≡ event_in z w = event_at_lem t z w done in
      let object : (event_in z w).object ≤ 31 = omega (arith, h.limits.object w d.done, ap (λ (x : Event). x.object) at) in
      let stamp : 1 ≤ (event_in z w).stamp = omega (arith, h.stamps w d.done, ap (λ (x : Event). x.stamp) at) in
      record {
        sized = h.sized;
        clear = h.clear;
        site = low;
        event = done;
        few = few;
        object = object;
        present = shown-present (word_present (get_or z.events w 0)) (word_value (get_or z.events w 0)) _ (sym (ap (λ (x : Event). x.shown) at) ∙ (h.keeps.events w d.done).written d.is_put);
        stamp = stamp;
        held = λ i. held-few s i low;
        apart = λ x is stamps sites.
            other-put n n≤8 st h.keeps w s (event_in z w).object (word_value x) (word_stamp x) (word_site x) d.done d.lacks
            (cell_at t z s (event_in z w).object low object ∙ rw (← is) (full-cell x (omega arith)))
            (stamps ∙ ap (λ (e : Event). e.stamp) (sym at)) (sites ∙ ap (λ (e : Event). e.site) (sym at));
      }
