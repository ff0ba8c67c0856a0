-- A delivery keeps the invariant. The needs see to it that of all that becomes known only the delivered put is a put. Assumes nothing.
use mathlib.Core.Path.{◌≡◌, refl, sym, ap, ◌∙◌}
use mathlib.Core.Logic.{◌⊎◌, inl, inr}
use mathlib.Core.Bool.{true, false, ◌||◌}
use Prim.Native.Nat.{ℕ, suc, ◌≤◌, ◌<◌}
use native.Mathlib.Omega.{arith}
use native.Mathlib.Nat.{le_refl}
use lib.Dec.{ltb, eqb}
use borrow.Author.Tests.{ltb-true, ltb-false, eqb-true, eq-eqb}
use Rattle.rows.proofs.Tests.{split, tell, or_elim, or_left, or_right}
use Rattle.record.specs.Terms.{value_or0, Terms}
use Rattle.store.specs.Store.{upd, merge, Site, Event, Store}
use Rattle.store.specs.Rules.{after_delivery, with_copy}
use Rattle.store.proofs.UpdateLaws.{upd_elim, raise_le, lt_suc_elim}
use Rattle.store.proofs.Invariant.{Table, place, totals, HoldsLast, CountedPut, EventInv, SiteInv, StoreInv, totals_more, event-more, site-more, counted-more, holds_more, holds_merged}

-- what a delivery of w, whose event is e, to t has that is not refused
pub record Deliverable (st : Store) (w t : ℕ) (e : Event) : Type 0 where
  pub done : w < st.count
  pub is_put : e.is_put ≡ true
  pub lacks : (st.site t).known w ≡ false
  pub reached : (i : ℕ) → i < 8 → e.needs i ≤ (st.site t).held i

-- a site then still knows what it knew, and knows the put
pub still_known : (a : Site) (w : ℕ) (e : Event) (x : ℕ) → a.known x ≡ true → (after_delivery a w e).known x ≡ true
still_known a w e x h = or_right (eqb x w) (e.sees x || a.known x) (or_right (e.sees x) (a.known x) h)

pub put-known : (a : Site) (w : ℕ) (e : Event) → (after_delivery a w e).known w ≡ true
put-known a w e = or_left (eqb w w) (e.sees w || a.known w) (eq-eqb w w refl)

module _ (n : ℕ) (n≤8 : n ≤ 8) {T : Terms} (F : Table) (st : Store) (ok : StoreInv n T F st) (w t : ℕ) (d : Deliverable st w t (F w)) where
  event_w : EventInv n T F (totals st.site) w
  event_w = ok.events w d.done

  -- a put that w sees is known already
  seen-known : (p : ℕ) → (F w).sees p ≡ true → (F p).is_put ≡ true → (st.site t).known p ≡ true
  seen-known p h i =
      let l : p < w = event_w.earlier p h in
      let m : p < st.count = omega (arith, d.done) in
      (ok.sites t).held_known p m i
      (omega (arith, event_w.needs p h i, d.reached (F p).site (omega (arith, (ok.events p m).site))))

  -- w is the next put of its site that t lacks
  next : (st.site t).held (F w).site ≡ place (F w)
  next =
      split (ltb (place (F w)) ((st.site t).held (F w).site))
      (λ e. absurd (tell ((st.site t).known w)
      ((ok.sites t).held_known w d.done d.is_put (ltb-true (place (F w)) ((st.site t).held (F w).site) e))
      d.lacks))
      (λ e. omega (
        arith,
        ltb-false (place (F w)) ((st.site t).held (F w).site) e,
        d.reached (F w).site (omega (arith, event_w.site)),
      ))

  -- a later put of one site has a higher place
  places_rise : (e f : ℕ) → f < st.count → e < f → (F e).is_put ≡ true → (F e).site ≡ (F f).site → place (F e) < place (F f)
  places_rise e f h l i s =
      omega (arith, (ok.events f h).needs e ((ok.events f h).session e l s) i, ap (F f).needs s)

  one_place : (e : ℕ) → e < st.count → (F e).is_put ≡ true → (F e).site ≡ (F w).site → place (F e) ≡ place (F w) → e ≡ w
  one_place e h i s q =
      split (ltb e w)
      (λ x. absurd (omega (arith, places_rise e w d.done (ltb-true e w x) i s)))
      (λ x. split (ltb w e)
      (λ y. absurd (omega (arith, places_rise w e h (ltb-true w e y) d.is_put (sym s))))
      (λ y. omega (arith, ltb-false e w x, ltb-false w e y)))

  -- what t knows then
  knows : (x : ℕ) → (st.site t).known x ≡ true → (after_delivery (st.site t) w (F w)).known x ≡ true
  knows = still_known (st.site t) w (F w)

  knows-seen : (x : ℕ) → (F w).sees x ≡ true → (after_delivery (st.site t) w (F w)).known x ≡ true
  knows-seen x h = or_right (eqb x w) ((F w).sees x || (st.site t).known x) (or_left ((F w).sees x) ((st.site t).known x) h)

  knows_w : (after_delivery (st.site t) w (F w)).known w ≡ true
  knows_w = put-known (st.site t) w (F w)

  came : {C : Type 0} (x : ℕ) → (after_delivery (st.site t) w (F w)).known x ≡ true
      → (x ≡ w → C) → ((F w).sees x ≡ true → C) → ((st.site t).known x ≡ true → C) → C
  came x h f g k =
      or_elim (eqb x w) ((F w).sees x || (st.site t).known x) h (λ e. f (eqb-true x w e))
      (λ e. or_elim ((F w).sees x) ((st.site t).known x) e g k)

  pub came_put : (q : ℕ) → (after_delivery (st.site t) w (F w)).known q ≡ true → (F q).is_put ≡ true → (q ≡ w) ⊎ ((st.site t).known q ≡ true)
  came_put q h i = came q h (λ x. inl x) (λ x. inr (seen-known q x i)) (λ x. inr x)

  known-below : (e : ℕ) → (after_delivery (st.site t) w (F w)).known e ≡ true → e < st.count
  known-below e h =
      came e h (λ x. rw x d.done) (λ x. omega (arith, event_w.earlier e x, d.done)) (λ x. (ok.sites t).below e x)

  -- the site that it came to
  pub delivered : SiteInv T F st.count (totals st.site) t (after_delivery (st.site t) w (F w))
  delivered = record {
    below = known-below;
    closed = λ e f h x.
        came e h (λ y. knows-seen f (rw y at x)) (λ y. knows-seen f (event_w.transitive e f y x)) (λ y. knows f ((ok.sites t).closed e f y x));
    own = λ e h s. knows e ((ok.sites t).own e h s);
    clock = λ e h.
        came e h (λ y. rw y (omega arith)) (λ y. omega (arith, event_w.rises e y)) (λ y. omega (arith, (ok.sites t).clock e y));
    clock_few = omega (arith, (ok.sites t).clock_few, event_w.stamp, d.done);
    known_held = λ e h i.
        upd_elim (λ (y : ℕ). place (F e) < y) (st.site t).held (F w).site (suc ((st.site t).held (F w).site)) (F e).site
        (λ s. elim (came_put e h i) [
          | inl x ↦ rw (x, next) (le_refl _)
          | inr x ↦ omega (arith, ap (st.site t).held s, (ok.sites t).known_held e x i)
        ])
        (λ s. elim (came_put e h i) [ inl x ↦ absurd (s (ap (λ (y : ℕ). (F y).site) x)) | inr x ↦ (ok.sites t).known_held e x i ]);
    held_known = λ e h i.
        upd_elim (λ (y : ℕ). place (F e) < y → (after_delivery (st.site t) w (F w)).known e ≡ true)
        (st.site t).held (F w).site (suc ((st.site t).held (F w).site)) (F e).site
        (λ s l. lt_suc_elim (place (F e)) ((st.site t).held (F w).site) l
        (λ x. knows e ((ok.sites t).held_known e h i (omega (arith, ap (st.site t).held s))))
        (λ x. rw (one_place e h i s (x ∙ next)) knows_w))
        (λ s l. knows e ((ok.sites t).held_known e h i l));
    counted = λ i p.
        upd_elim (λ (y : ℕ). p < y → CountedPut F (after_delivery (st.site t) w (F w)).known i p)
        (st.site t).held (F w).site (suc ((st.site t).held (F w).site)) i
        (λ s l. lt_suc_elim p ((st.site t).held (F w).site) l
        (λ x. counted-more knows ((ok.sites t).counted i p (omega (arith, ap (st.site t).held s))))
        (λ x. record { put = w; seen = knows_w; is_put = d.is_put; site = sym s; place = sym (x ∙ next) }))
        (λ s l. counted-more knows ((ok.sites t).counted i p l));
    held_made = λ i.
        upd_elim (λ (y : ℕ). y ≤ totals st.site i) (st.site t).held (F w).site (suc ((st.site t).held (F w).site)) i
        (λ s. rw (s, next) (event_w.place_made d.is_put))
        (λ s. (ok.sites t).held_made i);
    cell = λ o.
        upd_elim (HoldsLast T F (after_delivery (st.site t) w (F w)).known o)
        (st.site t).cell (F w).object (merge ((st.site t).cell (F w).object) (value_or0 (F w).shown) (F w).stamp (F w).site) o
        (λ s. rw s
        (holds_merged T F (st.site t).known (after_delivery (st.site t) w (F w)).known (F w).object w (value_or0 (F w).shown)
        ((st.site t).cell (F w).object)
        (λ q x. omega (arith, (ok.events q (known-below q x)).site))
        knows_w
        d.is_put
        refl
        (event_w.written d.is_put)
        knows
        came_put
        ((ok.sites t).cell (F w).object)))
        (λ s. holds_more T F (st.site t).known (after_delivery (st.site t) w (F w)).known o ((st.site t).cell o) knows
        (λ q x i y. elim (came_put q x i) [ inl z ↦ absurd (s (sym y ∙ ap (λ (u : ℕ). (F u).object) z)) | inr z ↦ z ])
        ((ok.sites t).cell o));
  }

  pub deliver-keeps : F w ≡ st.event w → StoreInv n T F (with_copy st w t)
  deliver-keeps e_f =
      let b : Site = after_delivery (st.site t) w (st.event w) in
      let there : SiteInv T F st.count (totals st.site) t b = rw e_f at delivered in
      let more : (i : ℕ) → totals st.site i ≤ totals (upd st.site t b) i =
      totals_more st.site t b (raise_le (st.site t).held (st.event w).site) in
      record {
        events = λ e h. event-more more (ok.events e h);
        sites = λ u.
            upd_elim (SiteInv T F st.count (totals (upd st.site t b)) u) st.site t b u
            (λ q. rw q (site-more more there))
            (λ q. site-more more (ok.sites u));
        few = λ i.
            upd_elim (λ (x : Site). x.held i ≤ st.count) st.site t b i (λ q. omega (arith, there.held_made i, ok.few i))
            (λ q. ok.few i);
      }
