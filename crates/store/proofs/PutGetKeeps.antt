-- A put or a get keeps the invariant: the new event, the site that makes it, and the other sites. Assumes nothing.
use mathlib.Core.Path.{◌≡◌, refl, sym, ap, ◌∙◌}
use mathlib.Core.Bool.{Bool, true, false, true≢false, false≢true}
use Prim.Native.Nat.{ℕ, suc, ◌≤◌, ◌<◌}
use native.Mathlib.Omega.{arith}
use native.Mathlib.Nat.{le_refl}
use Rattle.record.specs.Terms.{Held, value, value_or0, Terms}
use Rattle.store.specs.Store.{upd, full, cell_value, Site, Event, Store}
use Rattle.store.specs.Calls.{put, get}
use Rattle.store.specs.Rules.{made, after_put, after_get, effect}
use Rattle.store.proofs.UpdateLaws.{upd_elim, upd_same, raise_le, lt_suc_elim}
use Rattle.store.proofs.Invariant.{Table, key, place, totals, HoldsLast, ShowsLast, CountedPut, EventInv, SiteInv, StoreInv, totals_more, event-more, counted-more, holds_more, holds_shows}

module _ (n : ℕ) (n≤8 : n ≤ 8) {T : Terms} (F : Table) (st : Store) (ok : StoreInv n T F st) (s : ℕ) (s<n : s < n) where
  -- the new event sees what its site knew
  new_event : (p : Bool) (o : ℕ) (x : Held) → F st.count ≡ made st s p o x
      → (totals' : ℕ → ℕ) → ((i : ℕ) → totals st.site i ≤ totals' i) → (p ≡ true → totals st.site s < totals' s)
      → (p ≡ true → x ≡ value (value_or0 x)) → (p ≡ false → ShowsLast T F (st.site s).known o x)
      → EventInv n T F totals' st.count
  new_event p o x e_f totals' more rise written found = record {
    site = rw e_f s<n;
    earlier = λ f h. (ok.sites s).below f (rw e_f at h);
    transitive = λ f g h y. rw e_f ((ok.sites s).closed f g (rw e_f at h) y);
    session = λ f h q. rw e_f ((ok.sites s).own f h (rw e_f at q));
    rises = λ f h. rw e_f (omega (arith, (ok.sites s).clock f (rw e_f at h)));
    stamp = rw e_f (omega (arith, (ok.sites s).clock_few));
    needs = λ f h i. rw e_f ((ok.sites s).known_held f (rw e_f at h) i);
    counted = λ i q l. rw e_f ((ok.sites s).counted i q (rw e_f at l));
    needs_made = λ i. rw e_f (omega (arith, (ok.sites s).held_made i, more i));
    place_made = λ q. rw e_f (rise (rw e_f at q));
    written = λ q. rw e_f (written (rw e_f at q));
    found = λ q. rw e_f (found (rw e_f at q));
  }

  -- what the site knows then
  knows : (x : ℕ) → (st.site s).known x ≡ true → upd (st.site s).known st.count true x ≡ true
  knows x h = upd_elim (λ (b : Bool). b ≡ true) (st.site s).known st.count true x (λ q. refl) (λ q. h)

  knows_new : upd (st.site s).known st.count true st.count ≡ true
  knows_new = upd_same (st.site s).known st.count true

  came : {C : Type 0} (x : ℕ) → upd (st.site s).known st.count true x ≡ true → (x ≡ st.count → C) → ((st.site s).known x ≡ true → C) → C
  came {C} x h f g = upd_elim (λ (b : Bool). b ≡ true → C) (st.site s).known st.count true x (λ q y. f q) (λ q y. g y) h

  -- the clauses that a put and a get share
  below_then : (e : ℕ) → upd (st.site s).known st.count true e ≡ true → e < suc st.count
  below_then e h = came e h (λ q. omega arith) (λ q. omega (arith, (ok.sites s).below e q))

  own-then : (e : ℕ) → e < suc st.count → (F e).site ≡ s → upd (st.site s).known st.count true e ≡ true
  own-then e h q = lt_suc_elim e st.count h (λ l. knows e ((ok.sites s).own e l q)) (λ l. rw l knows_new)

  closed-then : (F st.count).sees ≡ (st.site s).known → (e f : ℕ) → upd (st.site s).known st.count true e ≡ true → (F e).sees f ≡ true
      → upd (st.site s).known st.count true f ≡ true
  closed-then sees e f h x = came e h (λ q. knows f (rw (q, sees) at x)) (λ q. knows f ((ok.sites s).closed e f q x))

  clock-then : (F st.count).stamp ≡ suc (st.site s).clock → (e : ℕ) → upd (st.site s).known st.count true e ≡ true
      → (F e).stamp ≤ suc (st.site s).clock
  clock-then stamp e h = came e h (λ q. rw (q, stamp) (le_refl _)) (λ q. omega (arith, (ok.sites s).clock e q))

  -- the site after its put: no known event has a larger key
  after_put_lem : (o v : ℕ) → F st.count ≡ made st s true o (value v)
      → (totals' : ℕ → ℕ) → ((i : ℕ) → totals st.site i ≤ totals' i) → totals st.site s < totals' s
      → SiteInv T F (suc st.count) totals' s (after_put (st.site s) s st.count o v)
  after_put_lem o v e_f totals' more rise = record {
    below = below_then;
    closed = closed-then (ap (λ (x : Event). x.sees) e_f);
    own = own-then;
    clock = clock-then (ap (λ (x : Event). x.stamp) e_f);
    clock_few = omega (arith, (ok.sites s).clock_few);
    known_held = λ e h i.
        upd_elim (λ (y : ℕ). place (F e) < y) (st.site s).held s (suc ((st.site s).held s)) (F e).site
        (λ q. came e h (λ l. omega (arith, ap place (ap F l ∙ e_f)))
        (λ l. omega (arith, (ok.sites s).known_held e l i, ap (st.site s).held q)))
        (λ q. came e h (λ l. absurd (q (ap (λ (x : Event). x.site) (ap F l ∙ e_f)))) (λ l. (ok.sites s).known_held e l i));
    held_known = λ e h i.
        upd_elim (λ (y : ℕ). place (F e) < y → upd (st.site s).known st.count true e ≡ true)
        (st.site s).held s (suc ((st.site s).held s)) (F e).site
        (λ q x. own-then e h q)
        (λ q x. lt_suc_elim e st.count h (λ l. knows e ((ok.sites s).held_known e l i x)) (λ l. rw l knows_new));
    counted = λ i p.
        upd_elim (λ (y : ℕ). p < y → CountedPut F (upd (st.site s).known st.count true) i p)
        (st.site s).held s (suc ((st.site s).held s)) i
        (λ q l. lt_suc_elim p ((st.site s).held s) l
        (λ x. counted-more knows ((ok.sites s).counted i p (omega (arith, ap (st.site s).held q))))
        (λ x. record { put = st.count; seen = knows_new; is_put = rw e_f; site = rw (e_f, q); place = rw (e_f, x) }))
        (λ q l. counted-more knows ((ok.sites s).counted i p l));
    held_made = λ i.
        upd_elim (λ (y : ℕ). y ≤ totals' i) (st.site s).held s (suc ((st.site s).held s)) i
        (λ q. rw q rise)
        (λ q. omega (arith, (ok.sites s).held_made i, more i));
    cell = λ o'.
        upd_elim (HoldsLast T F (upd (st.site s).known st.count true) o') (st.site s).cell o (full v (suc (st.site s).clock) s) o'
        (λ q. (
          st.count,
          record {
            seen = knows_new;
            is_put = rw e_f;
            object = rw (e_f, q);
            last = λ x h i b.
                came x h (λ l. rw l (le_refl _))
                (λ l. omega (arith, ap key e_f, (ok.sites s).clock x l, (ok.events x ((ok.sites s).below x l)).site));
          },
          rw e_f,
          rw e_f,
          rw e_f,
        ))
        (λ q. holds_more T F (st.site s).known (upd (st.site s).known st.count true) o' ((st.site s).cell o') knows
        (λ x h i b. came x h (λ l. absurd (q (sym b ∙ ap (λ (y : Event). y.object) (ap F l ∙ e_f)))) (λ l. l))
        ((ok.sites s).cell o'));
  }

  -- the site after its get: the puts that it knows are as before
  after_get_lem : (o : ℕ) (x : Held) → F st.count ≡ made st s false o x
      → (totals' : ℕ → ℕ) → ((i : ℕ) → totals st.site i ≤ totals' i)
      → SiteInv T F (suc st.count) totals' s (after_get (st.site s) st.count)
  after_get_lem o x e_f totals' more = record {
    below = below_then;
    closed = closed-then (ap (λ (y : Event). y.sees) e_f);
    own = own-then;
    clock = clock-then (ap (λ (y : Event). y.stamp) e_f);
    clock_few = omega (arith, (ok.sites s).clock_few);
    known_held = λ e h i. came e h (λ l. absurd (false≢true (rw (l, e_f) at i))) (λ l. (ok.sites s).known_held e l i);
    held_known = λ e h i y. lt_suc_elim e st.count h (λ l. knows e ((ok.sites s).held_known e l i y)) (λ l. rw l knows_new);
    counted = λ i p l. counted-more knows ((ok.sites s).counted i p l);
    held_made = λ i. omega (arith, (ok.sites s).held_made i, more i);
    cell = λ o'.
        holds_more T F (st.site s).known (upd (st.site s).known st.count true) o' ((st.site s).cell o') knows
        (λ y h i b. came y h (λ l. absurd (false≢true (rw (l, e_f) at i))) (λ l. l))
        ((ok.sites s).cell o');
  }

  -- another site, t: a new put has as its place all that s made, which t does not hold
  elsewhere : (p : Bool) (o : ℕ) (x : Held) → F st.count ≡ made st s p o x
      → (totals' : ℕ → ℕ) → ((i : ℕ) → totals st.site i ≤ totals' i)
      → (t : ℕ) → (t ≡ s → ⊥) → SiteInv T F (suc st.count) totals' t (st.site t)
  elsewhere p o x e_f totals' more t other = record {
    below = λ e h. omega (arith, (ok.sites t).below e h);
    closed = (ok.sites t).closed;
    own = λ e l q. lt_suc_elim e st.count l (λ h. (ok.sites t).own e h q) (λ h. absurd (other (sym (rw (h, e_f) at q))));
    clock = (ok.sites t).clock;
    clock_few = omega (arith, (ok.sites t).clock_few);
    known_held = (ok.sites t).known_held;
    held_known = λ e l i y.
        lt_suc_elim e st.count l (λ h. (ok.sites t).held_known e h i y)
        (λ h. let z : (st.site s).held s < (st.site t).held s = rw (h, e_f) at y in absurd (omega (arith, (ok.sites t).held_made s)));
    counted = (ok.sites t).counted;
    held_made = λ i. omega (arith, (ok.sites t).held_made i, more i);
    cell = (ok.sites t).cell;
  }

  pub put_keeps : (o v : ℕ) → F st.count ≡ made st s true o (value v) → StoreInv n T F (effect n st (put s o v))
  unfolding effect
  put_keeps o v e_f =
      let b : Site = after_put (st.site s) s st.count o v in
      let more : (i : ℕ) → totals st.site i ≤ totals (upd st.site s b) i = totals_more st.site s b (raise_le (st.site s).held s) in
      let raised : b.held s ≡ suc ((st.site s).held s) = upd_same (st.site s).held s (suc ((st.site s).held s)) in
      let rise : totals st.site s < totals (upd st.site s b) s =
      omega (arith, ap (λ (x : Site). x.held s) (upd_same st.site s b), raised) in
      record {
        events = λ e h.
            lt_suc_elim e st.count h (λ q. event-more more (ok.events e q))
            (λ q. rw q
            (new_event true o (value v) e_f (totals (upd st.site s b)) more (λ x. rise) (λ x. refl) (λ x. absurd (true≢false x))));
        sites = λ t.
            upd_elim (SiteInv T F (suc st.count) (totals (upd st.site s b)) t) st.site s b t
            (λ q. rw q (after_put_lem o v e_f (totals (upd st.site s b)) more rise))
            (λ q. elsewhere true o (value v) e_f (totals (upd st.site s b)) more t q);
        few = λ i.
            upd_elim (λ (x : Site). x.held i ≤ suc st.count) st.site s b i
            (λ q. rw q (omega (arith, raised, ok.few s)))
            (λ q. omega (arith, ok.few i));
      }

  pub get_keeps : (o : ℕ) → F st.count ≡ made st s false o (cell_value ((st.site s).cell o)) → StoreInv n T F (effect n st (get s o))
  unfolding effect
  get_keeps o e_f =
      let x : Held = cell_value ((st.site s).cell o) in
      let b : Site = after_get (st.site s) st.count in
      let more : (i : ℕ) → totals st.site i ≤ totals (upd st.site s b) i = totals_more st.site s b (λ i. le_refl _) in
      record {
        events = λ e h.
            lt_suc_elim e st.count h (λ q. event-more more (ok.events e q))
            (λ q. rw q
            (new_event false o x e_f (totals (upd st.site s b)) more (λ y. absurd (false≢true y)) (λ y. absurd (false≢true y))
            (λ y. holds_shows T F (st.site s).known o ((st.site s).cell o) ((ok.sites s).cell o))));
        sites = λ t.
            upd_elim (SiteInv T F (suc st.count) (totals (upd st.site s b)) t) st.site s b t
            (λ q. rw q (after_get_lem o x e_f (totals (upd st.site s b)) more))
            (λ q. elsewhere false o x e_f (totals (upd st.site s b)) more t q);
        few = λ i.
            upd_elim (λ (y : Site). y.held i ≤ suc st.count) st.site s b i
            (λ q. omega (arith, ap (λ (j : ℕ). (st.site j).held i) q, ok.few i))
            (λ q. omega (arith, ok.few i));
      }
