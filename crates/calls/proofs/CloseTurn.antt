-- A close on the arrays: the lowest put that some site lacks comes to all sites that lack it, until there is none. Assumes nothing.
use mathlib.Core.Path.{◌≡◌, refl, sym, ap, ap₂, ◌∙◌}
use mathlib.Core.Logic.{◌⊎◌, inl, inr}
use mathlib.Core.Bool.{Bool, true, false, not, ◌&&◌, and-false}
use Prim.Native.Nat.{ℕ, ◌+◌, ◌*◌, ◌≤◌, ◌<◌}
use native.Mathlib.Nat.{mul-le-mul}
use native.Mathlib.Omega.{arith}
use lib.Dec.{ltb}
use borrow.Author.Tests.{ltb-true, ltb-false}
use Rattle.rows.specs.Lowest.{lowest, some}
use Rattle.rows.specs.Row.{has}
use Rattle.rows.proofs.Tests.{split, tell, and_left}
use Rattle.rows.proofs.LowestLaws.{Low, lowest_low, some-none, none-some}
use Rattle.record.specs.Layout.{most_events}
use Rattle.record.specs.Terms.{Terms}
use Rattle.store.specs.Store.{Site, Event, Store}
use Rattle.store.specs.Rules.{after_delivery, with_copy}
use Rattle.store.specs.Outstanding.{lacks}
use Rattle.store.proofs.UpdateLaws.{upd_elim, upd_same, lt_suc_elim}
use Rattle.store.proofs.DeliverKeeps.{still_known, put-known}
use Rattle.store.proofs.OutstandingLaws.{outstanding-most, known-put, not-lacking}
use Rattle.store.proofs.CloseSites.{Closing, closing-none, closing_join, closing_doable, closing-more, closing-store, closing-copies}
use Rattle.calls.specs.Lent.{Lent, row_in, store_in, lacked_by_some}
use Rattle.calls.specs.Done.{Copyable, Came, Closes}
use Rattle.calls.proofs.LentLaws.{store-count, site-at, put-told}
use Rattle.calls.proofs.FitLaws.{Fit, copyable}

-- ---- what a site lacks

module _ (n : ℕ) (n≤8 : n ≤ 8) (t : Terms) (z : Lent) (fit : Fit n t z) where
  abbrev st : Store
  st = store_in t z

  pub known-told : (u x : ℕ) → u < 8 → (st.site u).known x ≡ has (row_in z.known u) x
  known-told u x l = ap (λ (a : Site). a.known x) (site-at t z u l)

  lacks-told : (u x : ℕ) → u < 8 → lacks st u x ≡ has z.puts x && not (has (row_in z.known u) x)
  lacks-told u x l = ap₂ (λ (p k : Bool). p && not k) (put-told t z fit.clear x) (known-told u x l)

  abbrev lacking : ℕ → ℕ → Bool
  lacking x u = not (has (row_in z.known u) x)

  -- no site lacks x
  by-none : (x : ℕ) → lacked_by_some z n x ≡ false → (u : ℕ) → u < n → lacks st u x ≡ false
  by-none x e u l = lacks-told u x (omega arith) ∙ elim (either (has z.puts x) (some n (lacking x)) e) [
    | inl p ↦ ap (λ (b : Bool). b && lacking x u) p
    | inr q ↦ ap (λ (b : Bool). has z.puts x && b) (some-none n (lacking x) q u l) ∙ and-false (has z.puts x)
  ]
    where
      either : (p s : Bool) → p && s ≡ false → p ≡ false ⊎ s ≡ false
      either true s e = inr e
      either false s e = inl refl

  none-by : (x : ℕ) → ((u : ℕ) → u < n → lacks st u x ≡ false) → lacked_by_some z n x ≡ false
  none-by x none =
      split (has z.puts x)
      (λ p. rw p (none-some n (lacking x) (λ u l. sym (ap (λ (b : Bool). b && lacking x u) p) ∙ sym (lacks-told u x (omega arith)) ∙ none u l)))
      (λ p. rw p refl)

  -- w is the lowest that some site lacks
  module _ (w : ℕ) (told : w ≡ lowest most_events (lacked_by_some z n)) where
    first : Low most_events (lacked_by_some z n) w
    first = rw told (lowest_low most_events (lacked_by_some z n))

    pub none-lower : (e u : ℕ) → e < w → u < n → lacks st u e ≡ false
    none-lower e u l m = by-none e (first.below e l) u m

    pub lacked_put : w < most_events → (st.event w).is_put ≡ true
    lacked_put few = put-told t z fit.clear w ∙ and_left (has z.puts w) (some n (lacking w)) (first.at few)

  -- where no put up to w lacks anywhere, the lowest is higher
  pub lowest_higher : (w v : ℕ) → w < most_events → v ≡ lowest most_events (lacked_by_some z n) → ((e u : ℕ) → e ≤ w → u < n → lacks st u e ≡ false) → w < v
  lowest_higher w v few told none =
      split (ltb w v) (λ k. ltb-true w v k)
      (λ k.
      let most : v ≤ w = ltb-false w v k in
      absurd (tell (lacked_by_some z n v) ((first v told).at (omega arith)) (none-by v (λ u l. none v u most l))))

-- ---- copies

-- since the close began, in z, so many copies were delivered, up to now
pub record ClosingIn (n : ℕ) (t : Terms) (z now : Lent) (copies : ℕ) : Type 0 where
  pub fit : Fit n t now
  pub closing : Closing n (store_in t z) (store_in t now) copies

-- the copies of event w, begun in z after `before` others, for the first u sites: no site lacks a lower put, and these do not lack w
pub record Copying (n : ℕ) (t : Terms) (z : Lent) (w before : ℕ) (now : Lent) (copies u : ℕ) : Type 0 where
  pub brought : ℕ
  pub sum : copies ≡ before + brought
  pub here : ClosingIn n t z now brought
  pub below : (e i : ℕ) → e < w → i < n → lacks (store_in t now) i e ≡ false
  pub done : (i : ℕ) → i < u → lacks (store_in t now) i w ≡ false

-- the loop's variables may be given by equations
pub copying_carried : {n : ℕ} {t : Terms} {z : Lent} {w before : ℕ} {now now' : Lent} {copies copies' u : ℕ} → now ≡ now' → copies ≡ copies'
    → Copying n t z w before now' copies' u → Copying n t z w before now copies u
copying_carried p q h = rw (p, q) h

-- what does not lack after a copy of w to t
still : (st : Store) (w t i e : ℕ) → lacks st i e ≡ false → lacks (with_copy st w t) i e ≡ false
still st w t i e h =
    not-lacking (st.event e).is_put (((with_copy st w t).site i).known e)
    (λ p. upd_elim (λ (a : Site). a.known e ≡ true) st.site t (after_delivery (st.site t) w (st.event w)) i
    (λ q. still_known (st.site t) w (st.event w) e (rw q at (known-put (st.event e).is_put ((st.site i).known e) h p)))
    (λ q. known-put (st.event e).is_put ((st.site i).known e) h p))

copied-there : (st : Store) (w t : ℕ) → lacks (with_copy st w t) t w ≡ false
copied-there st w t =
    not-lacking (st.event w).is_put (((with_copy st w t).site t).known w)
    (λ p. ap (λ (a : Site). a.known w) (upd_same st.site t (after_delivery (st.site t) w (st.event w))) ∙ put-known (st.site t) w (st.event w))

module _ (n : ℕ) (n≤8 : n ≤ 8) (t : Terms) (z : Lent) (fit : Fit n t z) where
  pub closing-start : ClosingIn n t z z 0
  closing-start = record { fit = fit; closing = closing-none n (store_in t z) }

  pub copying_start : (w before : ℕ) → w ≡ lowest most_events (lacked_by_some z n) → Copying n t z w before z before 0
  copying_start w before told = record {
    brought = 0;
    sum = omega arith;
    here = closing-start;
    below = none-lower n n≤8 t z fit w told;
    done = λ u l. absurd (omega arith);
  }

  module _ (now : Lent) (copies : ℕ) where
    -- few copies were delivered
    pub closing-most : ClosingIn n t z now copies → copies ≤ 8 * most_events
    closing-most h = omega (arith, h.closing.counted, outstanding-most n (store_in t z), mul-le-mul n≤8 fit.limits.count)

    -- the copy of w for site u
    module _ (w before : ℕ) (few : w < most_events) (is_put : ((store_in t z).event w).is_put ≡ true) (u : ℕ) (h : Copying n t z w before now copies u) (l : u < n) where
      is_put-now : ((store_in t now).event w).is_put ≡ true
      is_put-now = ap (λ (f : ℕ → Event). (f w).is_put) h.here.closing.event ∙ is_put

      -- it is known there
      pub copying_pass : has (row_in now.known u) w ≡ true → Copying n t z w before now copies (u + 1)
      copying_pass known-w = record {
        brought = h.brought;
        sum = h.sum;
        here = h.here;
        below = h.below;
        done = λ i k.
            lt_suc_elim i u (omega arith) (h.done i)
            (λ q. rw q (not-lacking ((store_in t now).event w).is_put (((store_in t now).site u).known w) (λ p. known-told n n≤8 t now h.here.fit u w (omega arith) ∙ known-w)));
      }

      -- or it is delivered
      module _ (lacked : has (row_in now.known u) w ≡ false) where
        event : w < (store_in t now).count
        event =
            rw (store-count t now)
            (split (ltb w now.count) (λ k. ltb-true w now.count k)
            (λ k. absurd (tell (has now.puts w) (sym (put-told t now h.here.fit.clear w) ∙ is_put-now) (h.here.fit.clear.puts w (ltb-false w now.count k)))))

        lacks_w : lacks (store_in t now) u w ≡ true
        lacks_w = ap₂ (λ (p k : Bool). p && not k) is_put-now (known-told n n≤8 t now h.here.fit u w (omega arith) ∙ lacked)

        pub copying_copyable : Copyable now u w
        copying_copyable =
            copyable n n≤8 t now h.here.fit w u
            (closing_doable n n≤8 (store_in t z) (store_in t now) fit.keeps h.brought h.here.closing u l w event lacks_w (λ e k. h.below e u k l))

        pub copying_copy : (z' : Lent) → Came now z' u w → Copying n t z w before z' (copies + 1) (u + 1)
        copying_copy z' came =
            let stepped : store_in t z' ≡ with_copy (store_in t now) w u = came.store t in
            let more : Closing n (store_in t z) (with_copy (store_in t now) w u) (h.brought + 1) =
            closing-more n n≤8 (store_in t z) (store_in t now) fit.keeps h.brought h.here.closing u l w event lacks_w (λ e k. h.below e u k l) in
            record {
              brought = h.brought + 1;
              sum = omega (arith, h.sum);
              here = record {
                fit = record {
                  sized = came.sized;
                  clear = came.clear;
                  keeps = rw stepped (more.keeps fit.keeps);
                  limits = rw stepped (record { count = h.here.fit.limits.count; object = h.here.fit.limits.object });
                  stamps = rw stepped h.here.fit.stamps;
                };
                closing = rw stepped more;
              };
              below = λ e i k m. rw stepped (still (store_in t now) w u i e (h.below e i k m));
              done = λ i k.
                  rw stepped
                  (lt_suc_elim i u (omega arith) (λ q. still (store_in t now) w u i w (h.done i q)) (λ q. rw q (copied-there (store_in t now) w u)));
            }

    -- all sites are passed: the lowest that some site lacks is higher
    pub copied_higher : (w before u v : ℕ) → Copying n t z w before now copies u → n ≤ u → w < most_events → v ≡ lowest most_events (lacked_by_some now n) → w < v
    copied_higher w before u v h all few told =
        lowest_higher n n≤8 t now h.here.fit w v few told
        (λ e i k l. lt_suc_elim e w (omega arith) (λ q. h.below e i q l) (λ q. rw q (h.done i (omega arith))))

    -- and what came before the copies of w is joined to them
    pub copied_join : (z' : Lent) (w copies' u : ℕ) → ClosingIn n t z now copies
        → Copying n t now w copies z' copies' u → ClosingIn n t z z' copies'
    copied_join z' w copies' u h i = record {
      fit = i.here.fit;
      closing =
          rw i.sum
          (closing_join n (store_in t z) (store_in t now) (store_in t z') copies i.brought h.closing i.here.closing);
    }

    -- no event is lacking
    pub closing-closes : ClosingIn n t z now copies → (w : ℕ) → w ≡ lowest most_events (lacked_by_some now n) → most_events ≤ w → Closes n t z now copies
    closing-closes h w told past =
        let none : (e u : ℕ) → e < (store_in t now).count → u < n → lacks (store_in t now) u e ≡ false = λ e u k l.
        none-lower n n≤8 t now h.fit w told e u (omega (arith, h.fit.limits.count)) l in
        record {
          sized = h.fit.sized;
          clear = h.fit.clear;
          store = closing-store n n≤8 (store_in t z) (store_in t now) copies h.closing none;
          counted = closing-copies n n≤8 (store_in t z) (store_in t now) copies h.closing none fit.keeps;
        }

-- from whatever terms, with the same events
module _ (n : ℕ) (z : Lent) where
  abbrev pub SameEvents : Lent → Type 0
  SameEvents now = (now.sees ≡ z.sees) × (now.events ≡ z.events)

  pub record ClosingFrom (now : Lent) (copies : ℕ) : Type 0 where
    pub turn : (t : Terms) → Fit n t z → ClosingIn n t z now copies
    pub events : SameEvents now

  pub record CopyingFrom (w before : ℕ) (now : Lent) (copies u : ℕ) : Type 0 where
    pub turn : (t : Terms) → Fit n t z → Copying n t z w before now copies u
    pub events : SameEvents now
