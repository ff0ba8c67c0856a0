-- 'Sites that log no order': where values tell writes apart, an order is found exactly if some arbitration makes the record causal, and it is the first of all that do.
-- Assumes nothing.
use mathlib.Core.Path.{◌≡◌, refl, sym, ap, ◌∙◌}
use mathlib.Core.Logic.{◌↔◌}
use mathlib.Core.Bool.{Bool, true, false, not, ◌&&◌, ◌||◌}
use Prim.Native.Nat.{ℕ, ◌<◌, ◌≤◌}
use native.Mathlib.Omega.{arith}
use borrow.Author.Tests.{lt-ltb, ltb-true, ltb-false, eqb-true, eqb-false, eq-eqb, not-true}
use lib.Dec.{eqb, ltb}
use Rattle.std.specs.Prelude.{Some, None}
use Rattle.rows.specs.Lowest.{lowest, some}
use Rattle.rows.specs.Placing.{all_placed, Orders}
use Rattle.rows.proofs.Tests.{tell, split, never, or_elim, or_left, or_right, not_of, and_both, and_left, and_right}
use Rattle.rows.proofs.LowestLaws.{some_at, some_of, some-none, none-some}
use Rattle.rows.proofs.PlacingLaws.{ringless-placed, placed_orders, orders_ringless, first-order, first-only}
use Rattle.record.specs.Terms.{value, value_or0}
use Rattle.record.specs.History.{History, vis}
use Rattle.record.specs.Positioned.{positioned}
use Rattle.consistency.specs.FirstPair.{Verdict}
use Rattle.consistency.specs.Relations.{ss, ob, rb, so, ar, step, hb, write, read}
use Rattle.consistency.specs.Reads.{candidate, held, same_held}
use Rattle.consistency.specs.Predicates.{rule, verdict, numbered}
use Rattle.consistency.specs.Holds.{Within, RightRead, sees-none, sees-last, RightReads, DistinctPositions, Obeys, Holds}
use Rattle.consistency.specs.Breaks.{AllHold}
use Rattle.consistency.specs.Models.{list_of}
use Rattle.consistency.specs.Lattice.{causal}
use Rattle.consistency.specs.FoundOrder.{same_written, repeats, returned_read, holds_of, readable, unreadable, value_puts, puts, met, has_order, found_positions, Unambiguous, Readable, opening-held, write-held, Readables, Orderable, MakesCausal, FirstCausal}
use Rattle.consistency.specs.declared.Predicate.TheVariants.{CausalVisibility}
use Rattle.consistency.proofs.MetIffHolds.{same_held_lem, held_same, within-met, met_holds}

-- ---- 47

module _ (h : History) (once : some h.count (repeats h) ≡ false) where
  no_lower : (v w : ℕ) → v < w → w < h.count → write h v ≡ true → write h w ≡ true → h.object v ≡ h.object w → h.value v ≡ h.value w → ⊥
  unfolding repeats ob
  no_lower v w l j x y o z =
      let lower : Bool = some w (λ u. same_written h u w) in
      let opened : Bool = same_held (h.terms.opening (h.object w)) (value (h.value w)) in
      tell (repeats h w)
      (and_both (write h w) (lower || opened) y (or_left lower opened (some_of w (λ u. same_written h u w) v l
      (and_both (write h v) (ob h v w && eqb (h.value v) (h.value w)) x
      (and_both (ob h v w) (eqb (h.value v) (h.value w)) (eq-eqb (h.object v) (h.object w) o) (eq-eqb (h.value v) (h.value w) z))))))
      (some-none h.count (repeats h) once w j)

  pub once_unambiguous : Unambiguous h
  once_unambiguous v w i j x y o z =
      split (ltb v w)
      (λ t. absurd (no_lower v w (ltb-true v w t) j x y o z))
      (λ t. split (ltb w v)
      (λ u. absurd (no_lower w v (ltb-true w v u) i y x (sym o) (sym z)))
      (λ u. omega (arith, ltb-false v w t, ltb-false w v u)))

  -- nor does a write have its object's opening value
  pub once-opening : (w : ℕ) → w < h.count → write h w ≡ true → h.terms.opening (h.object w) ≡ value (h.value w) → ⊥
  unfolding repeats
  once-opening w j y z =
      let lower : Bool = some w (λ u. same_written h u w) in
      let opened : Bool = same_held (h.terms.opening (h.object w)) (value (h.value w)) in
      tell (repeats h w)
      (and_both (write h w) (lower || opened) y (or_right lower opened (held_same (h.terms.opening (h.object w)) (value (h.value w)) z)))
      (some-none h.count (repeats h) once w j)

-- ---- what does not go by positions

module _ (p : ℕ → ℕ) (h : History) where
  pub hb-placed : hb (positioned p h) ≡ hb h
  unfolding hb step so rb ss vis
  hb-placed = refl

  pub visibility-placed : Holds CausalVisibility (positioned p h) ≡ Holds CausalVisibility h
  unfolding Holds Obeys rule hb step so rb ss vis
  visibility-placed = refl

  pub value-placed : value_puts (positioned p h) ≡ value_puts h
  unfolding value_puts candidate vis ob
  value-placed = refl

  pub unreadable-placed : unreadable (positioned p h) ≡ unreadable h
  unfolding unreadable readable candidate vis ob
  unreadable-placed = refl

-- ---- what a read sees and holds

pub holds-seen : (h : History) (e w : ℕ) → holds_of h e w ≡ true → candidate h e w ≡ true
holds-seen h e w t = and_left (candidate h e w) (same_held (held h e) (value (h.value w))) t

pub holds-value : (h : History) (e w : ℕ) → holds_of h e w ≡ true → held h e ≡ value (h.value w)
holds-value h e w t = same_held_lem (held h e) (value (h.value w)) (and_right (candidate h e w) (same_held (held h e) (value (h.value w))) t)

seen-holds : (h : History) (e w : ℕ) → candidate h e w ≡ true → held h e ≡ value (h.value w) → holds_of h e w ≡ true
seen-holds h e w c k = and_both (candidate h e w) (same_held (held h e) (value (h.value w))) c (held_same (held h e) (value (h.value w)) k)

returned_read_lem : (h : History) (e : ℕ) → read h e ≡ true → h.is_pending e ≡ false → returned_read h e ≡ true
returned_read_lem h e r q = and_both (read h e) (not (h.is_pending e)) r (not_of (h.is_pending e) q)

read-returned : (h : History) (e : ℕ) → returned_read h e ≡ true → (read h e ≡ true) × (h.is_pending e ≡ false)
read-returned h e t = (and_left (read h e) (not (h.is_pending e)) t, not-true (h.is_pending e) (and_right (read h e) (not (h.is_pending e)) t))

candidate-write : (h : History) (e w : ℕ) → candidate h e w ≡ true → (write h w ≡ true) × (h.object w ≡ h.object e)
unfolding candidate ob
candidate-write h e w c =
    let q = and_right (vis h w e) (write h w && ob h w e) c in
    (and_left (write h w) (ob h w e) q, eqb-true (h.object w) (h.object e) (and_right (write h w) (ob h w e) q))

-- it holds the value of one write that it sees at most
pub seen_one : (h : History) → Unambiguous h → (e v w : ℕ) → v < h.count → w < h.count → candidate h e v ≡ true → candidate h e w ≡ true
    → held h e ≡ value (h.value v) → held h e ≡ value (h.value w) → v ≡ w
seen_one h u e v w i j c d k l =
    let x = candidate-write h e v c in
    let y = candidate-write h e w d in
    u v w i j x.0 y.0 (x.1 ∙ sym y.1) (ap value_or0 (sym k ∙ l))

-- ---- the test of a read

module _ (h : History) where
  module _ (e : ℕ) where
    readable-means : readable h e ≡ true → Readable h e
    unfolding readable
    readable-means t =
        split (some h.count (candidate h e))
        (λ u.
        let at = some_at h.count (holds_of h e) (rw u at t) in
        let w : ℕ = lowest h.count (holds_of h e) in
        write-held w at.0 (holds-seen h e w at.1) (holds-value h e w at.1))
        (λ u. opening-held (some-none h.count (candidate h e) u) (same_held_lem (held h e) (h.terms.opening (h.object e)) (rw u at t)))

    means-readable : Readable h e → readable h e ≡ true
    unfolding readable
    means-readable (opening-held f k) = rw (none-some h.count (candidate h e) f) (held_same (held h e) (h.terms.opening (h.object e)) k)
    means-readable (write-held w j c k) =
        rw (some_of h.count (candidate h e) w j c) (some_of h.count (holds_of h e) w j (seen-holds h e w c k))

  pub all_readable : some h.count (unreadable h) ≡ false → Readables h
  unfolding unreadable
  all_readable none e i r q =
      readable-means e
      (split (readable h e) (λ t. t)
      (λ t. absurd (tell (unreadable h e)
      (and_both (returned_read h e) (not (readable h e)) (returned_read_lem h e r q) (not_of (readable h e) t))
      (some-none h.count (unreadable h) none e i))))

  pub readable_all : Readables h → some h.count (unreadable h) ≡ false
  unfolding unreadable
  readable_all all = none-some h.count (unreadable h) (λ e i. never (unreadable h e)
      (λ t.
      let returned = read-returned h e (and_left (returned_read h e) (not (readable h e)) t) in
      tell (readable h e)
      (means-readable e (all e i returned.0 returned.1))
      (not-true (readable h e) (and_right (returned_read h e) (not (readable h e)) t))))

-- ---- reads are right by positions exactly if each can be, and the positions have what their values put before what

module _ (h : History) (u : Unambiguous h) (d : DistinctPositions h) (r : RightReads h) where
  -- the write whose value a read holds is the last that it sees, so another is before it
  last-before : (e a b : ℕ) → a < h.count → b < h.count → (a ≡ b → ⊥) → candidate h e a ≡ true → candidate h e b ≡ true → held h e ≡ value (h.value b)
      → RightRead h e → ar h a b ≡ true
  unfolding ar
  last-before e a b i j apart ca cb v (sees-none f k) = absurd (tell (candidate h e a) ca (f a i))
  last-before e a b i j apart ca cb v (sees-last {w} l k) =
      let at : h.position w ≡ h.position b = ap h.position (seen_one h u e w b l.below j l.seen cb k v) in
      let ne : h.position a ≡ h.position b → ⊥ = λ z. apart (d a b i j z) in
      lt-ltb (h.position a) (h.position b) (omega (arith, l.last a i ca))

  pub right-puts : Within h.count (value_puts h) (ar h)
  unfolding value_puts
  right-puts a b i j t =
      let puts-by : ℕ → Bool = λ e. candidate h e a && (returned_read h e && holds_of h e b) in
      let at = some_at h.count puts-by (and_right (not (eqb a b)) (some h.count puts-by) t) in
      let e : ℕ = lowest h.count puts-by in
      let rest = and_right (candidate h e a) (returned_read h e && holds_of h e b) at.1 in
      let returned = read-returned h e (and_left (returned_read h e) (holds_of h e b) rest) in
      let holds = and_right (returned_read h e) (holds_of h e b) rest in
      last-before e a b i j (eqb-false a b (not-true (eqb a b) (and_left (not (eqb a b)) (some h.count puts-by) t)))
      (and_left (candidate h e a) (returned_read h e && holds_of h e b) at.1)
      (holds-seen h e b holds) (holds-value h e b holds) (r e at.0 returned.0 returned.1)

pub right-readable : (h : History) → RightReads h → Readables h
right-readable h r e i q t = go (r e i q t)
  where
    go : RightRead h e → Readable h e
    go (sees-none f k) = opening-held f k
    go (sees-last {w} l k) = write-held w l.below l.seen k

module _ (h : History) (all : Readables h) (within : Within h.count (value_puts h) (ar h)) where
  pub puts-right : RightReads h
  unfolding value_puts ar
  puts-right e i q t = go (all e i q t)
    where
      -- another write that e sees is put before the one whose value it holds
      put : (w x : ℕ) → x < h.count → candidate h e w ≡ true → held h e ≡ value (h.value w) → candidate h e x ≡ true → eqb x w ≡ false → value_puts h x w ≡ true
      put w x l c k cx z =
          let puts-by : ℕ → Bool = λ y. candidate h y x && (returned_read h y && holds_of h y w) in
          and_both (not (eqb x w)) (some h.count puts-by) (not_of (eqb x w) z)
          (some_of h.count puts-by e i
          (and_both (candidate h e x) (returned_read h e && holds_of h e w) cx
          (and_both (returned_read h e) (holds_of h e w) (returned_read_lem h e q t) (seen-holds h e w c k))))

      most : (w x : ℕ) → w < h.count → x < h.count → candidate h e w ≡ true → held h e ≡ value (h.value w) → candidate h e x ≡ true → h.position x ≤ h.position w
      most w x j l c k cx =
          split (eqb x w)
          (λ z. omega (arith, ap h.position (eqb-true x w z)))
          (λ z. omega (arith, ltb-true (h.position x) (h.position w) (within x w l j (put w x l c k cx z))))

      go : Readable h e → RightRead h e
      go (opening-held f k) = sees-none f k
      go (write-held w j c k) = sees-last {w = w} (record { below = j; seen = c; last = λ x l cx. most w x j l c k cx }) k

-- ---- what it takes, as a test

met_is : (v : Verdict) → met v ≡ true → v ≡ None
met_is None e = refl
met_is (Some (a, b)) e = absurd (tell false e refl)

module _ (h : History) where
  visibility-met : Holds CausalVisibility h → verdict CausalVisibility h ≡ None
  unfolding Holds Obeys rule
  visibility-met w = within-met CausalVisibility h (hb h) (vis h) refl w

  pub has_orderable : has_order h ≡ true → Orderable h
  unfolding has_order
  has_orderable t =
      let seen : Bool = met (verdict CausalVisibility h) in
      let right : Bool = not (some h.count (unreadable h)) in
      let all : Bool = all_placed h.count (puts h) in
      let rest = and_right seen (right && all) t in
      record {
        visibility = met_holds CausalVisibility h (met_is (verdict CausalVisibility h) (and_left seen (right && all) t));
        reads = all_readable h (not-true (some h.count (unreadable h)) (and_left right all rest));
        ringless = orders_ringless h.count (puts h) (placed_orders h.count (puts h) (and_right right all rest));
      }

  pub orderable_has : Orderable h → has_order h ≡ true
  unfolding has_order
  orderable_has o =
      let right : Bool = not (some h.count (unreadable h)) in
      let all : Bool = all_placed h.count (puts h) in
      and_both (met (verdict CausalVisibility h)) (right && all) (ap met (visibility-met o.visibility))
      (and_both right all (not_of (some h.count (unreadable h)) (readable_all h o.reads)) (ringless-placed h.count (puts h) o.ringless))

  pub has_iff_orderable : (has_order h ≡ true) ↔ Orderable h
  has_iff_orderable = (has_orderable, orderable_has)

-- ---- the orders that have what is put before what are the arbitrations that make the record causal

module _ (h : History) {p : ℕ → ℕ} where
  pub orders_causal : Holds CausalVisibility h → Readables h → Orders h.count (puts h) p → MakesCausal h p
  unfolding puts ar Holds Obeys rule numbered
  orders_causal seen reads o = record {
    arbitration = record { below = o.below; distinct = o.distinct };
    holds = (rw (visibility-placed p h) seen, (after, (values, tt)));
  }
    where
      after : Within h.count (hb (positioned p h)) (ar (positioned p h))
      after a b i j t = lt-ltb (p a) (p b) (o.keeps a b i j (or_left (hb h a b) (value_puts h a b) (rw (hb-placed p h) at t)))

      within : Within h.count (value_puts (positioned p h)) (ar (positioned p h))
      within a b i j t = lt-ltb (p a) (p b) (o.keeps a b i j (or_right (hb h a b) (value_puts h a b) (rw (value-placed p h) at t)))

      values : RightReads (positioned p h)
      values = puts-right (positioned p h) (all_readable (positioned p h) (rw (unreadable-placed p h) (readable_all h reads))) within

  pub causal_orders : Unambiguous h → MakesCausal h p → Orders h.count (puts h) p
  unfolding puts ar Holds Obeys rule numbered
  causal_orders u m = go m.holds
    where
      go : AllHold (list_of causal) (positioned p h) → Orders h.count (puts h) p
      go (seen, (after, (values, end))) = record {
        below = m.arbitration.below;
        distinct = m.arbitration.distinct;
        keeps = λ a b i j t. ltb-true (p a) (p b) (or_elim (hb h a b) (value_puts h a b) t
            (λ e. after a b i j (rw (hb-placed p h) e))
            (λ e. right-puts (positioned p h) u m.arbitration.distinct values a b i j (rw (value-placed p h) e)));
      }

-- ---- what is found

module _ (h : History) where
  pub found-causal : has_order h ≡ true → MakesCausal h (found_positions h)
  unfolding found_positions
  found-causal t =
      let o = has_orderable h t in
      orders_causal h o.visibility o.reads (placed_orders h.count (puts h) (ringless-placed h.count (puts h) o.ringless))

  module _ (u : Unambiguous h) where
    pub causal_orderable : {p : ℕ → ℕ} → MakesCausal h p → Orderable h
    unfolding Holds Obeys rule numbered
    causal_orderable {p} m = record {
      visibility = rw (visibility-placed p h) at m.holds.0;
      reads = all_readable h (rw (unreadable-placed p h) at (readable_all (positioned p h) (right-readable (positioned p h) m.holds.1.1.0)));
      ringless = orders_ringless h.count (puts h) (causal_orders h u m);
    }

    -- there is an order exactly if there is one that makes the record causal
    pub has_iff_causal : (has_order h ≡ true) ↔ ((p : ℕ → ℕ) × MakesCausal h p)
    has_iff_causal = (λ t. (found_positions h, found-causal t), λ c. orderable_has h (causal_orderable c.1))

    -- 48: none exactly if no arbitration does
    pub no_order_iff : (has_order h ≡ false) ↔ ((p : ℕ → ℕ) → MakesCausal h p → ⊥)
    no_order_iff = (
      λ t p m. tell (has_order h) (orderable_has h (causal_orderable m)) t,
      λ none. never (has_order h) (λ t. none (found_positions h) (found-causal t)),
    )

    -- and the one found is the first of all that do
    pub found_first : has_order h ≡ true → FirstCausal h (found_positions h)
    unfolding found_positions
    found_first t =
        let o = has_orderable h t in
        record {
          causal = found-causal t;
          first = λ p m. (first-order h.count (puts h) (ringless-placed h.count (puts h) o.ringless)).first p (causal_orders h u m);
        }

    -- which is one only
    pub first-causal-only : {p o : ℕ → ℕ} → FirstCausal h p → FirstCausal h o → (e : ℕ) → e < h.count → p e ≡ o e
    first-causal-only {p} {o} f g =
        first-only h.count (puts h) (causal_orders h u f.causal) (causal_orders h u g.causal) (f.first o g.causal) (g.first p f.causal)
