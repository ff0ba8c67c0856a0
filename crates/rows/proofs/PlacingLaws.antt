-- Laws of placing: a relation without a ring has all events placed, each once, with the relation within their order; and no order that it is within comes earlier.
-- Assumes nothing.
use mathlib.Core.Path.{◌≡◌, refl, sym, ap, ap₂, ◌∙◌}
use mathlib.Core.Logic.{◌↔◌}
use mathlib.Core.Bool.{Bool, true, false, not, cond, ◌&&◌, ◌||◌}
use mathlib.Core.List.{List, [], ◌∷◌}
use Prim.Native.Nat.{ℕ, zero, suc, ◌+◌, ◌-◌, ◌<◌}
use native.Mathlib.Omega.{arith}
use borrow.Author.Tests.{ltb-true, ltb-false, lt-ltb, le-ltb, eqb-true, eq-eqb, ne_eqb, not-true}
use lib.Dec.{ltb, eqb}
use lib.ListN.{length, get_or}
use lib.Seq.{ext_get_or}
use Rattle.rows.specs.Lowest.{lowest, some}
use Rattle.rows.specs.Count.{how_many}
use Rattle.rows.specs.Relation.{Rel, reaches, Steps, one, more}
use Rattle.rows.specs.Shortest.{NotLater, same}
use Rattle.rows.specs.Placing.{ready, next_ready, with, place_from, placing, all_placed, place_in, positions, Ringless, Orders, event_at, events_from, in_order, FirstOrder}
use Rattle.rows.proofs.Tests.{split, tell, never, same_test, or_elim, or_left, or_right, and_both, and_left, and_right, not_of}
use Rattle.rows.proofs.LowestLaws.{same-lowest, some_of, some_at, some-none, none-some, same_some}
use Rattle.rows.proofs.CountLaws.{sum-other, sum-each, many_same, many_all, few_different, all_different}
use Rattle.rows.proofs.ReachLaws.{reaches-sound, reaches_complete, steps-rising, steps_map}
use Rattle.rows.proofs.ShortestLaws.{lowest-not-later, not-later-both}

-- ---- what is ready, and what is placed next

module _ (n : ℕ) (q : Rel) (s : ℕ → Bool) where
  pub ready_new : (e : ℕ) → ready n q s e ≡ true → s e ≡ false
  unfolding ready
  ready_new e r = not-true (s e) (and_left (not (s e)) (not (some n (λ a. q a e && not (s a)))) r)

  pub ready-not : (e : ℕ) → s e ≡ true → ready n q s e ≡ false
  ready-not e t = never (ready n q s e) (λ r. tell (s e) t (ready_new e r))

  pub ready-after : (e : ℕ) → ready n q s e ≡ true → (a : ℕ) → a < n → q a e ≡ true → s a ≡ true
  unfolding ready
  ready-after e r a l t =
      let lacks : ℕ → Bool = λ a. q a e && not (s a) in
      split (s a) (λ u. u)
      (λ u. absurd (tell (lacks a) (and_both (q a e) (not (s a)) t (not_of (s a) u))
      (some-none n lacks (not-true (some n lacks) (and_right (not (s e)) (not (some n lacks)) r)) a l)))

  pub ready_of : (e : ℕ) → s e ≡ false → ((a : ℕ) → a < n → q a e ≡ true → s a ≡ true) → ready n q s e ≡ true
  unfolding ready
  ready_of e u all =
      let lacks : ℕ → Bool = λ a. q a e && not (s a) in
      and_both (not (s e)) (not (some n lacks)) (not_of (s e) u)
      (not_of (some n lacks) (none-some n lacks (λ a l. never (lacks a)
      (λ t. tell (s a) (all a l (and_left (q a e) (not (s a)) t)) (not-true (s a) (and_right (q a e) (not (s a)) t))))))

  pub place_more : (k : ℕ) → some n (ready n q s) ≡ true → place_from n q (suc k) s ≡ next_ready n q s ∷ place_from n q k (with s (next_ready n q s))
  unfolding place_from
  place_more k t = rw t

  pub place_stuck : (k : ℕ) → some n (ready n q s) ≡ false → place_from n q (suc k) s ≡ []
  unfolding place_from
  place_stuck k t = rw t

pub place_none : (n : ℕ) (q : Rel) (s : ℕ → Bool) → place_from n q 0 s ≡ []
unfolding place_from
place_none n q s = refl

-- ---- an event's place in a list

pub in_at : (x : ℕ) (l : List ℕ) (e : ℕ) → x ≡ e → place_in (x ∷ l) e ≡ 0
unfolding place_in
in_at x l e t = rw (eq-eqb x e t)

pub in_past : (x : ℕ) (l : List ℕ) (e : ℕ) → eqb x e ≡ false → place_in (x ∷ l) e ≡ suc (place_in l e)
unfolding place_in
in_past x l e t = rw t

-- ---- how many are placed

pub none_many : (n : ℕ) → how_many n (λ e. false) ≡ 0
none_many n = sum-each n 0 ∙ omega arith

all_many : (n : ℕ) (s : ℕ → Bool) → ((e : ℕ) → e < n → s e ≡ true) → how_many n s ≡ n
all_many n s all = omega (arith, many_same n s (λ x. true) all, sum-each n 1)

with_past : (s : ℕ → Bool) (x e : ℕ) → eqb x e ≡ false → s e ≡ false → with s x e ≡ false
with_past s x e t u = rw (t, u)

-- one more is placed
pub with_many : (n : ℕ) (s : ℕ → Bool) (e : ℕ) → e < n → s e ≡ false → how_many n (with s e) ≡ how_many n s + 1
with_many n s e l u =
    sum-other n (λ x. cond (with s e x) 1 0) (λ x. cond (s x) 1 0) e 1 l
    (rw (eq-eqb e e refl, u) refl)
    (λ x h other. rw (ne_eqb e x (λ z. other (sym z))) refl)

-- ---- orders event by event: the events that are left, each ready in its turn, until all are placed

data OrderFrom (n : ℕ) (q : Rel) : (ℕ → Bool) → List ℕ → Type 0 where
  done : {s : ℕ → Bool} → ((e : ℕ) → e < n → s e ≡ true) → OrderFrom n q s []
  next : {s : ℕ → Bool} {e : ℕ} {l : List ℕ} → e < n → ready n q s e ≡ true → OrderFrom n q (with s e) l → OrderFrom n q s (e ∷ l)

module _ (n : ℕ) (q : Rel) where
  order-long : {s : ℕ → Bool} {l : List ℕ} → OrderFrom n q s l → length l + how_many n s ≡ n
  order-long (done {s} all) = omega (arith, all_many n s all)
  order-long (next {s} {e} i r o) = omega (arith, order-long o, with_many n s e i (ready_new n q s e r))

  -- the placing is not later than any
  place_first : {s : ℕ → Bool} {l : List ℕ} → OrderFrom n q s l → (k : ℕ) → length l ≡ k → NotLater (place_from n q k s) l
  place_first (done {s} all) zero z = rw (place_none n q s) same
  place_first (done {s} all) (suc k) z = absurd (omega arith)
  place_first (next {s} {e} {l} i r o) zero z = absurd (omega arith)
  place_first (next {s} {e} {l} i r o) (suc k) z =
      rw (place_more n q s k (some_of n (ready n q s) e i r))
      (lowest-not-later n (ready n q s) e r (λ y. rw y (place_first o k (omega arith))))

  -- where it goes on to the end it is one
  place_order : (k : ℕ) (s : ℕ → Bool) → k + how_many n s ≡ n → length (place_from n q k s) ≡ k → OrderFrom n q s (place_from n q k s)
  place_order zero s z long = rw (place_none n q s) (done (many_all n s (omega arith)))
  place_order (suc k) s z long =
      split (some n (ready n q s))
      (λ t.
      let at = some_at n (ready n q s) t in
      let x : ℕ = next_ready n q s in
      rw (place_more n q s k t)
      (next at.0 at.1
      (place_order k (with s x) (omega (arith, with_many n s x at.0 (ready_new n q s x at.1))) (omega (arith, ap length (place_more n q s k t))))))
      (λ t. absurd (omega (arith, ap length (place_stuck n q s k t))))

  -- ---- an event's place in one

  order_in : {s : ℕ → Bool} {l : List ℕ} → OrderFrom n q s l → (e : ℕ) → e < n → s e ≡ false → (place_in l e < length l) × (get_or l (place_in l e) 0 ≡ e)
  order_in (done {s} all) e i u = absurd (tell (s e) (all e i) u)
  order_in (next {s} {e = x} {l} j r o) e i u =
      split (eqb x e)
      (λ t. rw (in_at x l e (eqb-true x e t)) (omega arith, eqb-true x e t))
      (λ t.
      let rest = order_in o e i (with_past s x e t u) in
      rw (in_past x l e t) (omega (arith, rest.0), rest.1))

  order-keeps : {s : ℕ → Bool} {l : List ℕ} → OrderFrom n q s l → (a b : ℕ) → a < n → b < n → s a ≡ false → s b ≡ false → q a b ≡ true → place_in l a < place_in l b
  order-keeps (done {s} all) a b i j u v t = absurd (tell (s a) (all a i) u)
  order-keeps (next {s} {e = x} {l} h r o) a b i j u v t =
      split (eqb x b)
      (λ y. absurd (tell (s a) (ready-after n q s x r a i (rw (sym (eqb-true x b y)) at t)) u))
      (λ y. split (eqb x a)
      (λ z. omega (arith, in_at x l a (eqb-true x a z), in_past x l b y))
      (λ z. omega (arith, in_past x l a z, in_past x l b y, order-keeps o a b i j (with_past s x a z u) (with_past s x b y v) t)))

  order_orders : {l : List ℕ} → OrderFrom n q (λ e. false) l → Orders n q (place_in l)
  order_orders {l} o = record {
    below = λ e i. omega (arith, (order_in o e i refl).0, order-long o);
    distinct = λ a b i j z. sym (order_in o a i refl).1 ∙ ap (λ (k : ℕ). get_or l k 0) z ∙ (order_in o b j refl).1;
    keeps = λ a b i j t. order-keeps o a b i j refl refl t;
  }

-- ---- where no event leads to itself, one is ready as long as any is left

module _ (n : ℕ) (q : Rel) (free : Ringless n q) (s : ℕ → Bool) (stuck : some n (ready n q s) ≡ false) where
  -- an event that q has before e, and that is not placed
  abbrev lacking : ℕ → ℕ → Bool
  lacking e a = q a e && not (s a)

  -- i such steps back from e
  walk : ℕ → ℕ → ℕ
  walk e zero = e
  walk e (suc i) = lowest n (lacking (walk e i))

  lacks-one : (e : ℕ) → e < n → s e ≡ false → some n (lacking e) ≡ true
  unfolding ready
  lacks-one e l u =
      split (some n (lacking e)) (λ t. t)
      (λ t. absurd (tell (ready n q s e) (and_both (not (s e)) (not (some n (lacking e))) (not_of (s e) u) (not_of (some n (lacking e)) t))
      (some-none n (ready n q s) stuck e l)))

  module _ (e : ℕ) (l : e < n) (u : s e ≡ false) where
    walk_left : (i : ℕ) → (walk e i < n) × (s (walk e i) ≡ false)
    unfolding walk
    walk_left zero = (l, u)
    walk_left (suc i) =
        let here = walk_left i in
        let back = some_at n (lacking (walk e i)) (lacks-one (walk e i) here.0 here.1) in
        (back.0, not-true (s (walk e (suc i))) (and_right (q (walk e (suc i)) (walk e i)) (not (s (walk e (suc i)))) back.1))

    walk_step : (i : ℕ) → q (walk e (suc i)) (walk e i) ≡ true
    unfolding walk
    walk_step i =
        let here = walk_left i in
        and_left (q (walk e (suc i)) (walk e i)) (not (s (walk e (suc i))))
        (some_at n (lacking (walk e i)) (lacks-one (walk e i) here.0 here.1)).1

    walk_steps : (i d : ℕ) → Steps n q (walk e (suc (i + d))) (walk e i)
    walk_steps i zero = let z : i + 0 ≡ i = omega arith in rw z (one (walk_step i))
    walk_steps i (suc d) = let z : i + suc d ≡ suc (i + d) = omega arith in rw z (more (walk_step (suc (i + d))) (walk_left (suc (i + d))).0 (walk_steps i d))

    -- n steps back come to one event twice
    none_left : ⊥
    none_left = omega (arith, few_different n (walk e) (suc n) (λ i h. (walk_left i).0) twice)
      where
        twice : (i j : ℕ) → i < j → j < suc n → walk e i ≡ walk e j → ⊥
        twice i j h k z =
            let at : suc (i + (j - suc i)) ≡ j = omega arith in
            let back : Steps n q (walk e j) (walk e i) = rw at at (walk_steps i (j - suc i)) in
            tell (reaches n q (walk e j) (walk e j)) (reaches_complete n q (rw z at back)) (free (walk e j) (walk_left j).0)

module _ (n : ℕ) (q : Rel) where
  -- ---- all are placed exactly if there is no ring

  place_long : Ringless n q → (k : ℕ) (s : ℕ → Bool) → k + how_many n s ≡ n → length (place_from n q k s) ≡ k
  place_long free zero s z = ap length (place_none n q s)
  place_long free (suc k) s z =
      split (some n (ready n q s))
      (λ t.
      let at = some_at n (ready n q s) t in
      let x : ℕ = next_ready n q s in
      ap length (place_more n q s k t) ∙ ap suc (place_long free k (with s x) (omega (arith, with_many n s x at.0 (ready_new n q s x at.1)))))
      (λ t. absurd (omega (arith, all_many n s (λ e l. split (s e) (λ u. u) (λ u. absurd (none_left n q free s t e l u))))))

  placed-order : all_placed n q ≡ true → OrderFrom n q (λ e. false) (placing n q)
  unfolding all_placed placing
  placed-order t = place_order n q n (λ e. false) (omega (arith, none_many n)) (eqb-true (length (place_from n q n (λ e. false))) n t)

  pub ringless-placed : Ringless n q → all_placed n q ≡ true
  unfolding all_placed placing
  ringless-placed free = eq-eqb (length (place_from n q n (λ e. false))) n (place_long free n (λ e. false) (omega (arith, none_many n)))

  -- the placing's positions are an order
  pub placed_orders : all_placed n q ≡ true → Orders n q (positions n q)
  unfolding positions
  placed_orders t = order_orders n q (placed-order t)

  pub orders_ringless : {p : ℕ → ℕ} → Orders n q p → Ringless n q
  orders_ringless {p} o e l = never (reaches n q e e)
      (λ t. omega (
        arith,
        steps-rising p (λ x y. ltb-true (p x) (p y))
            (steps_map (λ x y. ltb (p x) (p y)) (λ x y i j u. lt-ltb (p x) (p y) (o.keeps x y i j u)) l l (reaches-sound n q e e t)),
      ))

  pub placed_iff_ringless : (all_placed n q ≡ true) ↔ Ringless n q
  placed_iff_ringless = (λ t. orders_ringless (placed_orders t), ringless-placed)

  -- ---- the first of all orders

  module _ {p : ℕ → ℕ} (o : Orders n q p) where
    at_position : (i : ℕ) → i < n → (event_at n p i < n) × (p (event_at n p i) ≡ i)
    at_position i l =
        let at = some_at n (λ e. eqb (p e) i) (all_different n p o.below o.distinct i l) in
        (at.0, eqb-true (p (event_at n p i)) i at.1)

    -- one more position is passed
    passed : (i x : ℕ) → i < n → x < n → eqb (event_at n p i) x || ltb (p x) i ≡ ltb (p x) (suc i)
    passed i x l h =
        let at = at_position i l in
        let e : ℕ = event_at n p i in
        same_test (eqb e x || ltb (p x) i) (ltb (p x) (suc i))
        (λ t. or_elim (eqb e x) (ltb (p x) i) t
        (λ u. lt-ltb (p x) (suc i) (omega (arith, ap p (eqb-true e x u), at.1)))
        (λ u. lt-ltb (p x) (suc i) (omega (arith, ltb-true (p x) i u))))
        (λ t. split (ltb (p x) i)
        (λ u. or_right (eqb e x) (ltb (p x) i) u)
        (λ u. or_left (eqb e x) (ltb (p x) i) (eq-eqb e x (o.distinct e x at.0 h
        (omega (arith, ltb-true (p x) (suc i) t, ltb-false (p x) i u, at.1))))))

    events-order : (m i : ℕ) (s : ℕ → Bool) → i + m ≡ n → ((e : ℕ) → e < n → s e ≡ ltb (p e) i) → OrderFrom n q s (events_from n p i m)
    unfolding events_from
    events-order zero i s z f = done (λ e l. f e l ∙ lt-ltb (p e) i (omega (arith, o.below e l)))
    events-order (suc m) i s z f =
        let at = at_position i (omega arith) in
        let e : ℕ = event_at n p i in
        next at.0
        (ready_of n q s e (f e at.0 ∙ le-ltb (p e) i (omega (arith, at.1)))
        (λ a l t. f a l ∙ lt-ltb (p a) i (omega (arith, o.keeps a e l at.0 t, at.1))))
        (events-order m (suc i) (with s e) (omega arith) (λ x l. ap (λ (t : Bool). eqb e x || t) (f x l) ∙ passed i x (omega arith) l))

    in_order_lem : OrderFrom n q (λ e. false) (in_order n p)
    unfolding in_order
    in_order_lem = events-order n 0 (λ e. false) (omega arith) (λ e l. sym (le-ltb (p e) 0 (omega arith)))

    pub placing-first : NotLater (placing n q) (in_order n p)
    unfolding placing
    placing-first = place_first n q in_order_lem n (omega (arith, order-long n q in_order_lem, none_many n))

  -- ---- by its positions the placing's events stand as they were placed

  events-long : (p : ℕ → ℕ) (m i : ℕ) → length (events_from n p i m) ≡ m
  unfolding events_from
  events-long p zero i = refl
  events-long p (suc m) i = ap suc (events-long p m (suc i))

  events-at : (p : ℕ → ℕ) (m i k : ℕ) → k < m → get_or (events_from n p i m) k 0 ≡ event_at n p (i + k)
  unfolding events_from
  events-at p zero i k h = absurd (omega arith)
  events-at p (suc m) i zero h = let z : i ≡ i + 0 = omega arith in ap (event_at n p) z
  events-at p (suc m) i (suc k) h = let z : suc i + k ≡ i + suc k = omega arith in events-at p m (suc i) k (omega arith) ∙ ap (event_at n p) z

  order-back : {l : List ℕ} → OrderFrom n q (λ e. false) l → in_order n (place_in l) ≡ l
  unfolding in_order
  order-back {l} o =
      let long : length l ≡ n = omega (arith, order-long n q o, none_many n) in
      ext_get_or 0 (events_from n (place_in l) 0 n) l (events-long (place_in l) n 0 ∙ sym long)
      (λ k h.
      let i : k < n = omega (arith, events-long (place_in l) n 0) in
      let at = at_position (order_orders n q o) k i in
      let z : 0 + k ≡ k = omega arith in
      events-at (place_in l) n 0 k i ∙ ap (event_at n (place_in l)) z
      ∙ sym (ap (λ (j : ℕ). get_or l j 0) (sym at.1) ∙ (order_in n q o (event_at n (place_in l) k) at.0 refl).1))

  pub placed-back : all_placed n q ≡ true → in_order n (positions n q) ≡ placing n q
  unfolding positions
  placed-back t = order-back (placed-order t)

  pub first-order : all_placed n q ≡ true → FirstOrder n q (positions n q)
  first-order t = record { order = placed_orders t; first = λ p o. rw (placed-back t) (placing-first o) }

  -- ---- there is one only

  events-same : {p o : ℕ → ℕ} → Orders n q p → Orders n q o → in_order n p ≡ in_order n o → (e : ℕ) → e < n → p e ≡ o e
  unfolding in_order
  events-same {p} {o} r s z e l =
      let i : ℕ = p e in
      let h : i < n = r.below e l in
      let x = at_position r i h in
      let y = at_position s i h in
      let none : 0 + i ≡ i = omega arith in
      let both : event_at n p i ≡ event_at n o i =
      rw none at (sym (events-at p n 0 i h) ∙ ap (λ (k : List ℕ). get_or k i 0) z ∙ events-at o n 0 i h) in
      let own : event_at n p i ≡ e = r.distinct (event_at n p i) e x.0 l x.1 in
      sym y.1 ∙ ap o (sym both ∙ own)

  pub first-only : {p o : ℕ → ℕ} → Orders n q p → Orders n q o → NotLater (in_order n p) (in_order n o) → NotLater (in_order n o) (in_order n p)
      → (e : ℕ) → e < n → p e ≡ o e
  first-only r s a b = events-same r s (not-later-both a b)

-- ---- relations, and sets of placed events, that agree among n events

module _ (n : ℕ) (q r : Rel) (alike : (x y : ℕ) → x < n → y < n → q x y ≡ r x y) where
  pub ready-same : (s t : ℕ → Bool) → ((x : ℕ) → x < n → s x ≡ t x) → (e : ℕ) → e < n → ready n q s e ≡ ready n r t e
  unfolding ready
  ready-same s t f e l =
      ap₂ (λ (u v : Bool). not u && not v) (f e l)
      (same_some n (λ a. q a e && not (s a)) (λ a. r a e && not (t a)) (λ a h. ap₂ (λ (u v : Bool). u && not v) (alike a e h l) (f a h)))

  pub place_same : (k : ℕ) (s t : ℕ → Bool) → ((x : ℕ) → x < n → s x ≡ t x) → place_from n q k s ≡ place_from n r k t
  place_same zero s t f = place_none n q s ∙ sym (place_none n r t)
  place_same (suc k) s t f =
      let ready-both = ready-same s t f in
      let x : ℕ = next_ready n q s in
      let y : ℕ = next_ready n r t in
      let to : x ≡ y = same-lowest n (ready n q s) (ready n r t) ready-both in
      let any : some n (ready n q s) ≡ some n (ready n r t) = same_some n (ready n q s) (ready n r t) ready-both in
      split (some n (ready n q s))
      (λ u.
      place_more n q s k u
      ∙ ap₂ (λ (e : ℕ) (l : List ℕ). e ∷ l) to
      (place_same k (with s x) (with t y) (λ e l. ap₂ (λ (a : ℕ) (b : Bool). eqb a e || b) to (f e l)))
      ∙ sym (place_more n r t k (sym any ∙ u)))
      (λ u. place_stuck n q s k u ∙ sym (place_stuck n r t k (sym any ∙ u)))

  placing-same : placing n q ≡ placing n r
  unfolding placing
  placing-same = place_same n (λ e. false) (λ e. false) (λ x l. refl)

  pub placed_same : all_placed n q ≡ all_placed n r
  unfolding all_placed
  placed_same = ap (λ (l : List ℕ). eqb (length l) n) placing-same

  pub positions-same : positions n q ≡ positions n r
  unfolding positions
  positions-same = ap place_in placing-same
