-- Placing by rows, in a loop: which events are ready, and what a turn comes to. Assumes nothing.
use mathlib.Core.Path.{◌≡◌, refl, sym, ap, ◌∙◌}
use mathlib.Core.Bool.{Bool, true, false, not, ◌&&◌}
use mathlib.Core.List.{List, [], ◌∷◌}
use Prim.Native.Nat.{ℕ, suc, ◌+◌, ◌-◌, ◌*◌, ◌<◌}
use native.Mathlib.Omega.{arith}
use borrow.Author.Tests.{eq-eqb, ne_eqb}
use lib.Dec.{eqb}
use lib.ListN.{length}
use Rattle.rows.specs.Lowest.{lowest, some}
use Rattle.rows.specs.Count.{how_many}
use Rattle.rows.specs.Row.{has, only_first, row_at}
use Rattle.rows.specs.Relation.{Rel, related, Graph}
use Rattle.rows.specs.Placing.{ready, next_ready, with, place_from, placing, all_placed, place_in, positions}
use Rattle.rows.proofs.Tests.{tell, never, same_test, or_left, or_right, and_left}
use Rattle.rows.proofs.LowestLaws.{some_of, some_at}
use Rattle.rows.proofs.CountLaws.{many_same, many_all}
use Rattle.rows.proofs.PlacingLaws.{ready_new, place_none, place_more, place_stuck, place_same, in_at, in_past, none_many, with_many}

-- ---- rows: an event is ready that is not placed, and whose row has none that is not

pub ready-row : {g : List ℕ} {n w : ℕ} → Graph g n w → (placed : List ℕ) (e : ℕ) → e < n
    → not (has placed e) && not (some (64 * w) (only_first (row_at g w e) placed)) ≡ ready n (related g w) (has placed) e
unfolding ready
ready-row {g} {n} {w} i placed e l =
    let lacks : ℕ → Bool = only_first (row_at g w e) placed in
    ap (λ (u : Bool). not (has placed e) && not u)
    (same_test (some (64 * w) lacks) (some n lacks)
    (λ u.
    let at = some_at (64 * w) lacks u in
    let a : ℕ = lowest (64 * w) lacks in
    some_of n lacks a (i.inside e a l (and_left (has (row_at g w e) a) (not (has placed a)) at.1)) at.1)
    (λ u.
    let at = some_at n lacks u in
    some_of (64 * w) lacks (lowest n lacks) (omega (arith, at.0, i.wide)) at.1))

-- ---- a loop's turn: i events are placed, those of s

pub record Turn (n : ℕ) (q : Rel) (i : ℕ) (s : ℕ → Bool) : Type 0 where
  pub many : how_many n s ≡ i
  pub long : length (placing n q) ≡ i + length (place_from n q (n - i) s)
  pub left : (e : ℕ) → e < n → s e ≡ false → positions n q e ≡ i + place_in (place_from n q (n - i) s) e

module _ (n : ℕ) (q : Rel) where
  turn_start : Turn n q 0 (λ e. false)
  unfolding positions placing
  turn_start = record {
    many = none_many n;
    long = let z : n ≡ n - 0 = omega arith in ap (λ (k : ℕ). length (place_from n q k (λ e. false))) z ∙ omega arith;
    left = λ e l u. let z : n ≡ n - 0 = omega arith in ap (λ (k : ℕ). place_in (place_from n q k (λ e. false)) e) z ∙ omega arith;
  }

  -- the set is kept by any that agrees with it among n events
  pub turn_same : {i : ℕ} {s : ℕ → Bool} (t : ℕ → Bool) → ((x : ℕ) → x < n → s x ≡ t x) → Turn n q i s → Turn n q i t
  turn_same {i} {s} t f r =
      let z : place_from n q (n - i) s ≡ place_from n q (n - i) t = place_same n q q (λ x y h k. refl) (n - i) s t f in
      record {
        many = sym (many_same n s t f) ∙ r.many;
        long = r.long ∙ ap (λ (l : List ℕ). i + length l) z;
        left = λ e l u. r.left e l (f e l ∙ u) ∙ ap (λ (l : List ℕ). i + place_in l e) z;
      }

  pub turn_none : (s : ℕ → Bool) → ((x : ℕ) → x < n → s x ≡ false) → Turn n q 0 s
  turn_none s f = turn_same s (λ x l. sym (f x l)) turn_start

  module _ {i : ℕ} {s : ℕ → Bool} (r : Turn n q i s) (l : i < n) where
    -- what is left, one event further
    ahead : some n (ready n q s) ≡ true → place_from n q (n - i) s ≡ next_ready n q s ∷ place_from n q (n - (i + 1)) (with s (next_ready n q s))
    ahead t = let z : n - i ≡ suc (n - (i + 1)) = omega arith in rw z (place_more n q s (n - (i + 1)) t)

    -- the lowest that is ready has position i
    pub turn_at : some n (ready n q s) ≡ true → positions n q (next_ready n q s) ≡ i
    turn_at t =
        let at = some_at n (ready n q s) t in
        let x : ℕ = next_ready n q s in
        r.left x at.0 (ready_new n q s x at.1)
        ∙ omega (arith, ap (λ (l : List ℕ). place_in l x) (ahead t), in_at x (place_from n q (n - (i + 1)) (with s x)) x refl)

    pub turn_more : some n (ready n q s) ≡ true → Turn n q (i + 1) (with s (next_ready n q s))
    turn_more t =
        let at = some_at n (ready n q s) t in
        let x : ℕ = next_ready n q s in
        let rest : List ℕ = place_from n q (n - (i + 1)) (with s x) in
        record {
          many = omega (arith, with_many n s x at.0 (ready_new n q s x at.1), r.many);
          long = omega (arith, r.long, ap length (ahead t));
          left = λ e h u.
              let other : eqb x e ≡ false = never (eqb x e) (λ v. tell (with s x e) (or_left (eqb x e) (s e) v) u) in
              let new : s e ≡ false = never (s e) (λ v. tell (with s x e) (or_right (eqb x e) (s e) v) u) in
              omega (arith, r.left e h new, ap (λ (l : List ℕ). place_in l e) (ahead t), in_past x rest e other);
        }

    -- where none is ready, not all are placed
    pub turn_stuck : some n (ready n q s) ≡ false → all_placed n q ≡ false
    unfolding all_placed
    turn_stuck t =
        let z : n - i ≡ suc (n - (i + 1)) = omega arith in
        let none : place_from n q (n - i) s ≡ [] = rw z (place_stuck n q s (n - (i + 1)) t) in
        ne_eqb (length (placing n q)) n (λ u. omega (arith, r.long, ap length none))

  -- after n turns all are
  pub turn_end : {s : ℕ → Bool} → Turn n q n s → (all_placed n q ≡ true) × ((e : ℕ) → e < n → s e ≡ true)
  unfolding all_placed
  turn_end {s} r =
      let z : n - n ≡ 0 = omega arith in
      let none : place_from n q (n - n) s ≡ [] = rw z (place_none n q s) in
      (eq-eqb (length (placing n q)) n (omega (arith, r.long, ap length none)), many_all n s (omega (arith, r.many)))
