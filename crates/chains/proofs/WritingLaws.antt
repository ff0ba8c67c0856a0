-- Laws of writing a shortest chain from its start: the first i entries are written, and the walk stands at event e, from which the others lead on. Assumes nothing.
use mathlib.Core.Path.{◌≡◌, refl, sym, ap, ◌∙◌, subst}
use mathlib.Core.Bool.{true, false, ◌&&◌}
use mathlib.Core.List.{List, [], ◌∷◌, ◌++◌}
use Prim.Native.Nat.{ℕ, suc, ◌+◌, ◌-◌, ◌<◌, ◌≤◌}
use native.Mathlib.Omega.{arith}
use lib.ListN.{length, get_or, set, take, drop, length-set}
use lib.Seq.{take_all, length-take-le, get_or-drop, drop-drop}
use Rattle.std.specs.Prelude.{Some}
use Rattle.rows.specs.Lowest.{if_below, found}
use Rattle.rows.specs.Row.{only_first, row_at, Row}
use Rattle.rows.specs.Relation.{Rel, reaches, related, Graph}
use Rattle.rows.specs.Shortest.{leads, distance, steps_from, shortest_chain, next_of}
use Rattle.rows.proofs.Tests.{tell, never}
use Rattle.rows.proofs.FoundLaws.{some-below}
use Rattle.rows.proofs.LowestLaws.{none-some}
use Rattle.rows.proofs.FrontLaws.{front-more, take_more}
use Rattle.rows.proofs.ShortestLaws.{leads-before, from_one, from_more, from_length, Onward, go_on, reached_near, at-distance, none_nearer}
use Rattle.chains.specs.Near.{within, Near}
use Rattle.chains.proofs.NearLaws.{next_on}

pub record Writing (n : ℕ) (r : Rel) (a b last : ℕ) (out₀ out : List ℕ) (e i : ℕ) : Type 0 where
  pub upto : i ≤ last
  pub here : e < n
  pub left : leads n r (last - i) e b ≡ true
  pub fewer : (j : ℕ) → j < last - i → leads n r j e b ≡ false
  pub rest : drop i (shortest_chain n r a b) ≡ steps_from n r b (last - i) e
  pub front : out ≡ take i (shortest_chain n r a b) ++ drop i out₀
  pub long : length out ≡ length out₀

pub writing_begin : {n : ℕ} {r : Rel} {a b last : ℕ} → last ≡ distance n r a b → a < n → b < n → reaches n r a b ≡ true → (out : List ℕ)
    → Writing n r a b last out out a 0
unfolding shortest_chain
writing_begin {n} {r} {a} {b} {last} q h right e out =
    let near = reached_near n r b right a e in
    let all : last - 0 ≡ distance n r a b = omega arith in
    record {
      upto = omega arith;
      here = h;
      left = rw all (at-distance n r b right a near);
      fewer = λ j l. none_nearer n r b right a j (omega arith);
      rest = rw all refl;
      front = refl;
      long = refl;
    }

module _ {n : ℕ} {r : Rel} {a b last : ℕ} {out₀ out : List ℕ} {e i : ℕ} (w : Writing n r a b last out₀ out e i) where
  abbrev chain : List ℕ
  chain = shortest_chain n r a b

  module _ (q : last ≡ distance n r a b) (room : last < length out₀) where
    chain_length : length chain ≡ suc last
    unfolding shortest_chain
    chain_length = from_length n r b (distance n r a b) a ∙ ap suc (sym q)

    -- entry x is written, and the entries m are left
    module _ (x : ℕ) (m : List ℕ) (s : drop i chain ≡ x ∷ m) where
      after : drop (i + 1) chain ≡ m
      after = sym (drop-drop 1 i chain) ∙ ap (drop 1) s

      written : set out i x ≡ take (i + 1) chain ++ drop (i + 1) out₀
      written =
          let long = chain_length in
          let first : get_or chain (i + 0) 0 ≡ x = sym (get_or-drop i chain 0 0) ∙ ap (λ (t : List ℕ). get_or t 0 0) s in
          let same : i + 0 ≡ i = omega arith in
          front-more (take i chain) out₀ i x w.front
          (take_more chain i (omega (arith, w.upto)) ∙ ap (λ (y : ℕ). take i chain ++ (y ∷ [])) (rw same at first))
          (length-take-le i chain (omega (arith, w.upto))) (omega (arith, w.upto))

    -- a turn: the next event
    module _ (h : i < last) where
      abbrev k : ℕ
      k = last - 1 - i

      more : last - i ≡ suc k
      more = omega arith

      onward : Onward n r b k e
      onward = go_on n r b k e (sym (ap (λ (j : ℕ). leads n r j e b) more) ∙ w.left)

      next-rest : drop i chain ≡ next_of n r b k e ∷ steps_from n r b k (next_of n r b k e)
      next-rest = w.rest ∙ ap (λ (j : ℕ). steps_from n r b j e) more ∙ from_more n r b k e

      pub next_below : next_of n r b k e < n
      next_below = onward.below

      pub next_far : within n r b (suc k) e ≡ false
      next_far = none-some (suc k) (λ j. leads n r j e b) (λ j l. w.fewer j (omega (arith, more)))

      pub writing_more : {x : ℕ} → x ≡ next_of n r b k e → Writing n r a b last out₀ (set out i x) x (i + 1)
      writing_more s =
          let m : ℕ = next_of n r b k e in
          let less : last - (i + 1) ≡ k = omega arith in
          rw s (record {
            upto = omega arith;
            here = onward.below;
            left = rw less onward.left;
            fewer = λ j l. never (leads n r j m b) (λ t.
                tell (leads n r (suc j) e b) (leads-before n r j e m b onward.below onward.step t) (w.fewer (suc j) (omega (arith, more))));
            rest = rw less (after m (steps_from n r b k m) next-rest);
            front = written m (steps_from n r b k m) next-rest;
            long = length-set out i m ∙ w.long;
          })

    -- the end: b
    pub writing_end : last ≤ i → (last + 1 ≡ length chain) × (set out last b ≡ chain ++ drop (last + 1) out₀)
    writing_end h =
        let all : i ≡ last = omega (arith, w.upto) in
        let none : last - i ≡ 0 = omega arith in
        let long = chain_length in
        let s = w.rest ∙ ap (λ (j : ℕ). steps_from n r b j e) none ∙ from_one n r b e in (
          omega (arith, long),
          ap (λ (j : ℕ). set out j b) (sym all) ∙ written b [] s ∙ ap (λ (j : ℕ). take (j + 1) chain ++ drop (j + 1) out₀) all
              ∙ ap (λ (t : List ℕ). t ++ drop (last + 1) out₀) (take_all (last + 1) chain (omega (arith, long))),
        )

-- ---- the next event as code finds it, in rows k and k + 1 of near events

module _ {g : List ℕ} {n w b : ℕ} (graph : Graph g n w) (right : b < n) {last : ℕ} (near : List ℕ) (rows : Near g n w b last near) (k : ℕ) (h : k + 1 ≤ last) where
  pub next-found : (e : ℕ) → within n (related g w) b (suc k) e ≡ false → next_of n (related g w) b k e < n
      → found n (λ m. only_first (row_at near w (k + 1)) (row_at near w k) m && related g w e m) ≡ Some (next_of n (related g w) b k e)
  next-found e far below =
      let one : k + 1 ≡ suc k = omega arith in
      let after : Row n (within n (related g w) b (suc k)) (row_at near w (k + 1)) =
      subst (λ (j : ℕ). Row n (within n (related g w) b j) (row_at near w (k + 1))) one (rows (k + 1) h) in
      ap (if_below n) (next_on graph b right k (row_at near w (k + 1)) (row_at near w k) after (rows k (omega arith)) e far)
      ∙ some-below n (next_of n (related g w) b k e) below
