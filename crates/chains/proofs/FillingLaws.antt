-- Laws of filling rows of near events: `next` has those from which at most k + 1 steps lead to b, `done` those from which at most k do, and `near` so far one row for
-- each number of steps. Assumes nothing.
use mathlib.Core.Path.{◌≡◌, refl, sym, ap, ap₂, ◌∙◌}
use mathlib.Core.Bool.{true, false, ◌||◌}
use mathlib.Core.List.{List}
use Prim.Native.Nat.{ℕ, suc, ◌+◌, ◌<◌}
use native.Mathlib.Omega.{arith}
use native.Mathlib.Decide.{ℕ_discrete}
use borrow.Author.Tests.{ltb-true, ltb-false}
use lib.Dec.{ltb}
use lib.ListN.{length, replicate, length-replicate}
use Rattle.rows.specs.Row.{has, or_row, row_at, Row, RowPut}
use Rattle.rows.specs.Relation.{reaches, related, Graph}
use Rattle.rows.specs.Shortest.{leads, distance}
use Rattle.rows.proofs.Tests.{split, tell}
use Rattle.rows.proofs.LowestLaws.{some_of}
use Rattle.rows.proofs.RowLaws.{length-or, row_has}
use Rattle.rows.proofs.ShortestLaws.{reached_near, at-distance}
use Rattle.chains.specs.Near.{within, Near}
use Rattle.chains.proofs.RoomLaws.{row-alone}
use Rattle.chains.proofs.JoiningLaws.{brought}
use Rattle.chains.proofs.NearLaws.{within_none, distance-found, near_one, near_none, near_more, near_done}

pub record Filling (g : List ℕ) (n w a b : ℕ) (near₀ near done next : List ℕ) (k : ℕ) : Type 0 where
  pub long : length near ≡ length near₀
  pub deep : length done ≡ w
  pub wide : length next ≡ w
  pub nears : Near g n w b k near
  pub dones : Row n (within n (related g w) b k) done
  pub nexts : Row n (within n (related g w) b (suc k)) next
  pub far : within n (related g w) b k a ≡ false

module _ {g : List ℕ} {n w a b : ℕ} (graph : Graph g n w) (right : b < n) where
  pub filling_begin : {near₀ near done z m next : List ℕ} → done ≡ replicate w 0 → z ≡ replicate w 0 → RowPut w 0 (row_at done w 0) near₀ near
      → m ≡ row_at g w b → next ≡ or_row z m → Filling g n w a b near near done next 0
  filling_begin {done} {next} e f p s q =
      let deep : length done ≡ w = ap length e ∙ length-replicate w 0 in
      let joined : next ≡ or_row (replicate w 0) (row_at g w b) = q ∙ ap₂ or_row f s in
      record {
        long = refl;
        deep = deep;
        wide = ap length joined ∙ length-or (replicate w 0) (row_at g w b) ∙ length-replicate w 0;
        nears = λ j h.
            let none : j ≡ 0 = omega arith in
            rw (none, p.same ∙ row-alone done w deep ∙ e) (near_none graph b right);
        dones = rw e (near_none graph b right);
        nexts = rw joined (near_one graph b right);
        far = within_none n (related g w) b a;
      }

  module _ {near₀ near done next : List ℕ} {k : ℕ} (i : Filling g n w a b near₀ near done next k) (left : a < n) where
    -- whether a is brought
    at_next : has next a ≡ within n (related g w) b (suc k) a
    at_next = row_has n (within n (related g w) b (suc k)) next i.nexts a left

    -- it is not: a turn, in which `next` becomes row k + 1 and is taken as l from there, with v for its width
    module _ {near' : List ℕ} (miss : has next a ≡ false) (p : RowPut w (k + 1) (row_at next w 0) near near') where
      row_now : row_at near' w (k + 1) ≡ next
      row_now = p.same ∙ row-alone next w i.wide

      pub filling_turn : {done' next' l : List ℕ} {v : ℕ} → length done' ≡ length done → length next' ≡ length next → l ≡ next → v ≡ w
          → ((x : ℕ) → has next' x ≡ has next x || brought g n v l done x) → ((x : ℕ) → has done' x ≡ has done x || has l x)
          → Filling g n w a b near₀ near' done' next' (k + 1)
      filling_turn {done'} {next'} d e q u joined taken =
          let one : k + 1 ≡ suc k = omega arith in
          record {
            long = p.size ∙ i.long;
            deep = d ∙ i.deep;
            wide = e ∙ i.wide;
            nears = λ j m. elim (ℕ_discrete j (k + 1)) [
              | yes s ↦ rw (s, row_now, one) i.nexts
              | no s ↦ rw (p.other j s) (i.nears j (omega arith))
            ];
            dones = rw one (near_done graph b right k next done i.nexts i.dones done'
                (λ x. taken x ∙ ap (λ (t : List ℕ). has done x || has t x) q));
            nexts = rw one (near_more graph b right k next done i.nexts i.dones next'
                (λ x. joined x ∙ ap₂ (λ (t : List ℕ) (y : ℕ). has next x || brought g n y t done x) q u));
            far = rw one (sym at_next ∙ miss);
          }

    -- it is
    pub filling_found : has next a ≡ true → k < n → k ≡ distance n (related g w) a b
    filling_found hit h = sym (distance-found n (related g w) b k a h i.far (sym at_next ∙ hit))

    -- a turn comes while fewer steps were tried than a needs, so before n were
    pub filling_below : reaches n (related g w) a b ≡ true → k < n
    filling_below e =
        let d : ℕ = distance n (related g w) a b in
        let near = reached_near n (related g w) b right a e in
        split (ltb d k)
        (λ t. absurd (tell (within n (related g w) b k a) (some_of k (λ j. leads n (related g w) j a b) d (ltb-true d k t) (at-distance n (related g w) b right a near)) i.far))
        (λ t. omega (arith, ltb-false d k t, near))
