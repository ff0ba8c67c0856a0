-- Laws of what a turn of placing writes. Assumes nothing.
use mathlib.Core.Path.{◌≡◌, sym, ap, ◌∙◌}
use mathlib.Core.Bool.{Bool, true, false, ◌||◌}
use mathlib.Core.List.{List}
use Prim.Native.Nat.{ℕ, ◌+◌, ◌*◌, ◌<◌, ◌≤◌}
use native.Mathlib.Omega.{arith}
use borrow.Author.Tests.{eqb-true, eqb-false}
use lib.Dec.{eqb}
use lib.ListN.{length, get_or, set, replicate}
use lib.Seq.{get_or-set_same, get_or-set_other}
use Rattle.std.specs.Prelude.{Some, None}
use Rattle.rows.specs.Lowest.{some, found}
use Rattle.rows.specs.Row.{has, insert}
use Rattle.rows.specs.Relation.{Rel}
use Rattle.rows.specs.Placing.{ready, next_ready, all_placed, positions}
use Rattle.rows.proofs.Tests.{split, tell, or_elim}
use Rattle.rows.proofs.FoundLaws.{below-some, below-none}
use Rattle.rows.proofs.LowestLaws.{lowest_low, some_of, none-some}
use Rattle.rows.proofs.RowLaws.{has-insert, has_cleared}
use Rattle.rows.proofs.PlacingTurns.{Turn, turn_none, turn_same, turn_at, turn_more, turn_stuck, turn_end}

-- after i turns the events placed have their positions
pub record Going (n : ℕ) (q : Rel) (placed order : List ℕ) (i : ℕ) : Type 0 where
  pub turn : Turn n q i (has placed)
  pub written : (e : ℕ) → e < n → has placed e ≡ true → get_or order e 0 ≡ positions n q e

pub going_start : (n : ℕ) (q : Rel) (k : ℕ) (order : List ℕ) → Going n q (replicate k 0) order 0
going_start n q k order = record {
  turn = turn_none n q (has (replicate k 0)) (λ x l. has_cleared k x);
  written = λ e l t. absurd (tell (has (replicate k 0) e) t (has_cleared k e));
}

module _ {n : ℕ} {q : Rel} {placed order : List ℕ} {i : ℕ} (g : Going n q placed order i) where
  abbrev now-ready : ℕ → Bool
  now-ready = ready n q (has placed)

  pub going_stuck : i < n → None ≡ found n now-ready → false ≡ all_placed n q
  going_stuck l e =
      let past : n ≤ next_ready n q (has placed) = below-none n _ (sym e) in
      sym (turn_stuck n q g.turn l (none-some n now-ready (λ k h. (lowest_low n now-ready).below k (omega arith))))

  pub going_end : i ≡ n → (all_placed n q ≡ true) × ((e : ℕ) → e < n → get_or order e 0 ≡ positions n q e)
  going_end z =
      let all = turn_end n q (rw z at g.turn) in
      (all.0, λ e h. g.written e h (all.1 e h))

  pub going_more : i < n → n ≤ 64 * length placed → n ≤ length order → (e : ℕ) → Some e ≡ found n now-ready → Going n q (insert placed e) (set order e i) (i + 1)
  going_more l room space e f =
      let at = below-some n _ e (sym f) in
      let any : some n now-ready ≡ true = some_of n now-ready e (omega (arith, at.0, at.1)) (rw at.0 ((lowest_low n now-ready).at at.1)) in
      let joins : (x : ℕ) → has (insert placed e) x ≡ eqb e x || has placed x = λ x. has-insert placed e x (omega (arith, at.0, at.1)) in
      record {
        turn = turn_same n q (has (insert placed e)) (λ x k. sym (joins x ∙ ap (λ (y : ℕ). eqb y x || has placed x) at.0)) (turn_more n q g.turn l any);
        written = λ x k t. split (eqb e x)
            (λ u.
            let here : e ≡ x = eqb-true e x u in
            rw (← here) (get_or-set_same order e i 0 (omega (arith, at.0, at.1)) ∙ sym (ap (positions n q) at.0 ∙ turn_at n q g.turn l any)))
            (λ u.
            get_or-set_other order e x i 0 (λ z. eqb-false e x u (sym z))
            ∙ g.written x k (or_elim (eqb e x) (has placed x) (sym (joins x) ∙ t) (λ v. absurd (tell (eqb e x) v u)) (λ v. v)));
      }
