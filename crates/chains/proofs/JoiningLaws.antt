-- Laws of joining the rows of those members of `near` that a row lacks, one after the other: `done` has those whose rows are in. Assumes nothing.
use mathlib.Core.Path.{◌≡◌, refl, sym, ◌∙◌}
use mathlib.Core.Bool.{Bool, true, ◌&&◌, ◌||◌}
use mathlib.Core.List.{List}
use Prim.Native.Nat.{ℕ, ◌*◌, ◌<◌}
use native.Mathlib.Omega.{arith}
use borrow.Author.Tests.{eqb-true}
use lib.Dec.{eqb}
use lib.ListN.{length}
use Rattle.std.specs.Prelude.{Some, None}
use Rattle.rows.specs.Lowest.{lowest, some, found}
use Rattle.rows.specs.Row.{has, insert, or_row, only_first, row_at}
use Rattle.rows.specs.Relation.{related}
use Rattle.rows.proofs.Tests.{same_test, or_elim, or_left, or_right, and_both, and_left, and_right}
use Rattle.rows.proofs.FoundLaws.{below-some, below-none}
use Rattle.rows.proofs.LowestLaws.{some_of, some_at}
use Rattle.rows.proofs.RowLaws.{has-or, has_within, length-insert, length-or, only-some, only_below}
use Rattle.rows.proofs.TableLaws.{length-row_le}
use Rattle.rows.proofs.FreshLaws.{Fresh, fresh, fresh-first, has-fresh}

-- the member that is found is a new one
pub fresh_found : {n w : ℕ} {near done : List ℕ} {x : ℕ} → ((x : ℕ) → has near x ≡ true → x < n) → length near ≡ w
    → found (64 * length near) (only_first near done) ≡ Some x → Fresh n near done x
fresh_found {near} {done} {x} small long e =
    let p = below-some (64 * length near) (lowest (64 * length near) (only_first near done)) x e in
    fresh small long p.0 (omega (arith, p.0, p.1, long))

-- the rows of those members of l that m lacks have x
abbrev pub brought : List ℕ → ℕ → ℕ → List ℕ → List ℕ → ℕ → Bool
brought g n w l m x = some n (λ a. only_first l m a && related g w x a)

pub record Joining (g : List ℕ) (n w : ℕ) (near done₀ next₀ done next : List ℕ) : Type 0 where
  pub wide : length next ≡ w
  pub deep : length done ≡ w
  pub kept : (x : ℕ) → has next₀ x ≡ true → has next x ≡ true
  pub sound : (x : ℕ) → has next x ≡ true → has next₀ x || brought g n w near done₀ x ≡ true
  pub still : (x : ℕ) → has done₀ x ≡ true → has done x ≡ true
  pub inside : (x : ℕ) → has done x ≡ true → has done₀ x || has near x ≡ true
  pub taken : (a x : ℕ) → only_first near done₀ a ≡ true → has done a ≡ true → related g w x a ≡ true → has next x ≡ true

module _ {g : List ℕ} {n w : ℕ} {near done₀ next₀ done next : List ℕ} (i : Joining g n w near done₀ next₀ done next) (long : length near ≡ w) where
  with_row : (a x : ℕ) → has (or_row next (row_at g w a)) x ≡ has next x || related g w x a
  with_row a x = has-or next (row_at g w a) x (omega (arith, length-row_le g w a, i.wide))

  grown : {a : ℕ} → Fresh n near done a → Joining g n w near done₀ next₀ (insert done a) (or_row next (row_at g w a))
  grown {a} p = record {
    wide = length-or next (row_at g w a) ∙ i.wide;
    deep = length-insert done a ∙ i.deep;
    kept = λ x e. more x (i.kept x e);
    sound = λ x e. or_elim (has next x) (related g w x a) (sym (with_row a x) ∙ e)
        (i.sound x)
        (λ t. or_right (has next₀ x) (brought g n w near done₀ x)
        (some_of n (λ a. only_first near done₀ a && related g w x a) a p.below
        (and_both (only_first near done₀ a) (related g w x a) (fresh-first p done₀ i.still) t)));
    still = λ x e. with_a x ∙ or_right (eqb a x) (has done x) (i.still x e);
    inside = λ x e. or_elim (eqb a x) (has done x) (sym (with_a x) ∙ e)
        (λ t. or_right (has done₀ x) (has near x) (rw (← (eqb-true a x t)) p.member))
        (i.inside x);
    taken = λ y x e f s. or_elim (eqb a y) (has done y) (sym (with_a y) ∙ f)
        (λ t. with_row a x ∙ or_right (has next x) (related g w x a) (rw (eqb-true a y t) s))
        (λ t. more x (i.taken y x e t s));
  }
    where
      more : (x : ℕ) → has next x ≡ true → has (or_row next (row_at g w a)) x ≡ true
      more x t = with_row a x ∙ or_left (has next x) (related g w x a) t

      with_a : (x : ℕ) → has (insert done a) x ≡ eqb a x || has done x
      with_a = has-fresh p long i.deep

  pub joining_turn : {done' next' m : List ℕ} {a : ℕ} → Fresh n near done a → m ≡ row_at g w a → next' ≡ or_row next m → done' ≡ insert done a
      → Joining g n w near done₀ next₀ done' next'
  joining_turn p f e q = rw (e, f, q) (grown p)

  -- ---- the end: no member of `near` is left

  module _ (q : found (64 * length near) (only_first near done) ≡ None) where
    in_done : (a : ℕ) → has near a ≡ true → has done a ≡ true
    in_done a m =
        let k : ℕ = lowest (64 * length near) (only_first near done) in
        only_below near done (64 * length near) k refl a (omega (arith, has_within near a m, below-none (64 * length near) k q)) m

    pub joined_next : (y : ℕ) → has next y ≡ has next₀ y || brought g n w near done₀ y
    joined_next y = same_test (has next y) (has next₀ y || brought g n w near done₀ y) (i.sound y)
        (λ e. or_elim (has next₀ y) (brought g n w near done₀ y) e (i.kept y) (λ t.
        let f : ℕ → Bool = λ a. only_first near done₀ a && related g w y a in
        let a : ℕ = lowest n f in
        let s = some_at n f t in
        let o = and_left (only_first near done₀ a) (related g w y a) s.1 in
        i.taken a y o (in_done a (only-some near done₀ a o).0) (and_right (only_first near done₀ a) (related g w y a) s.1)))

    pub joined_done : (y : ℕ) → has done y ≡ has done₀ y || has near y
    joined_done y = same_test (has done y) (has done₀ y || has near y) (i.inside y) (λ e. or_elim (has done₀ y) (has near y) e (i.still y) (in_done y))
