-- Laws of looking for the lowest member of `near` that a row lacks and to which a step leads from e: `tried` has, beside that row, those to which none does.
-- Assumes nothing.
use mathlib.Core.Path.{◌≡◌, refl, sym, ◌∙◌}
use mathlib.Core.Bool.{Bool, true, false, not, ◌&&◌, ◌||◌}
use mathlib.Core.List.{List}
use Prim.Native.Nat.{ℕ, ◌*◌, ◌<◌}
use native.Mathlib.Nat.{le_refl}
use native.Mathlib.Omega.{arith}
use borrow.Author.Tests.{eqb-true, not-true}
use lib.Dec.{eqb}
use lib.ListN.{length}
use Rattle.std.specs.Prelude.{Some, None}
use Rattle.rows.specs.Lowest.{lowest, found}
use Rattle.rows.specs.Row.{has, insert, only_first}
use Rattle.rows.specs.Relation.{related}
use Rattle.rows.proofs.Tests.{tell, never, or_elim, or_right, and_both, and_left, and_right, not_of}
use Rattle.rows.proofs.FoundLaws.{below-some, below-none, some-below, none-below}
use Rattle.rows.proofs.LowestLaws.{lowest_hit, lowest-none}
use Rattle.rows.proofs.RowLaws.{has_within, length-insert, only-some, only_below}
use Rattle.rows.proofs.FreshLaws.{Fresh, fresh-first, has-fresh}

pub record Trying (g : List ℕ) (w e : ℕ) (near tried₀ tried : List ℕ) : Type 0 where
  pub long : length near ≡ w
  pub deep : length tried ≡ w
  pub still : (x : ℕ) → has tried₀ x ≡ true → has tried x ≡ true
  pub passed : (x : ℕ) → has tried x ≡ true → has tried₀ x || not (related g w e x) ≡ true

module _ {g : List ℕ} {w e : ℕ} {near tried₀ tried : List ℕ} (i : Trying g w e near tried₀ tried) where
  -- what is looked for
  abbrev wanted : ℕ → Bool
  wanted x = only_first near tried₀ x && related g w e x

  untried : (x : ℕ) → wanted x ≡ true → (has near x ≡ true) × (has tried x ≡ false)
  untried x t =
      let o = only-some near tried₀ x (and_left (only_first near tried₀ x) (related g w e x) t) in (
        o.0,
        never (has tried x) (λ u. or_elim (has tried₀ x) (not (related g w e x)) (i.passed x u)
            (λ v. tell (has tried₀ x) v o.1)
            (λ v. tell (related g w e x) (and_right (only_first near tried₀ x) (related g w e x) t) (not-true (related g w e x) v))),
      )

  none_below : (x : ℕ) → x < lowest (64 * length near) (only_first near tried) → wanted x ≡ false
  none_below x h = never (wanted x) (λ t.
      let o = untried x t in
      tell (has tried x) (only_below near tried (64 * length near) (lowest (64 * length near) (only_first near tried)) refl x h o.0) o.1)

  -- there is none
  pub tried_all : (n : ℕ) → found (64 * length near) (only_first near tried) ≡ None → None ≡ found n wanted
  tried_all n q =
      let past = below-none (64 * length near) (lowest (64 * length near) (only_first near tried)) q in
      rw (lowest-none n wanted (λ x l. never (wanted x) (λ t. tell (wanted x) t (none_below x (omega (arith, past, has_within near x (untried x t).0))))))
      (sym (none-below n n (le_refl n)))

  -- it is the one of this turn
  pub tried_hit : {n m : ℕ} → Fresh n near tried m → found (64 * length near) (only_first near tried) ≡ Some m → related g w e m ≡ true → Some m ≡ found n wanted
  tried_hit {n} {m} p q s =
      let first = (below-some (64 * length near) (lowest (64 * length near) (only_first near tried)) m q).0 in
      rw (lowest_hit n wanted m p.below (λ x h. none_below x (omega arith)) (and_both (only_first near tried₀ m) (related g w e m) (fresh-first p tried₀ i.still) s))
      (sym (some-below n m p.below))

  -- it is not
  pub trying_more : {n m : ℕ} {tried' : List ℕ} → Fresh n near tried m → related g w e m ≡ false → tried' ≡ insert tried m → Trying g w e near tried₀ tried'
  trying_more {m} p s q = rw q (record {
    long = i.long;
    deep = length-insert tried m ∙ i.deep;
    still = λ x t. with_m x ∙ or_right (eqb m x) (has tried x) (i.still x t);
    passed = λ x t. or_elim (eqb m x) (has tried x) (sym (with_m x) ∙ t)
        (λ u. or_right (has tried₀ x) (not (related g w e x)) (not_of (related g w e x) (rw (← (eqb-true m x u)) s)))
        (i.passed x);
  })
    where
      with_m : (x : ℕ) → has (insert tried m) x ≡ eqb m x || has tried x
      with_m = has-fresh p i.long i.deep
