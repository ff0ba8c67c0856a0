-- Laws of a number that is there if it is below another. Assumes nothing.
use mathlib.Core.Path.{◌≡◌, refl, sym, ap, ◌∙◌}
use mathlib.Core.Bool.{Bool, true, false, not, cond}
use Prim.Native.Nat.{ℕ, ◌<◌, ◌≤◌}
use native.Mathlib.Omega.{arith}
use lib.Dec.{ltb}
use Rattle.std.specs.Prelude.{Option, Some, None}
use Rattle.std.proofs.lemmas.Option.{none-some, cond_some}
use borrow.Author.Tests.{ltb-true, ltb-false, lt-ltb, le-ltb}
use Rattle.std.specs.Option.{MatchOption, is_some}
use Rattle.rows.specs.Lowest.{lowest, some, if_below, found}
use Rattle.rows.proofs.LowestLaws.{lowest_hit, lowest-none}

-- that it is there says which it is, and that it is below
pub below-some : (n k a : ℕ) → if_below n k ≡ Some a → (a ≡ k) × (k < n)
below-some n k a e = let q = cond_some (ltb k n) k a e in (sym q.1, ltb-true k n q.0)

pub below-none : (n k : ℕ) → if_below n k ≡ None → n ≤ k
below-none n k e = go (ltb k n) refl e
  where
    go : (t : Bool) → ltb k n ≡ t → cond t (Some k) None ≡ None → n ≤ k
    go true t q = absurd (none-some k (sym q))
    go false t q = ltb-false k n t

pub some-below : (n k : ℕ) → k < n → if_below n k ≡ Some k
some-below n k h = rw (lt-ltb k n h) refl

pub none-below : (n k : ℕ) → n ≤ k → if_below n k ≡ None
none-below n k h = rw (le-ltb k n h) refl

-- that there is a lowest number says that the test holds somewhere
pub is_some-below : (n k : ℕ) → is_some (if_below n k) ≡ ltb k n
is_some-below n k = go (ltb k n)
  where
    go : (t : Bool) → is_some (cond t (Some k) None) ≡ t
    go true = refl
    go false = refl

pub is_some-found : (n : ℕ) (f : ℕ → Bool) → is_some (found n f) ≡ some n f
unfolding some
is_some-found n f = is_some-below n (lowest n f)

-- and `is_none`, that it holds nowhere
pub is_none-found : (n : ℕ) (f : ℕ → Bool) (none : Bool) → is_some (found n f) ≡ not none → none ≡ not (some n f)
is_none-found n f true e = ap not (sym e ∙ is_some-found n f)
is_none-found n f false e = ap not (sym e ∙ is_some-found n f)

-- the answer of `(0..n).find(..)`, as `first_from_Range` has it
pub first-found : (n : ℕ) (f : ℕ → Bool) (r : Option ℕ)
    → MatchOption r ((k : ℕ) → 0 ≤ k → k < n → f k ≡ false) (λ i. (0 ≤ i) × (i < n) × (f i ≡ true) × ((k : ℕ) → 0 ≤ k → k < i → f k ≡ false))
    → r ≡ found n f
first-found n f None none = sym (none-below n _ (omega (arith, lowest-none n f (λ k h. none k (omega arith) h))))
first-found n f (Some i) h =
    let e : lowest n f ≡ i = lowest_hit n f i h.1 (λ k l. h.3 k (omega arith) l) h.2 in
    sym (ap (if_below n) e ∙ some-below n i h.1)
