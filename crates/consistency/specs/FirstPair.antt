-- The first pair at which a relation holds: lowest a, and for it the lowest b.
use Rattle.std.specs.Prelude.{Bool, true, false, ℕ, Option, Some, None}
use Rattle.rows.specs.Lowest.{lowest, some}
use Rattle.rows.specs.Relation.{Rel}

-- a pair that breaks a predicate, if any does: a predicate without one is met
abbrev pub Verdict : Type 0
Verdict = Option (ℕ × ℕ)

-- the lowest a below n with any b
unfoldable pub first_left : ℕ → Rel → ℕ
first_left n f = lowest n (λ a. some n (f a))

abbrev pub broken_if : Bool → ℕ → ℕ → Verdict
broken_if true a b = Some (a, b)
broken_if false a b = None

unfoldable pub first : ℕ → Rel → Verdict
first n f = broken_if (some n (λ a. some n (f a))) (first_left n f) (lowest n (f (first_left n f)))
