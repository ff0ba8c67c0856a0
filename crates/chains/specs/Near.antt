-- Events by how near they are to one. Only contracts of inner functions cite this.
use Rattle.std.specs.Prelude.{Bool, List, ℕ, ◌≤◌}
use Rattle.rows.specs.Lowest.{some}
use Rattle.rows.specs.Row.{row_at, Row}
use Rattle.rows.specs.Relation.{Rel, related}
use Rattle.rows.specs.Shortest.{leads}

-- at most k steps of r, and at least one, lead from x to b
abbrev pub within : ℕ → Rel → ℕ → ℕ → ℕ → Bool
within n r b k x = some k (λ j. leads n r j x b)

-- row j of t has the events from which at most j steps in g lead to b, for each j up to k
abbrev pub Near : List ℕ → ℕ → ℕ → ℕ → ℕ → List ℕ → Type 0
Near g n w b k t = (j : ℕ) → j ≤ k → Row n (within n (related g w) b j) (row_at t w j)
