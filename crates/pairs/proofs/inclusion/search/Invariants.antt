-- `pairs::inclusion::search` meets its contract. The invariant: `begins` has the events from which a pair is outside, to one of the events passed. It speaks of
-- what the lists have, for the relations and sets that they hold are known only to the caller. Assumes nothing.
use Rattle.std.proofs.Common.{◌≡◌, ℕ, length}
use Rattle.rows.specs.Lowest.{some}
use Rattle.rows.specs.Row.{has}
use Rattle.pairs.specs.Searches.{lacks}
use Rattle.pairs.proofs.inclusion.search.Given as goal

abbrev pub invariant-loop-b : goal.invariant-loop-b
invariant-loop-b g l = (length l.begins ≡ g.row.W) × ((a : ℕ) → has l.begins a ≡ some l.b (lacks g.row.W l.q l.starts l.ends l.r a))
