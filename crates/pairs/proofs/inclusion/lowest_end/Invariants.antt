-- `pairs::inclusion::lowest_end` meets its contract. The invariant: the words passed have no end. Assumes nothing.
use Rattle.std.proofs.Common.{◌≡◌, false, ℕ, ◌*◌, ◌<◌}
use Rattle.rows.specs.Relation.{related}
use Rattle.pairs.proofs.InclusionLaws.{ending_below}
use Rattle.pairs.proofs.inclusion.lowest_end.Given as goal

abbrev pub invariant-loop-k : goal.invariant-loop-k
invariant-loop-k g l = (b : ℕ) → b < l.k * 64 → ending_below l.n l.ends (related l.q g.row.W) (related l.r g.row.W) l.a b ≡ false
