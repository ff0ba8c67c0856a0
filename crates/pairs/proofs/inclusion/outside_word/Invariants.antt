-- `pairs::inclusion::outside_word` meets its contract. The invariant: x has the bits of the rows passed. Assumes nothing.
use Rattle.std.proofs.Common.{◌≡◌, ◌&&◌, ℕ, ◌+◌, ◌*◌, ltb}
use Rattle.rows.specs.Row.{bit_of}
use Rattle.rows.specs.Relation.{related}
use Rattle.consistency.specs.Predicates.{outside}
use Rattle.pairs.proofs.inclusion.outside_word.Given as goal

abbrev pub invariant-loop-j : goal.invariant-loop-j
invariant-loop-j g l = (i : ℕ) → bit_of l.x i ≡ ltb i l.j && outside (related l.q g.row.W) (related l.r g.row.W) l.a (l.k * 64 + i)
