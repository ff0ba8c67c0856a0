-- `chains::shortest` meets its contract: the first i entries of the chain are written, and the walk stands at e, from which the others lead on. Assumes nothing.
use Prim.Native.Nat.{◌-◌}
use Rattle.rows.specs.Relation.{related}
use Rattle.chains.proofs.WritingLaws.{Writing}
use Rattle.chains.proofs.shortest.Given as goal

abbrev pub invariant-loop-i : goal.invariant-loop-i
invariant-loop-i l = Writing l.relation.count (related l.relation.words.now l.relation.width) l.a l.b l.last l.initial.out l.out l.e l.i

abbrev pub decreases-loop-i : goal.decreases-loop-i
decreases-loop-i l = l.last - l.i
