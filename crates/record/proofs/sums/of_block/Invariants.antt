-- `record::sums::of_block` meets its contract. The loop's invariant: the lanes hold the sums of the rows passed, and are too small to wrap. Assumes nothing.
use Prim.Native.Nat.{◌≤◌, ◌-◌}
use Rattle.record.proofs.SumLaws.{Lanes}
use Rattle.record.proofs.sums.of_block.Given as goal

abbrev pub invariant-loop-r : goal.invariant-loop-r
invariant-loop-r l = (l.r ≤ 63) × Lanes l.s l.k l.r l.a0 l.a1 l.a2 l.a3 l.b0 l.b1 l.b2 l.b3

abbrev pub decreases-loop-r : goal.decreases-loop-r
decreases-loop-r l = 63 - l.r
