-- `writer::seal` meets its contract: the checks of the first i blocks are written. Assumes nothing.
use mathlib.Core.Path.{◌≡◌}
use Rattle.record.specs.Encode.{sealed}
use Rattle.writer.proofs.seal.Given as goal

abbrev pub invariant-loop-i : goal.invariant-loop-i
invariant-loop-i l = l.s ≡ sealed l.i l.initial.s
