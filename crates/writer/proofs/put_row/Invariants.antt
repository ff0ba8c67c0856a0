-- `writer::put_row` meets its contract: the first i words are stored. Assumes nothing.
use mathlib.Core.Path.{◌≡◌}
use Prim.Native.Nat.{◌*◌}
use lib.Seq.{sets}
use Rattle.rows.specs.Row.{has}
use Rattle.record.specs.Encode.{set_bytes}
use Rattle.writer.proofs.put_row.Given as goal

abbrev pub invariant-loop-i : goal.invariant-loop-i
invariant-loop-i l = l.s ≡ sets l.initial.s l.at (set_bytes (8 * l.i) (has l.row))
