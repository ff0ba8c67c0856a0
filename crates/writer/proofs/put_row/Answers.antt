use mathlib.Core.Path.{ap, ◌∙◌}
use Prim.Native.Nat.{◌+◌, ◌*◌}
use lib.Seq.{sets}
use Rattle.record.proofs.WordBytes.{row-none, row_stored}
use Rattle.writer.proofs.put_row.Goals as goal

pub loop-i-init : goal.loop-i-init
loop-i-init c = row-none _ _ _

pub loop-i-preserved : goal.loop-i-preserved
loop-i-preserved c =
    let l = c.loop-i in
    let a = c.args in
    row_stored a.row.now a.s.now l.s c.put.new.s a.at l.i l.invariant (c.put.ensures ∙ ap (sets l.s (a.at + 8 * l.i)) c.octets_of.ensures)
