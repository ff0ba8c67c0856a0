use mathlib.Core.Path.{sym, ◌∙◌}
use native.Mathlib.Omega.{arith}
use lib.Bits.{bit_or}
use Rattle.rows.proofs.RowLaws.{merge_none, merge-more, merge_all, or-merge}
use Rattle.rows.proofs.union.Goals as goal

pub loop-i-init : goal.loop-i-init
loop-i-init c = merge_none bit_or c.args.dst.now c.args.src.now

pub loop-i-preserved : goal.loop-i-preserved
loop-i-preserved c =
    let l = c.loop-i in
    let a = c.args in
    merge-more bit_or a.dst.now a.src.now l.i l.invariant (omega arith) c.requires

pub returns : goal.returns
returns c =
    let l = c.loop-i in
    let a = c.args in
    merge_all bit_or a.dst.now a.src.now l.i l.invariant (omega arith) ∙ sym (or-merge a.dst.now a.src.now)
