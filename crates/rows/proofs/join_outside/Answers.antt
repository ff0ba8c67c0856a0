use mathlib.Core.Path.{refl}
use native.Mathlib.Omega.{arith}
use lib.Bits.{bit_and}
use lib.ListN.{get_or}
use Rattle.rows.proofs.RowLaws.{lacking}
use Rattle.rows.proofs.JoinLaws.{joining_more, joining_all, outside, outside_word, outside_past}
use Rattle.rows.proofs.join_outside.Goals as goal

pub loop-i-preserved : goal.loop-i-preserved
loop-i-preserved c =
    let a = c.args in
    let k = c.loop-i in
    joining_more (outside a.q.now a.s.now a.r.now) a.dst.now k.i k.dst k.invariant (bit_and (get_or a.q.now k.i 0) (lacking a.s.now a.r.now k.i))
    (outside_word a.q.now a.s.now a.r.now k.i (c.type_inv.r k.i).fits) (omega (arith, c.requires.0)) _ refl

pub returns-clause-by_index : goal.returns-clause-by_index
returns-clause-by_index c =
    let a = c.args in
    let k = c.loop-i in
    joining_all (outside a.q.now a.s.now a.r.now) a.dst.now k.i k.dst k.invariant (λ x h. outside_past a.q.now a.s.now a.r.now x (omega arith))
