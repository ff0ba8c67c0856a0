use native.Mathlib.Omega.{arith}
use Rattle.record.proofs.SealLaws.{sum_a_lt, sum_b_lt, sealed-none, sealed-more}
use Rattle.writer.proofs.BytesLaws.{stored-le}
use Rattle.writer.proofs.seal.Goals as goal

pub loop-i-init : goal.loop-i-init
loop-i-init c = sealed-none c.args.s.now

pub overflow_cast-check : goal.overflow_cast-check
overflow_cast-check c =
    let l = c.loop-i in
    omega (arith, c.of_block-check.ensures.0, sum_a_lt 253 l.s l.i)

pub overflow_cast-check-in-loop-i : goal.overflow_cast-check-in-loop-i
overflow_cast-check-in-loop-i c =
    let l = c.loop-i in
    omega (arith, c.of_block-check.ensures.1, sum_b_lt 253 l.s l.i)

pub loop-i-preserved : goal.loop-i-preserved
loop-i-preserved c =
    let l = c.loop-i in
    sealed-more c.args.s.now l.s _ _ l.i _ _ l.invariant c.of_block-check.ensures.0 c.of_block-check.ensures.1
    (stored-le 2 c.of_block-check.result.a _ _ _ c.put.ensures c.to_le_bytes.ensures) (stored-le 2 c.of_block-check.result.b _ _ _ c.put-in-loop-i.ensures c.to_le_bytes-in-loop-i.ensures)
