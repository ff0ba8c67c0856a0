use Rattle.std.proofs.Common.{refl, arith}
use lib.Bits.{bit_and, bit_xor}
use lib.ListN.{get_or}
use Rattle.rows.proofs.JoinLaws.{joining_none, joining_more, joining_all}
use Rattle.pairs.proofs.DifferenceLaws.{differ_word, both_word, mate_past}
use Rattle.pairs.proofs.order.join.Invariants.{one_has, both_have}
use Rattle.pairs.proofs.order.join.Goals as goal

pub loop-i-init : goal.loop-i-init
loop-i-init c =
    let s = c.args in
    (joining_none (one_has s.seen.now s.before.now s.mates.now) s.differing.now, joining_none (both_have s.seen.now s.mates.now) s.visible.now)

pub loop-i-preserved : goal.loop-i-preserved
loop-i-preserved c =
    let k = c.loop-i in
    let s = c.args.seen.now in
    let p = c.args.before.now in
    let m = c.args.mates.now in (
      joining_more (one_has s p m) c.args.differing.now k.i k.differing k.invariant.0 (bit_and (bit_xor (get_or s k.i 0) (get_or p k.i 0)) (get_or m k.i 0))
          (differ_word s p m k.i) (omega arith) _ refl,
      joining_more (both_have s m) c.args.visible.now k.i k.visible k.invariant.1 (bit_and (get_or s k.i 0) (get_or m k.i 0)) (both_word s m k.i) (omega arith) _ refl,
    )

pub returns-clause-differs : goal.returns-clause-differs
returns-clause-differs c =
    let k = c.loop-i in
    let s = c.args in
    joining_all (one_has s.seen.now s.before.now s.mates.now) s.differing.now k.i k.differing k.invariant.0 (λ x h. mate_past _ s.mates.now x (omega arith))

pub returns-clause-begins : goal.returns-clause-begins
returns-clause-begins c =
    let k = c.loop-i in
    let s = c.args in
    joining_all (both_have s.seen.now s.mates.now) s.visible.now k.i k.visible k.invariant.1 (λ x h. mate_past _ s.mates.now x (omega arith))
