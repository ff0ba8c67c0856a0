use Rattle.std.proofs.Common.{refl, arith, ◌-◌}
use Rattle.rows.proofs.RowLaws.{lacking_lt}
use Rattle.pairs.proofs.LatestLaws.{pick_none, pick_more, pick_found}
use Rattle.pairs.proofs.reads.pick_difference.Goals as goal

pub loop-i-init : goal.loop-i-init
loop-i-init c = pick_none c.args.a.now c.args.b.now

pub returns-then-x-ne0 : goal.returns-then-x-ne0
returns-then-x-ne0 c =
    let a = c.args.a.now in
    let b = c.args.b.now in
    let i = c.loop-i.i - 1 in
    pick_found a b i _ (c.type_inv.b i).fits (lacking_lt a b i (c.type_inv.a i).fits) refl c.if-x-ne0.true

pub loop-i-preserved : goal.loop-i-preserved
loop-i-preserved c =
    let i = c.loop-i.i - 1 in
    pick_more c.args.a.now c.args.b.now i (c.type_inv.b i).fits (λ y h. c.loop-i.invariant y (omega arith)) c.if-x-ne0.false
