use mathlib.Core.Path.{◌≡◌, refl, ◌∙◌}
use native.Mathlib.Omega.{arith}
use Rattle.record.proofs.SumLaws.{lanes_start, lanes_more, lanes_end}
use Rattle.record.proofs.sums.of_block.Goals as goal

pub loop-r-init : goal.loop-r-init
loop-r-init c = (omega arith, lanes_start _ _)

pub loop-r-preserved : goal.loop-r-preserved
loop-r-preserved c =
    let l = c.loop-r in (
      omega arith,
      lanes_more _ _ _ _ _ (omega arith) l.invariant.1 refl (c.from-a0.ensures ∙ c.u16_at.ensures) (c.from-a1.ensures ∙ c.u16_at-in-loop-r.ensures)
          (c.from-a2.ensures ∙ c.u16_at-in-loop-r-2.ensures) (c.from-a3.ensures ∙ c.u16_at-in-loop-r-3.ensures) (omega arith),
    )

pub returns : goal.returns
returns c =
    let l = c.loop-r in
    let e : l.r ≡ 63 = omega arith in
    let ends = lanes_end _ _ (rw e at l.invariant.1) (c.from.ensures ∙ c.u16_at-2.ensures) (c.from-2.ensures ∙ c.u16_at-3.ensures) in
    (c.remainder-rest.ensures ∙ ends.0, c.remainder.ensures ∙ ends.1)
