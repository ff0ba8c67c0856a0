use mathlib.Core.Path.{sym, ◌∙◌}
use native.Mathlib.Omega.{arith}
use Rattle.reach.proofs.FoundLaws.{found_hit, found-nowhere}
use Rattle.reach.proofs.rings.lowest_unsettled.Goals as goal

pub returns-then-reaches_itself : goal.returns-then-reaches_itself
returns-then-reaches_itself c = found_hit _ _ c.loop-a.a c.loop-a-test.true c.loop-a.invariant.1 (sym c.reaches_itself.ensures ∙ c.if-reaches_itself.true)

pub returns : goal.returns
returns c = found-nowhere _ _ (λ x h. c.loop-a.invariant.1 x (omega (arith, c.loop-a-test.false)))
