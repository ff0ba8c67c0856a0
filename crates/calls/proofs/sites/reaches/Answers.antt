use mathlib.Core.Path.{◌≡◌, refl, ◌∙◌}
use native.Mathlib.Omega.{arith}
use borrow.Author.Tests.{le-leb, lt-leb}
use Rattle.store.specs.Rules.{reached}
use Rattle.calls.proofs.KeptLaws.{reached-more, reached_less}
use Rattle.calls.proofs.sites.reaches.Goals.{else-counts-i, then-counts-i}
use Rattle.calls.proofs.sites.reaches.Goals as goal

pub loop-i-init : goal.loop-i-init
unfolding reached
loop-i-init c = (omega arith, refl)

pub offset_bounds-counts-i : goal.offset_bounds-counts-i
offset_bounds-counts-i c = omega arith

pub bounds-counts-i : goal.bounds-counts-i
bounds-counts-i c = omega arith

pub offset_bounds-needs-i : goal.offset_bounds-needs-i
offset_bounds-needs-i c = omega arith

pub bounds-needs-i : goal.bounds-needs-i
bounds-needs-i c = omega arith

pub overflow_step-i : goal.overflow_step-i
overflow_step-i c = omega arith

pub loop-i-smaller : goal.loop-i-smaller
loop-i-smaller c = omega arith

pub loop-i-preserved : goal.loop-i-preserved
loop-i-preserved c =
    let l = c.loop-i in (
      omega arith,
      elim c.if-counts-i.branch [ then-counts-i w ↦ w.all-is ∙ reached_less l.i _ _ (lt-leb _ _ w.if-counts-i.true) | else-counts-i w ↦ w.all-is ∙ l.invariant.1 ∙ reached-more l.i _ _ (le-leb _ _ w.if-counts-i.false) ],
    )

pub returns : goal.returns
returns c = let e : c.loop-i.i ≡ 8 = omega arith in rw e at c.loop-i.invariant.1
