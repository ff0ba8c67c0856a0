use borrow.Author.Count.{below_more}
use Rattle.std.proofs.Common.{sym, ◌∙◌, arith}
use Rattle.record.specs.Words.{history_from}
use Rattle.pairs.specs.Searches.{history_given}
use Rattle.pairs.proofs.DifferenceLaws.{asked_any, asked_none, asked_first}
use Rattle.pairs.proofs.order.first_misplaced.Goals.{then-is_misfit+else-loop-b-test, else-is_misfit}
use Rattle.pairs.proofs.order.first_misplaced.Goals as goal

-- an event that fits neither way has a pair, so the loop over b is not passed
pub loop-a-preserved : goal.loop-a-preserved
unfolding history_from
loop-a-preserved g c =
    let h = history_given g.row.W c.args.events.now in
    let a = c.loop-a.a in
    below_more _ _ c.loop-a.invariant (elim c.if-is_misfit.branch [
      | then-is_misfit+else-loop-b-test t ↦ absurd (asked_any c.args.cut h c.compare.new.differing c.compare.new.visible c.compare.ensures.parted a c.loop-a-test.true
          (sym c.is_misfit.ensures ∙ t.if-is_misfit.true) (λ b k. t.loop-b.invariant b (omega (arith, k, t.loop-b-test.false))))
      | else-is_misfit t ↦ sym c.is_misfit.ensures ∙ t.if-is_misfit.false
    ])

pub returns-then-is_apart : goal.returns-then-is_apart
unfolding history_from
returns-then-is_apart g c =
    let h = history_given g.row.W c.args.events.now in
    sym (asked_first c.args.cut h c.compare.new.differing c.compare.new.visible c.compare.ensures.parted c.loop-a.a c.loop-b.b c.loop-a-test.true c.loop-b-test.true
    (sym c.is_misfit.ensures ∙ c.if-is_misfit.true) (sym c.is_apart.ensures ∙ c.if-is_apart.true) c.loop-a.invariant c.loop-b.invariant)

pub returns-after-loop-a : goal.returns-after-loop-a
unfolding history_from
returns-after-loop-a g c =
    let h = history_given g.row.W c.args.events.now in
    sym (asked_none c.args.cut h c.compare.new.differing c.compare.new.visible c.compare.ensures.parted (λ a k. c.loop-a.invariant a (omega (arith, k, c.loop-a-test.false))))
