use mathlib.Core.Path.{◌∙◌}
use native.Mathlib.Omega.{arith}
use Rattle.rows.proofs.RowLaws.{length-insert}
use Rattle.tables.proofs.TakenLaws.{early_more, row_next}
use Rattle.tables.proofs.real_time.join_before.Goals as goal

pub loop-a-preserved : goal.loop-a-preserved
loop-a-preserved c =
    let k = c.loop-a in
    let i = k.invariant in
    let e = c.in-Some.ensures in
    let r = c.args.returned.now in
    let s = rw (i.0, i.1) at e.some in (
      e.same.0 ∙ i.0,
      e.same.1 ∙ i.1,
      rw c.set.ensures (length-insert k.far c.in-Some.a) ∙ i.2,
      rw s.3 (early_more r.heads.words.now r.order.now c.args.t k.returned.passed i.3 s.0 (rw s.1 at s.2)),
      λ n low row. rw s.3 (row_next n r.order.now k.returned.passed k.far c.set.new.row (i.4 n low row) (low k.returned.passed s.0)
          (omega (arith, c.requires.in_bounds k.returned.passed s.0, i.2)) (rw s.1 at c.set.ensures)),
    )
