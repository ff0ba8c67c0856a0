use mathlib.Core.Path.{sym, ◌∙◌}
use native.Mathlib.Omega.{arith}
use lib.ListN.{length}
use Rattle.record.specs.Words.{is_write_in}
use Rattle.rows.proofs.RowLaws.{row-none, row-set, row_skip}
use Rattle.tables.proofs.groups.fill_writes.Goals.{then-is_write, else-is_write}
use Rattle.tables.proofs.groups.fill_writes.Goals as goal

pub loop-e-init : goal.loop-e-init
loop-e-init c = rw c.requires.row_value (row-none (is_write_in c.args.heads.now.words.now) (length c.args.row.now))

pub loop-e-preserved : goal.loop-e-preserved
loop-e-preserved c =
    let l = c.loop-e in
    let f = is_write_in c.args.heads.now.words.now in
    elim c.if-is_write.branch [
      | then-is_write t ↦ rw (t.row-is, t.set.ensures) (row-set l.e f l.row l.invariant (omega (arith, c.requires.n_in_bounds.1)) (sym c.is_write.ensures ∙ t.if-is_write.true))
      | else-is_write t ↦ rw t.row-is (row_skip l.e f l.row l.invariant (sym c.is_write.ensures ∙ t.if-is_write.false))
    ]
