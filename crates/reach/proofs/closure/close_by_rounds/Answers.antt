use mathlib.Core.Path.{refl, ap, ◌∙◌}
use native.Mathlib.Omega.{arith}
use lib.ListN.{length}
use Rattle.rows.proofs.TableLaws.{row_room, length-row}
use Rattle.reach.proofs.ClosureLaws.{rounds_none, rounds_more, rounds_all}
use Rattle.reach.proofs.closure.close_by_rounds.Goals as goal

pub loop-k-init : goal.loop-k-init
loop-k-init c = (omega arith, refl, rounds_none c.args.n c.args.w c.args.table.now)

pub loop-k-preserved : goal.loop-k-preserved
loop-k-preserved c =
    let l = c.loop-k in
    let t = c.take_in in
    let row = c.copy_from_slice.ensures.after ∙ c.row.ensures in
    (omega (arith, c.loop-k-test.true), t.ensures.table_len_unchanged ∙ l.invariant.1, rounds_more c.args.n c.args.w c.args.table.now l.k l.table l.invariant.2 c.copy_from_slice.new.self t.new.table c.loop-k-test.true row (rw (ap length row ∙ length-row l.table c.args.w l.k (row_room c.args.n c.args.w l.k (length l.table) c.loop-k-test.true (omega (arith, c.requires.0, l.invariant.1)))) at t.ensures.by_index))

pub returns-clause-closure : goal.returns-clause-closure
returns-clause-closure c = rounds_all c.args.n c.args.w c.args.table.now c.loop-k.k c.loop-k.table c.loop-k.invariant.2 (omega (arith, c.loop-k-test.false))
