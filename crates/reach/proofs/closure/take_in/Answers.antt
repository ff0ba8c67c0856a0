use Rattle.rows.proofs.TableLaws.{row_room}
use Prim.Native.Nat.{◌+◌, ◌*◌, ◌≤◌}
use mathlib.Core.Path.{sym, ◌∙◌}
use native.Mathlib.Omega.{arith}
use lib.ListN.{length}
use Rattle.reach.proofs.ClosureLaws.{taken_in, taken_skip}
use Rattle.reach.proofs.closure.take_in.Goals.{In-loop-b, else-test, then-test}
use Rattle.reach.proofs.closure.take_in.Goals as goal

place : (c : In-loop-b) → c.loop-b.b * length c.args.row.now + length c.args.row.now ≤ length c.loop-b.table
place c =
    let l = c.loop-b in
    row_room c.args.n (length c.args.row.now) l.b (length l.table) c.loop-b-test.true (omega (arith, l.invariant.1.size, c.requires.0))

pub loop-b-preserved : goal.loop-b-preserved
loop-b-preserved c =
    let l = c.loop-b in
    let t = rw c.row.ensures at c.test.ensures in
    elim c.if-test.branch [ then-test w ↦ (omega arith, taken_in c.args.table.now c.args.k c.args.row.now l.b l.table l.invariant.1 c.if-test.table (place (goal.at.loop-b-preserved c).In-loop-b) (w.table-is ∙ w.union_into.ensures) (sym t ∙ w.if-test.true)) | else-test w ↦ (omega arith, taken_skip c.args.table.now c.args.k c.args.row.now l.b l.table l.invariant.1 c.if-test.table w.table-is (sym t ∙ w.if-test.false)) ]
