use mathlib.Core.Path.{refl}
use Rattle.rehearsal.proofs.OpenedCells.{opened-none, opened-more, opened_all}
use Rattle.rehearsal.proofs.run.opened.Goals as goal

pub loop-o-init : goal.loop-o-init
loop-o-init c = opened-none c.args.openings.now _ refl

pub loop-o-preserved : goal.loop-o-preserved
loop-o-preserved c =
    let l = c.loop-o in
    opened-more c.args.openings.now l.cells l.o l.invariant c.opened_cell.result c.loop-o-test.true c.opened_cell.ensures

pub returns : goal.returns
returns c =
    let l = c.loop-o in
    opened_all c.args.openings.now l.cells l.o l.invariant c.loop-o-test.false
