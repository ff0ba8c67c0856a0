-- `rehearsal::run::opened_cell` meets its contract: the object's bit is clear, or its value is the opening. Assumes nothing.
use mathlib.Core.Path.{sym, ◌∙◌}
use native.Mathlib.Omega.{arith}
use Rattle.rehearsal.proofs.OpenedCells.{cell-none, cell-some}
use Rattle.rehearsal.proofs.run.opened_cell.Goals as goal

pub returns-then-test : goal.returns-then-test
returns-then-test c =
    let g = c.args in
    cell-some g.openings.now g.o c.requires.1 (sym c.test.ensures ∙ c.if-test.true) c.u32_at.result (omega arith) c.u32_at.ensures

pub returns-else-test : goal.returns-else-test
returns-else-test c =
    let g = c.args in
    cell-none g.openings.now g.o c.requires.1 (sym c.test.ensures ∙ c.if-test.false)
