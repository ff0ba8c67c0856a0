-- `rehearsal::run::opened` meets its contract: the loop has opened the cells passed. Assumes nothing.
use Rattle.rehearsal.proofs.OpenedCells.{OpenedTo}
use Rattle.rehearsal.proofs.run.opened.Given as goal

abbrev pub invariant-loop-o : goal.invariant-loop-o
invariant-loop-o l = OpenedTo l.openings l.cells l.o
