-- `lattice::judged::record_for` meets its contract: no record passed tells the models apart.
use Rattle.lattice.proofs.AnswerLaws.{NoneBelow}
use Rattle.lattice.proofs.judged.record_for.Given as goal

abbrev pub invariant-loop-number : goal.invariant-loop-number
invariant-loop-number l = NoneBelow l.i.number l.j.number l.number
