-- `rows::join_outside` meets its contract: the words passed have what q and s have and r lacks too. Assumes nothing.
use Rattle.rows.proofs.JoinLaws.{Joining, outside}
use Rattle.rows.proofs.join_outside.Given as goal

abbrev pub invariant-loop-i : goal.invariant-loop-i
invariant-loop-i l = Joining (outside l.q l.s l.r) l.initial.dst l.i l.dst
