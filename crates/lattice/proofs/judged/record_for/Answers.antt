use mathlib.Core.Path.{sym, ◌∙◌}
use native.Mathlib.Omega.{arith}
use Rattle.lattice.proofs.AnswerLaws.{first-told, none_told}
use Rattle.lattice.proofs.judged.record_for.Goals as goal

pub returns-then-tells_apart-clause-found : goal.returns-then-tells_apart-clause-found
returns-then-tells_apart-clause-found c =
    let l = c.loop-number in
    first-told c.args.i.number c.args.j.number l.number (omega arith) (omega arith) l.invariant (sym c.tells_apart.ensures ∙ c.if-tells_apart.true)

pub returns-clause-none : goal.returns-clause-none
returns-clause-none c none = none_told c.args.i.number c.args.j.number c.loop-number.number (omega arith) c.loop-number.invariant
