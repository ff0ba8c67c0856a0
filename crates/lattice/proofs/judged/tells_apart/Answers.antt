-- `lattice::judged::tells_apart` meets its contract: what the judge answers is what the table says.
use mathlib.Core.Path.{sym, ap, ◌∙◌}
use Rattle.lattice.specs.Answers.{met_by, broken_by}
use Rattle.lattice.proofs.AnswerLaws.{tells_yes, tells_no}
use Rattle.lattice.proofs.judged.tells_apart.Goals as goal

pub returns-then-is_met : goal.returns-then-is_met
returns-then-is_met c =
    let a = c.args in
    c.is_broken.ensures ∙ ap broken_by c.of_record-then-is_met.ensures
    ∙ tells_yes a.k.number a.i.number a.j.number a.k.known.0 a.k.known.1 a.i.known a.j.known (sym (c.is_met.ensures ∙ ap met_by c.of_record.ensures) ∙ c.if-is_met.true)

pub returns-else-is_met : goal.returns-else-is_met
returns-else-is_met c =
    let a = c.args in
    c.if-is_met.false ∙ tells_no a.k.number a.i.number a.j.number a.k.known.0 a.k.known.1 a.i.known a.j.known (sym (c.is_met.ensures ∙ ap met_by c.of_record.ensures) ∙ c.if-is_met.false)
