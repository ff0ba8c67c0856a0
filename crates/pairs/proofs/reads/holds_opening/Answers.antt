-- `pairs::reads::holds_opening` meets its contract, by whether the object has an opening. Assumes nothing.
use Rattle.std.proofs.Common.{◌≡◌, sym, ap, ◌∙◌, not}
use Rattle.record.specs.Terms.{value}
use Rattle.record.specs.Words.{history_from, object_in, figure_in, opening_from}
use Rattle.events.specs.Given.{fields_of}
use Rattle.consistency.proofs.ReadLaws.{held_none, held-absent, held-present}
use Rattle.pairs.proofs.EventLaws.{no_opening, an_opening}
use Rattle.pairs.proofs.reads.holds_opening.Goals.{Else-not-has_opening, Start}
use Rattle.pairs.proofs.reads.holds_opening.Given.{Over}
use Rattle.pairs.proofs.reads.holds_opening.Goals as goal

-- the object has an opening
figure : (g : Over) (c : Else-not-has_opening g) → let a = (goal.at.Else-not-has_opening g c).Start.args in opening_from a.terms.now.words.now (object_in a.events.now.heads.words.now a.e) ≡ value (figure_in a.terms.now.words.now c.object-object.result)
figure g c =
    let a = (goal.at.Else-not-has_opening g c).Start.args in
    ap (opening_from a.terms.now.words.now) (sym c.object-object.ensures) ∙ an_opening a.terms.now.words.now c.object-object.result (sym c.has_opening.ensures ∙ c.if-not-has_opening.false)

pub returns-then-not-has_opening : goal.returns-then-not-has_opening
unfolding history_from
returns-then-not-has_opening g c =
    let a = c.args in
    held_none (fields_of a.events.now.heads.words.now) a.e _ c.is_present.result c.is_present.ensures
    (ap (opening_from a.terms.now.words.now) (sym c.object-object.ensures) ∙ no_opening a.terms.now.words.now c.object-object.result (sym c.has_opening.ensures ∙ c.if-not-has_opening.true))

pub returns-then-is_present : goal.returns-then-is_present
unfolding history_from
returns-then-is_present g c =
    let a = c.args in
    held-present (fields_of a.events.now.heads.words.now) a.e _ c.is_present-2.result c.is_present-2.ensures _ c.value.result c.opening.result
    (figure g (goal.at.returns-then-is_present g c).Else-not-has_opening) (ap not c.if-is_present.true) c.value.ensures c.opening.ensures

-- `search` also takes `false` for the test's value there: so must-fail/none_for_opening.edit, which writes `true`, is refused for that alone
pub returns-else-is_present : goal.returns-else-is_present
unfolding history_from
returns-else-is_present g c =
    let a = c.args in
    search c.if-is_present.false ∙ held-absent (fields_of a.events.now.heads.words.now) a.e _ c.is_present-2.result c.is_present-2.ensures _ (figure g (goal.at.returns-else-is_present g c).Else-not-has_opening) (ap not c.if-is_present.false)
