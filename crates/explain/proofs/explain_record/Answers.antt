-- `explain::explain_record` meets its contract: the reader's answer, or the predicate's where no question got a no. Assumes nothing.
use mathlib.Core.Path.{◌≡◌, sym, ap, ◌∙◌}
use Rattle.std.specs.Prelude.{Err}
use Rattle.std.proofs.lemmas.Result.{err_from_is_err_and}
use Rattle.record.specs.Layout.{edition_of}
use Rattle.record.specs.Questions.{Reading, number_of}
use Rattle.record.specs.Words.{work_after}
use Rattle.consistency.specs.Predicates.{verdict}
use Rattle.consistency.specs.declared.Predicate.{Predicate}
use Rattle.judge.specs.Judgments.{said_by}
use Rattle.judge.specs.declared.Unjudged.TheVariants.{Refused}
use Rattle.judge.proofs.RecordLaws.{read_into}
use Rattle.explain.specs.Explanations.{Explanation, answer_to, events_told, over, entries_after_it, work_after_it}
use Rattle.explain.specs.declared.Unexplained.TheVariants.{Unjudged}
use Rattle.explain.proofs.ExplanationLaws.{record_refused, record_passed, entries_refused, work-refused, entries_told, work-told}
use Rattle.explain.proofs.explain_record.Goals as goal

pub returns-in_err-ask : goal.returns-in_err-ask
returns-in_err-ask c =
    let a = c.args in
    let r = c.in_err-ask.field-0.0 in
    let given = err_from_is_err_and c.from_residual.result c.from_residual.ensures.1 in
    let refused : c.from_residual.result ≡ Err (Unjudged (Refused r)) = given.1 ∙ ap Err given.2 in
    record {
      value = refused ∙ record_refused a.number a.s.now r (sym c.ask.ensures.value ∙ c.in_err-ask.was);
      entries_after = entries_refused a.number a.s.now r a.entries.now ∙ sym (ap (λ (e : Explanation). entries_after_it e a.number a.s.now a.entries.now) refused);
      work_after =
          c.ask.ensures.work_after ∙ ap (λ (x : Reading). work_after (edition_of a.s.now) (number_of x) a.s.now a.work.now) c.in_err-ask.was ∙ work-refused a.number a.s.now r a.work.now
          ∙ sym (ap (λ (e : Explanation). work_after_it e a.s.now a.work.now) refused);
    }

pub tell-requires : goal.tell-requires
tell-requires c =
    let a = c.args in
    (read_into a.s.now c.ask.result c.in_ok-ask.was a.work.now c.ask.new.work c.ask.ensures.work_after c.ask.ensures.value, c.requires.3)

pub returns : goal.returns
returns c =
    let a = c.args in
    let p = c.by_number.ensures in
    let h = said_by a.s.now in
    let r = c.tell.ensures.value ∙ ap (λ (x : Predicate). answer_to x h (verdict x h)) p in
    let o = c.tell.ensures.out_after ∙ ap (λ (x : Predicate). over (events_told x h (verdict x h)) a.entries.now) p in
    let passed = c.in_ok-ask.was in
    record {
      value = r ∙ record_passed a.number a.s.now (sym c.ask.ensures.value ∙ passed);
      entries_after = o ∙ entries_told a.number a.s.now c.tell.result r a.entries.now;
      work_after =
          c.ask.ensures.work_after ∙ ap (λ (x : Reading). work_after (edition_of a.s.now) (number_of x) a.s.now a.work.now) passed ∙ work-told a.number a.s.now c.tell.result r a.work.now;
    }
