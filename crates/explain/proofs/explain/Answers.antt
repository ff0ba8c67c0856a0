-- `explain::explain` meets its contract, one question after the other. Assumes nothing.
use mathlib.Core.Path.{◌≡◌, refl, sym, ap, ◌∙◌}
use lib.ListN.{length}
use Rattle.std.specs.Prelude.{Ok, Err}
use Rattle.std.proofs.lemmas.Result.{err_from_is_err_and}
use Rattle.record.specs.Words.{work_after}
use Rattle.judge.specs.Judgments.{admission}
use Rattle.judge.proofs.JudgmentLaws.{granted}
use Rattle.explain.specs.Explanations.{Explanation, entries_after, work_left, entries_after_it, work_after_it}
use Rattle.explain.specs.declared.Unexplained.TheVariants.{Unjudged}
use Rattle.explain.proofs.ExplanationLaws.{not_admitted, not_admitted-leaves, few_entries, enough_entries}
use Rattle.explain.proofs.TellsLaws.{tells_why}
use Rattle.explain.proofs.explain.Goals.{In_ok-admit}
use Rattle.explain.proofs.explain.Goals as goal

admitted : (c : In_ok-admit) → admission (length c.args.work.now) c.args.number ≡ Ok tt
admitted c = sym c.admit.ensures ∙ c.in_ok-admit.was

pub returns-in_err-admit : goal.returns-in_err-admit
returns-in_err-admit c =
    let a = c.args in
    let e = c.in_err-admit.field-0.0 in
    let words = length a.work.now in
    let said : admission words a.number ≡ Err e = sym c.admit.ensures ∙ c.in_err-admit.was in
    let given = err_from_is_err_and c.from_residual.result c.from_residual.ensures.1 in
    let refused : c.from_residual.result ≡ Err (Unjudged e) = given.1 ∙ ap Err given.2 in
    let left = not_admitted-leaves words a.number a.s.now a.work.now a.entries.now e said in
    let q = refused ∙ not_admitted words (length a.entries.now) a.number a.s.now e said in
    let entries = left.0 ∙ sym (ap (λ (x : Explanation). entries_after_it x a.number a.s.now a.entries.now) refused) in
    record {
      value = q;
      entries_after = entries;
      work_after = left.1 ∙ sym (ap (λ (x : Explanation). work_after_it x a.s.now a.work.now) refused);
      tells_why = tells_why words a.number a.s.now a.entries.now _ _ q entries;
    }

pub returns-then-entries-lt-EVENTS : goal.returns-then-entries-lt-EVENTS
unfolding entries_after work_left work_after
returns-then-entries-lt-EVENTS c =
    let a = c.args in
    let words = length a.work.now in
    let q = few_entries words (length a.entries.now) a.number a.s.now (admitted (goal.at.returns-then-entries-lt-EVENTS c).In_ok-admit) c.if-entries-lt-EVENTS.true in
    record {
      value = q;
      entries_after = refl;
      work_after = refl;
      tells_why = tells_why words a.number a.s.now a.entries.now _ _ q refl;
    }

pub explain_record-requires : goal.explain_record-requires
explain_record-requires c =
    let w = granted (length c.args.work.now) c.args.number (admitted (goal.at.explain_record-requires c).In_ok-admit) in
    (w.0, w.1, w.2, c.if-entries-lt-EVENTS.false)

pub returns : goal.returns
returns c =
    let a = c.args in
    let r = c.explain_record in
    let words = length a.work.now in
    let q = enough_entries words (length a.entries.now) a.number a.s.now (admitted (goal.at.returns c).In_ok-admit) c.if-entries-lt-EVENTS.false r.ensures.value in
    record {
      value = q;
      entries_after = r.ensures.entries_after;
      work_after = r.ensures.work_after;
      tells_why = tells_why words a.number a.s.now a.entries.now _ _ q r.ensures.entries_after;
    }
