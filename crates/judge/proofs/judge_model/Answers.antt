-- `judge::judge_model` meets its contract, by how questions 1 and 2 are answered. Assumes nothing.
use mathlib.Core.Path.{sym, ap, ◌∙◌}
use mathlib.Core.List.{List}
use Prim.Native.Nat.{ℕ, ◌≤◌}
use lib.ListN.{length}
use Rattle.std.specs.Prelude.{Err}
use Rattle.std.proofs.lemmas.Result.{err_from_is_err_and}
use Rattle.record.specs.Layout.{edition_of, work_words}
use Rattle.consistency.specs.Models.{list_of}
use Rattle.judge.specs.Judgments.{judged_list, model_judgment}
use Rattle.judge.proofs.MeansLaws.{exact_of}
use Rattle.judge.proofs.ClocksJudged.{by_clocks_lem}
use Rattle.judge.proofs.KeptLaws.{verdict-kept}
use Rattle.judge.proofs.CoversExactly.{tells_others}
use Rattle.judge.proofs.JudgmentLaws.{granted, judged_as, left_alone}
use Rattle.judge.proofs.judge_model.Goals.{In_ok-admit, Start}
use Rattle.judge.proofs.judge_model.Goals as goal

-- the length of the work slice, and the record
abbrev words : Start → ℕ
words s = length s.args.work.now

abbrev bytes : Start → List ℕ
bytes s = s.args.s.now

within : (c : In_ok-admit) → let s = (goal.at.In_ok-admit c).Start in (work_words ≤ words s) × (1 ≤ s.args.number) × (s.args.number ≤ 13)
within c = let s = (goal.at.In_ok-admit c).Start in granted (words s) s.args.number (sym c.admit.ensures ∙ c.in_ok-admit.was)

pub of_model-requires : goal.of_model-requires
of_model-requires c = let w = within c in (w.1, w.2)

pub judge_list-requires : goal.judge_list-requires
judge_list-requires c = (within (goal.at.judge_list-requires c).In_ok-admit).0

pub returns-in_err-admit : goal.returns-in_err-admit
unfolding model_judgment
returns-in_err-admit c =
    let s = (goal.at.returns-in_err-admit c).Start in
    let p = err_from_is_err_and c.from_residual.result c.from_residual.ensures.1 in
    let e = p.1 ∙ ap Err p.2 in
    let q = e ∙ judged_as (words s) s.args.number (bytes s) (list_of s.args.number) c.admit.ensures c.in_err-admit.was in record {
      value = q;
      exact_of = exact_of (edition_of (bytes s)) (words s) s.args.number (list_of s.args.number) (bytes s) q;
      by_clocks = by_clocks_lem (words s) s.args.number (list_of s.args.number) (bytes s) q;
      keeps_verdict = verdict-kept (words s) s.args.number (list_of s.args.number) (bytes s) q;
      tells_others = tells_others (words s) s.args.number (bytes s) q;
      work_after = rw e (left_alone (words s) s.args.number _ (sym c.admit.ensures ∙ c.in_err-admit.was) (bytes s) s.args.work.now);
    }

pub returns : goal.returns
unfolding model_judgment
returns c =
    let s = (goal.at.returns c).Start in
    let q = c.judge_list.ensures.value ∙ ap (judged_list (edition_of (bytes s)) (bytes s)) c.of_model.ensures ∙ judged_as (words s) s.args.number (bytes s) (list_of s.args.number) c.admit.ensures c.in_ok-admit.was in record {
      value = q;
      exact_of = exact_of (edition_of (bytes s)) (words s) s.args.number (list_of s.args.number) (bytes s) q;
      by_clocks = by_clocks_lem (words s) s.args.number (list_of s.args.number) (bytes s) q;
      keeps_verdict = verdict-kept (words s) s.args.number (list_of s.args.number) (bytes s) q;
      tells_others = tells_others (words s) s.args.number (bytes s) q;
      work_after = c.judge_list.ensures.work_after;
    }
