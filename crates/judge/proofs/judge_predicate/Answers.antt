-- `judge::judge_predicate` meets its contract, by how questions 1 and 2 are answered. Assumes nothing.
use mathlib.Core.Path.{sym, ap, ◌∙◌}
use mathlib.Core.List.{List, [], ◌∷◌}
use Prim.Native.Nat.{ℕ, ◌≤◌}
use lib.ListN.{length}
use Rattle.std.specs.Prelude.{Err}
use Rattle.std.proofs.lemmas.Result.{err_from_is_err_and}
use Rattle.record.specs.Layout.{edition_of, work_words}
use Rattle.judge.specs.Judgments.{judged_list, predicate_judgment}
use Rattle.judge.specs.Lists.{predicate_number}
use Rattle.judge.proofs.MeansLaws.{exact_of}
use Rattle.judge.proofs.ClocksJudged.{by_clocks_lem}
use Rattle.judge.proofs.KeptLaws.{verdict-kept}
use Rattle.judge.proofs.JudgmentLaws.{numbered_back, granted, judged_as, left_alone}
use Rattle.judge.proofs.judge_predicate.Goals.{In_ok-admit, Start}
use Rattle.judge.proofs.judge_predicate.Goals as goal

-- the length of the work slice, and the record
abbrev words : Start → ℕ
words s = length s.args.work.now

abbrev bytes : Start → List ℕ
bytes s = s.args.s.now

within : (c : In_ok-admit) → let s = (goal.at.In_ok-admit c).Start in (work_words ≤ words s) × (1 ≤ s.args.number) × (s.args.number ≤ 13)
within c = let s = (goal.at.In_ok-admit c).Start in granted (words s) s.args.number (sym c.admit.ensures ∙ c.in_ok-admit.was)

pub by_number-requires : goal.by_number-requires
by_number-requires c = let w = within c in (w.1, w.2)

pub judge_list-requires : goal.judge_list-requires
judge_list-requires c = (within (goal.at.judge_list-requires c).In_ok-admit).0

pub returns-in_err-admit : goal.returns-in_err-admit
unfolding predicate_judgment
returns-in_err-admit c =
    let s = (goal.at.returns-in_err-admit c).Start in
    let p = err_from_is_err_and c.from_residual.result c.from_residual.ensures.1 in
    let e = p.1 ∙ ap Err p.2 in
    let q = e ∙ judged_as (words s) s.args.number (bytes s) (s.args.number ∷ []) c.admit.ensures c.in_err-admit.was in record {
      value = q;
      exact_of = exact_of (edition_of (bytes s)) (words s) s.args.number (s.args.number ∷ []) (bytes s) q;
      by_clocks = by_clocks_lem (words s) s.args.number (s.args.number ∷ []) (bytes s) q;
      keeps_verdict = verdict-kept (words s) s.args.number (s.args.number ∷ []) (bytes s) q;
      work_after = rw e (left_alone (words s) s.args.number _ (sym c.admit.ensures ∙ c.in_err-admit.was) (bytes s) s.args.work.now);
    }

pub returns : goal.returns
unfolding predicate_judgment
returns c =
    let s = (goal.at.returns c).Start in
    let w = within (goal.at.returns c).In_ok-admit in
    let q = c.judge_list.ensures.value ∙ ap (judged_list (edition_of (bytes s)) (bytes s)) (ap (λ (k : ℕ). k ∷ []) (ap predicate_number c.by_number.ensures ∙ numbered_back s.args.number w.1 w.2)) ∙ judged_as (words s) s.args.number (bytes s) (s.args.number ∷ []) c.admit.ensures c.in_ok-admit.was in record {
      value = q;
      exact_of = exact_of (edition_of (bytes s)) (words s) s.args.number (s.args.number ∷ []) (bytes s) q;
      by_clocks = by_clocks_lem (words s) s.args.number (s.args.number ∷ []) (bytes s) q;
      keeps_verdict = verdict-kept (words s) s.args.number (s.args.number ∷ []) (bytes s) q;
      work_after = c.judge_list.ensures.work_after;
    }
