-- `judge::judge_list` meets its contract: the reader's refusal, or the outcome of the list where no question got a no. Assumes nothing.
use mathlib.Core.Path.{ap, ◌∙◌}
use Rattle.std.specs.Prelude.{Err}
use Rattle.std.proofs.lemmas.Result.{err_from_is_err_and}
use Rattle.judge.specs.Lists.{numbers_of}
use Rattle.judge.proofs.RecordLaws.{read_into}
use Rattle.judge.proofs.JudgmentLaws.{list_refused, list_judged}
use Rattle.judge.proofs.judge_list.Goals as goal

pub returns-in_err-ask-clause-value : goal.returns-in_err-ask-clause-value
returns-in_err-ask-clause-value c =
    let p = err_from_is_err_and c.from_residual.result c.from_residual.ensures.1 in
    p.1 ∙ ap Err p.2 ∙ list_refused c.args.s.now (numbers_of c.args.list.now) c.ask.result c.ask.ensures.value _ c.in_err-ask.was

pub invariant_of-passed : goal.invariant_of-passed
invariant_of-passed c = record { read = read_into c.args.s.now c.ask.result c.in_ok-ask.was c.args.work.now c.ask.new.work c.ask.ensures.work_after c.ask.ensures.value }

pub returns-clause-value : goal.returns-clause-value
returns-clause-value c = list_judged c.args.s.now (numbers_of c.args.list.now) c.ask.result c.ask.ensures.value c.in_ok-ask.was c.first_broken.result c.first_broken.ensures
