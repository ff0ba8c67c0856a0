-- `gcr::judging::gcr_judge_predicate` meets its contract, as `gcr_judge_model` does.
use mathlib.Core.Path.{ap, ◌∙◌}
use Rattle.record.specs.Layout.{edition_of, work_words}
use Rattle.judge.specs.Judgments.{predicate_judgment, packed_judgment}
use Rattle.judge.proofs.JudgmentLaws.{predicate_fits, fitting_small}
use Rattle.judge.proofs.HostsExact.{predicate_host}
use Rattle.judge.proofs.KeptLaws.{predicate_number-kept}
use Rattle.gcr.proofs.judging.gcr_judge_predicate.Goals as goal

pub pack-requires : goal.pack-requires
pack-requires c =
    let a = c.args in
    rw c.judge_predicate.ensures.value (fitting_small (predicate_judgment (edition_of a.s.now) work_words a.predicate a.s.now) (predicate_fits a.s.now work_words a.predicate))

pub returns : goal.returns
returns c =
    let q = c.pack.ensures ∙ ap packed_judgment c.judge_predicate.ensures.value in
    let a = c.args in record {
      value = q;
      exact_host = predicate_host work_words a.s.now a.predicate q;
      keeps_number = predicate_number-kept a.predicate a.s.now q;
    }
