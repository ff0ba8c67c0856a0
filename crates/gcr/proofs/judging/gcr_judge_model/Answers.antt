-- `gcr::judging::gcr_judge_model` meets its contract: the parts of a judgment fit into a host's number, and are read back.
use mathlib.Core.Path.{ap, ◌∙◌}
use Rattle.record.specs.Layout.{edition_of, work_words}
use Rattle.judge.specs.Judgments.{model_judgment, packed_judgment}
use Rattle.judge.proofs.JudgmentLaws.{model_fits, fitting_small}
use Rattle.judge.proofs.HostsExact.{model_host}
use Rattle.judge.proofs.CoversHosts.{tells_hosts}
use Rattle.judge.proofs.KeptLaws.{model_number-kept}
use Rattle.gcr.proofs.judging.gcr_judge_model.Goals as goal

pub pack-requires : goal.pack-requires
pack-requires c =
    let a = c.args in
    rw c.judge_model.ensures.value (fitting_small (model_judgment (edition_of a.s.now) work_words a.model a.s.now) (model_fits a.s.now work_words a.model))

pub returns : goal.returns
returns c =
    let q = c.pack.ensures ∙ ap packed_judgment c.judge_model.ensures.value in
    let a = c.args in record {
      value = q;
      exact_host = model_host work_words a.s.now a.model q;
      tells_hosts = tells_hosts a.model a.s.now q;
      keeps_number = model_number-kept a.model a.s.now q;
    }
