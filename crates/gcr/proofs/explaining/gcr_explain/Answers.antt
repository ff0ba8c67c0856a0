-- `gcr::explaining::gcr_explain`: the number of what is told fits.
use Rattle.record.specs.Layout.{work_words}
use Rattle.judge.proofs.JudgmentLaws.{predicate_fits}
use Rattle.explain.proofs.TellsLaws.{tells_hosts, why_small}
use Rattle.gcr.proofs.explaining.gcr_explain.Goals as goal

pub pack-requires : goal.pack-requires
pack-requires c = why_small c.explain.ensures.tells_why (predicate_fits c.args.s.now work_words c.args.predicate)

pub returns-clause-tells_hosts_why : goal.returns-clause-tells_hosts_why
returns-clause-tells_hosts_why c =
    rw c.pack.ensures (tells_hosts c.args.predicate c.args.s.now c.args.events.now c.explain.ensures.tells_why)
