-- `judge::thirteen::verdicts` meets its contract. Assumes nothing.
use mathlib.Core.Path.{◌≡◌, refl, ◌∙◌}
use native.Mathlib.Omega.{arith}
use lib.ListN.{get_or, length-set}
use Rattle.record.specs.History.{history_of}
use Rattle.record.proofs.QuestionsAnswered.{passed-count}
use Rattle.consistency.specs.Predicates.{predicates, verdict}
use Rattle.consistency.specs.declared.Predicate.TheVariants.{RVal}
use Rattle.judge.specs.Judgments.{said_by}
use Rattle.judge.specs.Lists.{packed_verdicts}
use Rattle.judge.proofs.RecordLaws.{ready-verdict}
use Rattle.judge.proofs.ThirteenLaws.{packed-small, packed_more, packed_all}
use Rattle.judge.proofs.thirteen.verdicts.Goals.{After-judge}
use Rattle.judge.proofs.thirteen.verdicts.Goals as goal

-- the verdict on the evidence is that on the record
found : (c : After-judge) → c.judge.result ≡ verdict (get_or predicates c.loop-k.k RVal) (said_by c.args.passed.now.record.now)
found c =
    let e = c.evidence-evidence.ensures in
    ready-verdict c.prepare.ensures.ready _ e.seen.0 e.lent.0 e.seen.1 e.lent.2 c.judge.ensures

pub loop-k-init : goal.loop-k-init
unfolding packed_verdicts
loop-k-init c = (refl, refl)

pub pack-requires : goal.pack-requires
unfolding history_of
pack-requires c = packed-small _ (said_by c.args.passed.now.record.now) c.judge.result (passed-count c.args.passed.now.record.now c.args.passed.now.read.passed) (found c)

pub loop-k-preserved : goal.loop-k-preserved
loop-k-preserved c =
    let l = c.loop-k in
    (length-set l.answers l.k c.pack.result ∙ l.invariant.0, packed_more (said_by c.args.passed.now.record.now) l.answers l.k l.invariant.1 c.judge.result c.pack.result (omega (arith, c.loop-k-test.true, l.invariant.0)) (found (goal.at.loop-k-preserved c).After-judge) c.pack.ensures)

pub returns : goal.returns
returns c = let l = c.loop-k in packed_all (said_by c.args.passed.now.record.now) l.answers l.k l.invariant.1 (omega arith) l.invariant.0
