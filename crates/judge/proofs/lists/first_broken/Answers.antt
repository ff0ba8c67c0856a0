-- `judge::lists::first_broken` meets its contract. Assumes nothing.
use mathlib.Core.Path.{◌≡◌, sym, ap, ◌∙◌}
use Prim.Native.Nat.{ℕ}
use lib.ListN.{get_or}
use Rattle.consistency.specs.Models.{broken_at}
use Rattle.consistency.specs.Predicates.{verdict}
use Rattle.consistency.specs.declared.Predicate.TheVariants.{RVal}
use Rattle.judge.specs.Judgments.{said_by}
use Rattle.judge.proofs.RecordLaws.{ready-verdict}
use Rattle.judge.proofs.ListLaws.{tag_number, left_past, left-met, left-broken}
use Rattle.judge.proofs.lists.first_broken.Goals.{After-judge}
use Rattle.judge.proofs.lists.first_broken.Goals as goal

-- the verdict on the evidence is that on the record
found : (c : After-judge) → c.judge.result ≡ verdict (get_or c.args.list.now c.loop-p.p-index RVal) (said_by c.args.passed.now.record.now)
found c =
    let e = c.evidence-evidence.ensures in
    ready-verdict c.prepare.ensures.ready _ e.seen.0 e.lent.0 e.seen.1 e.lent.2 c.judge.ensures

pub returns-in-Some : goal.returns-in-Some
returns-in-Some c =
    let p = get_or c.args.list.now c.loop-p.p-index RVal in
    ap (λ (k : ℕ). broken_at k (c.in-Some.first, c.in-Some.second)) (tag_number p)
    ∙ left-broken (said_by c.args.passed.now.record.now) c.args.list.now c.loop-p.p-index c.loop-p-test.true c.judge.result (found (goal.at.returns-in-Some c).After-judge) _ c.loop-p.invariant (c.in-Some.first, c.in-Some.second) c.in-Some.is

pub loop-p-preserved : goal.loop-p-preserved
loop-p-preserved c = left-met (said_by c.args.passed.now.record.now) c.args.list.now c.loop-p.p-index c.loop-p-test.true c.judge.result (found (goal.at.loop-p-preserved c).After-judge) _ c.loop-p.invariant c.in_default.is

pub returns : goal.returns
returns c = sym (c.loop-p.invariant ∙ left_past (said_by c.args.passed.now.record.now) c.args.list.now c.loop-p.p-index c.loop-p-test.false)
