-- `judge::judge_all` meets its contract: the reader's answer, and the judgments of a record that passed. Assumes nothing.
use mathlib.Core.Path.{sym, ap, ◌∙◌, subst}
use Prim.Native.Nat.{ℕ, ◌<◌}
use native.Mathlib.Omega.{arith}
use lib.ListN.{length, replicate}
use Rattle.std.specs.Prelude.{Err}
use Rattle.packed.specs.Packed.{places}
use Rattle.record.specs.Questions.{Reading, place_of}
use Rattle.record.proofs.QuestionsAnswered.{place_small}
use Rattle.record.specs.declared.Refusal.{Refusal}
use Rattle.judge.specs.Judgments.{Judgment, packed_judgment}
use Rattle.judge.specs.declared.Unjudged.{Unjudged}
use Rattle.judge.specs.declared.Unjudged.TheVariants.{Refused}
use Rattle.judge.proofs.RecordLaws.{read_whole}
use Rattle.judge.proofs.JudgmentLaws.{judgments_refused, judgments_judged, fitting_small}
use Rattle.judge.proofs.HostsExact.{thirteen-at, thirteen_hosts}
use Rattle.judge.proofs.KeptLaws.{thirteen-kept}
use Rattle.judge.proofs.judge_all.Goals as goal

pub invariant_of-verdicts : goal.invariant_of-verdicts
invariant_of-verdicts c =
    let r = c.read-reading in
    record { read = read_whole c.args.s.now r.result c.in-Ok.is c.args.work.now r.new.work r.ensures.work_after (length c.args.work.now) r.ensures.value }

-- the judgment of a record that is not read
abbrev refused : Refusal → Judgment
refused x = Err (Refused x)

pub pack-requires : goal.pack-requires
pack-requires c =
    let r = c.read-reading in
    let small = place_small (length c.args.work.now) c.args.s.now in
    rw c.into.ensures (fitting_small (refused c.in-Err.refusal) (subst (λ (x : Reading). place_of x < places) (sym r.ensures.value ∙ c.in-Err.is) small))

pub returns-in-Ok : goal.returns-in-Ok
returns-in-Ok c =
    let r = c.read-reading in
    let s = c.args.s.now in
    let w = length c.args.work.now in
    let q = c.verdicts-judgments.ensures ∙ judgments_judged w s r.result r.ensures.value c.in-Ok.is 13 (omega arith) in record {
      reading_value = r.ensures.value;
      judgments_value = q;
      exact_thirteen = thirteen_hosts w s q;
      work_after = r.ensures.work_after;
      keeps_thirteen = thirteen-kept w s c.verdicts-judgments.result (λ p i j l. thirteen-at w s q p i j);
    }

pub returns-in-Err : goal.returns-in-Err
returns-in-Err c =
    let r = c.read-reading in
    let s = c.args.s.now in
    let w = length c.args.work.now in
    let packed = c.pack.ensures ∙ ap (λ (e : Unjudged). packed_judgment (Err e)) c.into.ensures in
    let q =
    ap (replicate 13) packed ∙ judgments_refused w s r.result r.ensures.value c.in-Err.refusal c.in-Err.is 13 (omega arith) in record {
      reading_value = sym c.in-Err.is ∙ r.ensures.value;
      judgments_value = q;
      exact_thirteen = thirteen_hosts w s q;
      work_after = rw c.in-Err.is at r.ensures.work_after;
      keeps_thirteen = thirteen-kept w s (replicate {A = ℕ} 13 c.pack.result) (λ p i j l. thirteen-at w s q p i j);
    }
