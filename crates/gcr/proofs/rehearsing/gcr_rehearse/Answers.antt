-- `gcr::rehearsing::gcr_rehearse`: the parts of the result fit, so that it reads back.
use mathlib.Core.Path.{◌≡◌, sym, ap, ◌∙◌, subst}
use native.Mathlib.Omega.{arith}
use Rattle.std.proofs.Common.{ℕ, List}
use Rattle.store.specs.Rehearsal.{InNumbers}
use Rattle.store.specs.Demand.{Rehearses}
use Rattle.gcr.specs.Packed.{packed_rehearsal, unpacked_rehearsal}
use Rattle.rehearsal.proofs.ResultSizes.{SmallResult, result_small}
use Rattle.gcr.proofs.PackedLaws.{reads-back}
use Rattle.gcr.proofs.rehearsing.gcr_rehearse.Goals as goal

module _ {n : ℕ} {openings script rec ans rec' ans' : List ℕ} {r : InNumbers} (h : Rehearses n openings script rec ans rec' ans' r) where
  small : SmallResult r
  small = result_small n openings script rec ans rec' ans' r h

  same : {p : ℕ} → p ≡ packed_rehearsal r → r ≡ unpacked_rehearsal p
  same e = sym (ap unpacked_rehearsal e ∙ reads-back r (omega (arith, small.number)) (omega (arith, small.length)))

  kept : {p : ℕ} → p ≡ packed_rehearsal r → Rehearses n openings script rec ans rec' ans' (unpacked_rehearsal p)
  kept e = subst (λ (x : InNumbers). Rehearses n openings script rec ans rec' ans' x) (same e) h

pub overflow_mul-result : goal.overflow_mul-result
overflow_mul-result c = let s = small c.in-Ok.ensures.rehearses in omega arith

pub overflow_mul-result-in-Ok : goal.overflow_mul-result-in-Ok
overflow_mul-result-in-Ok c = let s = small c.in-Ok.ensures.rehearses in omega arith

pub overflow_add-result : goal.overflow_add-result
overflow_add-result c = let s = small c.in-Ok.ensures.rehearses in omega arith

pub returns-in-Ok-clause-rehearses : goal.returns-in-Ok-clause-rehearses
unfolding packed_rehearsal
returns-in-Ok-clause-rehearses c = kept c.in-Ok.ensures.rehearses (omega arith)

pub returns-in-Err-clause-rehearses : goal.returns-in-Err-clause-rehearses
unfolding packed_rehearsal
returns-in-Err-clause-rehearses c = kept c.in-Err.ensures.rehearses (omega (arith, c.number.ensures))

pub returns-in-Err-clause-script_value : goal.returns-in-Err-clause-script_value
unfolding packed_rehearsal
returns-in-Err-clause-script_value c e = c.in-Err.ensures.script_value (ap (λ (r : InNumbers). r.number) (same c.in-Err.ensures.rehearses (omega (arith, c.number.ensures))) ∙ e)
