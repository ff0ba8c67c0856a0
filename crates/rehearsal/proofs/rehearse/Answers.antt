-- `rehearsal::rehearse` meets its contract: the questions refuse it, and then nothing has changed, or it is accepted. Assumes nothing.
use mathlib.Core.Path.{refl, ap, ◌∙◌}
use native.Mathlib.Nat.{le_refl}
use Rattle.std.proofs.lemmas.Result.{err_from_is_err_and}
use Rattle.std.specs.Prelude.{Err}
use Rattle.record.specs.Layout.{work_words}
use Rattle.store.specs.Rehearsal.{record_of}
use Rattle.rehearsal.proofs.FoundCausal.{found-causal}
use Rattle.rehearsal.proofs.RehearsalLaws.{refused_rehearses}
use Rattle.rehearsal.proofs.rehearse.Goals as goal

pub returns-in_err-rehearsal_refused-clause-rehearses : goal.returns-in_err-rehearsal_refused-clause-rehearses
returns-in_err-rehearsal_refused-clause-rehearses c =
    let g = c.args in
    let p = err_from_is_err_and c.from_residual.result c.from_residual.ensures.1 in
    rw (p.1 ∙ ap Err p.2)
    (refused_rehearses g.sites g.openings.now g.script.now g.rec.now g.answers.now c.in_err-rehearsal_refused.field-0.0 (c.in_err-rehearsal_refused.ensures g.script.now g.rec.now g.answers.now refl refl refl))

pub returns-clause-script_value : goal.returns-clause-script_value
returns-clause-script_value c =
    let g = c.args in
    λ z. found-causal work_words (le_refl work_words) (record_of g.sites g.openings.now g.script.now) (c.accepted.ensures.causal z)
