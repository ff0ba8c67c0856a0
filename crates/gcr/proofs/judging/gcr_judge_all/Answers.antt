-- `gcr::judging::gcr_judge_all`: the reading is packed as `gcr_read` packs it.
use mathlib.Core.Path.{◌≡◌, sym, ap, ap₂, ◌∙◌}
use mathlib.Core.Bool.{true≢false}
use native.Mathlib.Omega.{arith}
use Rattle.std.specs.Prelude.{Err, is_err}
use Rattle.packed.specs.Packed.{packed_refusal}
use Rattle.record.specs.Layout.{edition_of, work_words}
use Rattle.record.specs.Questions.{number_of, place_of, reading, packed_reading}
use Rattle.record.proofs.QuestionsAnswered.{number-most, number_passed, place_small, packed-passed, packed-refused}
use Rattle.gcr.proofs.judging.gcr_judge_all.Goals.{In-Err}
use Rattle.gcr.proofs.judging.gcr_judge_all.Goals as goal

told : (c : In-Err) → reading (edition_of c.args.s.now) work_words c.args.s.now ≡ Err c.in-Err.refusal
told c = sym c.judge_all-all.ensures.reading_value ∙ c.in-Err.is

pub returns-in-Ok-clause-value : goal.returns-in-Ok-clause-value
returns-in-Ok-clause-value c = sym (packed-passed _ (ap number_of (sym c.judge_all-all.ensures.reading_value ∙ c.in-Ok.is)))

pub refusal-requires : goal.refusal-requires
refusal-requires c =
    let place = ap place_of (told (goal.at.refusal-requires c).In-Err) in
    omega (arith, c.number.ensures, number-most (Err c.in-Err.refusal), c.place.ensures, place, place_small work_words c.args.s.now)

pub returns-in-Err-clause-value : goal.returns-in-Err-clause-value
returns-in-Err-clause-value c =
    let r = c.in-Err.refusal in
    c.refusal.ensures ∙ ap₂ packed_refusal c.number.ensures c.place.ensures ∙ sym (packed-refused (Err r) (λ z. true≢false (ap is_err (number_passed (Err r) z))))
    ∙ sym (ap packed_reading (told (goal.at.returns-in-Err-clause-value c).In-Err))
