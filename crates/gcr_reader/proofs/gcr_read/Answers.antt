-- `gcr_reader::gcr_read`: an answer's number and place are small enough to be packed.
use mathlib.Core.Path.{◌≡◌, sym, ap, ap₂, ◌∙◌}
use mathlib.Core.Bool.{true≢false}
use native.Mathlib.Omega.{arith}
use lib.ListN.{length}
use Rattle.std.specs.Prelude.{Err, is_err}
use Rattle.packed.specs.Packed.{packed_refusal}
use Rattle.record.specs.Layout.{edition_of}
use Rattle.record.specs.Questions.{number_of, place_of, reading, packed_reading}
use Rattle.record.proofs.QuestionsAnswered.{number-most, number_passed, place_small, packed-passed, packed-refused}
use Rattle.record.proofs.BeforeHarvest.{read-number-kept}
use Rattle.gcr_reader.proofs.gcr_read.Goals.{In-Ok, In-Err, After-refusal}
use Rattle.gcr_reader.proofs.gcr_read.Goals as goal

passed : (c : In-Ok) → 0 ≡ packed_reading (reading (edition_of c.args.s.now) (length c.args.work.now) c.args.s.now)
passed c = sym (packed-passed _ (ap number_of (sym c.read.ensures.value ∙ c.in-Ok.is)))

told : (c : In-Err) → reading (edition_of c.args.s.now) (length c.args.work.now) c.args.s.now ≡ Err c.in-Err.refusal
told c = sym c.read.ensures.value ∙ c.in-Err.is

refused : (c : After-refusal) → c.refusal.result ≡ packed_reading (reading (edition_of c.args.s.now) (length c.args.work.now) c.args.s.now)
refused c =
    let r = c.in-Err.refusal in
    c.refusal.ensures ∙ ap₂ packed_refusal c.number.ensures c.place.ensures
    ∙ sym (packed-refused (Err r) (λ z. true≢false (ap is_err (number_passed (Err r) z))))
    ∙ sym (ap packed_reading (told (goal.at.After-refusal c).In-Err))

pub refusal-requires : goal.refusal-requires
refusal-requires c =
    let s = c.args.s.now in
    let words = length c.args.work.now in
    let place = ap place_of (told (goal.at.refusal-requires c).In-Err) in
    omega (arith, c.number.ensures, number-most (Err c.in-Err.refusal), c.place.ensures, place, place_small words s)

pub returns-in-Ok-clause-value : goal.returns-in-Ok-clause-value
returns-in-Ok-clause-value c = passed (goal.at.returns-in-Ok-clause-value c).In-Ok

pub returns-in-Ok-clause-keeps_read_number : goal.returns-in-Ok-clause-keeps_read_number
returns-in-Ok-clause-keeps_read_number c = read-number-kept (length c.args.work.now) c.args.s.now (passed (goal.at.returns-in-Ok-clause-keeps_read_number c).In-Ok)

pub returns-in-Err-clause-value : goal.returns-in-Err-clause-value
returns-in-Err-clause-value c = refused (goal.at.returns-in-Err-clause-value c).After-refusal

pub returns-in-Err-clause-keeps_read_number : goal.returns-in-Err-clause-keeps_read_number
returns-in-Err-clause-keeps_read_number c = read-number-kept (length c.args.work.now) c.args.s.now (refused (goal.at.returns-in-Err-clause-keeps_read_number c).After-refusal)
