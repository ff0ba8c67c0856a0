-- `converter::convert` meets its contract, one question after the other; what each answer means is `ConvertsLaws`. Assumes nothing.
use mathlib.Core.Path.{◌≡◌, refl, sym, ap, ◌∙◌}
use lib.ListN.{length}
use Rattle.std.specs.Prelude.{Err}
use Rattle.std.proofs.lemmas.Result.{err_from_is_err_and}
use mathlib.Core.Bool.{false}
use Rattle.record.proofs.QuestionsAnswered.{passed-right}
use Rattle.record.specs.Converted.{is_edition}
use Rattle.record.specs.Layout.{edition_of}
use Rattle.converter.specs.Conversions.{Conversion, target_after}
use Rattle.converter.specs.declared.Unconverted.TheVariants.{Refused}
use Rattle.converter.proofs.ConvertsLaws.{edition_low, edition_high, edition_both, no_edition, read_refused, read_moved, converts_of}
use Rattle.converter.proofs.convert.Goals.{then-edition-lt1-via-then-edition-lt1, then-edition-lt1-via-else-edition-lt1+then-edition-gt3}
use Rattle.converter.proofs.convert.Goals as goal

pub returns-then-edition-lt1 : goal.returns-then-edition-lt1
unfolding target_after
returns-then-edition-lt1 c =
    let a = c.args in
    let out : is_edition a.edition ≡ false = elim c.then-edition-lt1.branch [
      | then-edition-lt1-via-then-edition-lt1 w ↦ edition_low a.edition w.if-edition-lt1.true
      | then-edition-lt1-via-else-edition-lt1+then-edition-gt3 w ↦ edition_high a.edition w.if-edition-gt3.true
    ] in
    let e = no_edition a.edition _ a.s.now out in
    record {
      value = e;
      target_after = refl;
      converts = converts_of a.edition a.s.now a.target.now (λ i. (c.type_inv.s i).fits) e refl;
    }

pub returns-in_err-ask : goal.returns-in_err-ask
unfolding target_after
returns-in_err-ask c =
    let a = c.args in
    let given = err_from_is_err_and c.from_residual.result c.from_residual.ensures.1 in
    let refused : c.from_residual.result ≡ Err (Refused _) = given.1 ∙ ap Err given.2 in
    let e = refused ∙ read_refused a.edition (length a.target.now) a.s.now (edition_both a.edition c.if-edition-lt1.false c.if-edition-gt3.false) _ (sym c.ask.ensures.value ∙ c.in_err-ask.was) in
    let f : a.target.now ≡ target_after c.from_residual.result a.edition a.s.now a.target.now = sym (ap (λ (r : Conversion). target_after r a.edition a.s.now a.target.now) refused) in
    record {
      value = e;
      target_after = f;
      converts = converts_of a.edition a.s.now a.target.now (λ i. (c.type_inv.s i).fits) e f;
    }

pub move_to-requires : goal.move_to-requires
move_to-requires c = passed-right (edition_of c.args.s.now) c.args.s.now (sym c.ask.ensures.value ∙ c.in_ok-ask.was)

pub returns : goal.returns
returns c =
    let a = c.args in
    let e =
    read_moved a.edition _ a.s.now (edition_both a.edition c.if-edition-lt1.false c.if-edition-gt3.false) (sym c.ask.ensures.value ∙ c.in_ok-ask.was) c.move_to.ensures.value in
    record {
      value = e;
      target_after = c.move_to.ensures.target_after;
      converts = converts_of a.edition a.s.now a.target.now (λ i. (c.type_inv.s i).fits) e c.move_to.ensures.target_after;
    }
