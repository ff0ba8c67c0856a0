-- `rehearsal::slots::slot` meets its contract: the value is 0 where none is present. Assumes nothing.
use mathlib.Core.Path.{◌≡◌, sym, ◌∙◌}
use Rattle.calls.specs.Mirror.{word_shown}
use Rattle.record.specs.Terms.{value_or0}
use Rattle.rehearsal.proofs.slots.slot.Goals.{else-present, then-present}
use Rattle.rehearsal.proofs.slots.slot.Goals as goal

pub returns : goal.returns
returns c =
    let g = c.args in
    let present = c.is_present-present in
    let shown : c.if-present.result ≡ value_or0 (word_shown g.word.0) =
    elim c.if-present.branch [
      | then-present w ↦ rw (sym present.ensures ∙ w.if-present.true) (w.result-is ∙ w.value.ensures)
      | else-present w ↦ rw (sym present.ensures ∙ w.if-present.false) w.result-is
    ] in
    rw (shown, present.ensures, c.site.ensures, c.object.ensures)
