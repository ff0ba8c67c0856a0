-- `record::layout::blocks` meets its contract, of every layout that has the edition's numbers. Assumes nothing.
use Rattle.std.proofs.Common.{ℕ, ap, ◌∙◌, ◌+◌, ◌-◌, ◌/◌}
use Rattle.record.specs.declared.Edition.{Edition}
use Rattle.record.proofs.LayoutLaws.{rounded_up}
use Rattle.record.proofs.layout.blocks.Goals as goal

pub returns : goal.returns
returns c = λ L same.
    let a = c.args in
    ap (λ (x : ℕ). 1 + x) (c.div_ceil.ensures ∙ rounded_up a.n a.ed.slots c.requires.0) ∙ ap (λ (e : Edition). 1 + (a.n + (e.slots - 1)) / e.slots) same
