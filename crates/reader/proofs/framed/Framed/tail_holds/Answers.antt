-- `reader::framed::Framed::tail_holds` meets its contract: only a block's last slot has a tail. Assumes nothing.
use mathlib.Core.Path.{sym, ap, ap₂, ◌∙◌}
use mathlib.Core.Bool.{not}
use Prim.Native.Nat.{ℕ, ◌+◌, ◌-◌}
use native.Mathlib.Omega.{arith}
use borrow.Author.Tests.{ne_eqb}
use Rattle.record.specs.Layout.{edition_of, zeros}
use Rattle.record.proofs.SlotLaws.{tail_last, tail_none}
use Rattle.record.proofs.SoundLayout.{sound_of}
use Rattle.reader.proofs.FramedLaws.{sizes}
use Rattle.reader.proofs.framed.Framed.tail_holds.Goals as goal

pub returns-then-at-ed-ne0 : goal.returns-then-at-ed-ne0
returns-then-at-ed-ne0 c = λ e q.
    let s = c.args.self.now.bytes.now in
    ap not (ne_eqb _ 0 c.if-at-ed-ne0.true)
    ∙ sym (tail_none (edition_of s) (sound_of s) s e c.args.at q (λ z. c.if-at-ed-ne0.true (omega (arith, (sizes c.args.self.now).rest, z))))

pub returns-else-at-ed-ne0 : goal.returns-else-at-ed-ne0
returns-else-at-ed-ne0 c = λ e q.
    let s = c.args.self.now.bytes.now in
    let d = sizes c.args.self.now in
    c.is_zero.ensures ∙ ap₂ (λ (r b : ℕ). zeros (r - b - 4) s (c.args.at + b)) d.rest d.slot
    ∙ sym (tail_last (edition_of s) (sound_of s) s e c.args.at q (omega (arith, d.rest, c.if-at-ed-ne0.false)))
