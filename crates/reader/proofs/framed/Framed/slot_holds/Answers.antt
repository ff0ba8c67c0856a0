-- `reader::framed::Framed::slot_holds` meets its contract: below n an event, from n on zero, and then the tail. Assumes nothing.
use mathlib.Core.Path.{◌≡◌, refl, sym, ap, ◌∙◌}
use mathlib.Core.Bool.{Bool, ◌&&◌}
use mathlib.Core.List.{List}
use Prim.Native.Nat.{ℕ, ◌<◌, ◌≤◌}
use Rattle.record.specs.Layout.{edition_of, slot_at, zeros}
use Rattle.record.specs.Slots.{event_right, tail_right, slot_right}
use Rattle.record.proofs.SlotLaws.{slot-below, slot_from_lem}
use Rattle.reader.specs.declared.framed.Framed.{Framed}
use Rattle.reader.proofs.FramedLaws.{sizes}
use Rattle.reader.proofs.framed.Framed.slot_holds.Goals.{then-e-self, else-e-self}
use Rattle.reader.proofs.framed.Framed.slot_holds.Goals as goal

-- what is asked of slot e before its tail, by what was found there
module _ (f : Framed) (e at : ℕ) (found : Bool) (place : at ≡ slot_at (edition_of f.bytes.now) e) where
  abbrev s : List ℕ
  s = f.bytes.now

  of_event : e < f.count → found ≡ event_right f.bytes.now at → slot_right (edition_of f.bytes.now) f.bytes.now e ≡ found && tail_right (edition_of f.bytes.now) f.bytes.now e
  of_event h q = slot-below (edition_of s) s f.count e at f.numbers.0 place h ∙ ap (λ (t : Bool). t && tail_right (edition_of s) s e) (sym q)

  of_none : f.count ≤ e → found ≡ zeros f.edition.slot f.bytes.now at → slot_right (edition_of f.bytes.now) f.bytes.now e ≡ found && tail_right (edition_of f.bytes.now) f.bytes.now e
  of_none h q =
      slot_from_lem (edition_of s) s f.count e at f.numbers.0 place h
      ∙ ap (λ (t : Bool). t && tail_right (edition_of s) s e) (sym (q ∙ ap (λ (b : ℕ). zeros b s at) (sizes f).slot))

pub returns-then-holds : goal.returns-then-holds
returns-then-holds c =
    let f = c.args.self.now in
    elim c.if-e-self.branch [
      | then-e-self w ↦ c.tail_holds.ensures c.args.e c.requires.at_value
          ∙ sym (of_event f c.args.e c.args.at c.if-e-self.holds c.requires.at_value w.if-e-self.true (w.holds-is ∙ w.event_holds-holds.ensures) ∙ rw c.if-holds.true refl)
      | else-e-self w ↦ c.tail_holds.ensures c.args.e c.requires.at_value
          ∙ sym (of_none f c.args.e c.args.at c.if-e-self.holds c.requires.at_value w.if-e-self.false (w.holds-is ∙ w.is_zero-holds.ensures) ∙ rw c.if-holds.true refl)
    ]

pub returns-else-holds : goal.returns-else-holds
returns-else-holds c =
    let f = c.args.self.now in
    elim c.if-e-self.branch [
      | then-e-self w ↦ c.if-holds.false
          ∙ sym (of_event f c.args.e c.args.at c.if-e-self.holds c.requires.at_value w.if-e-self.true (w.holds-is ∙ w.event_holds-holds.ensures) ∙ rw c.if-holds.false refl)
      | else-e-self w ↦ c.if-holds.false
          ∙ sym (of_none f c.args.e c.args.at c.if-e-self.holds c.requires.at_value w.if-e-self.false (w.holds-is ∙ w.is_zero-holds.ensures) ∙ rw c.if-holds.false refl)
    ]
