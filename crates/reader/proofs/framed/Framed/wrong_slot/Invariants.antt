-- `reader::framed::Framed::wrong_slot` meets its contract. The loop's invariant: the slots below e are right, and slot e starts at `at`. Assumes nothing.
use mathlib.Core.Path.{◌≡◌}
use mathlib.Core.Bool.{not}
use Rattle.rows.proofs.LowestLaws.{Searched}
use Rattle.record.specs.Layout.{edition_of, slot_at}
use Rattle.record.specs.Slots.{slot_right}
use Rattle.record.specs.Questions.{slots_in}
use Rattle.reader.proofs.framed.Framed.wrong_slot.Given as goal

abbrev pub invariant-loop-e : goal.invariant-loop-e
invariant-loop-e l =
    let s = l.self.bytes.now in
    Searched (slots_in (edition_of s) s) (λ b. not (slot_right (edition_of s) s b)) l.e × (l.at ≡ slot_at (edition_of s) l.e)
