-- `reader::framed::Framed::wrong_position` meets its contract: no position passed is wrong, the row has those positions, and slot e starts at `at`. Assumes nothing.
use mathlib.Core.Path.{◌≡◌}
use lib.ListN.{length}
use Rattle.rows.proofs.LowestLaws.{Searched}
use Rattle.record.specs.Layout.{edition_of, slot_at, row_words}
use Rattle.record.specs.History.{history_of}
use Rattle.record.specs.Questions.{wrong_position}
use Rattle.record.proofs.PositionLaws.{Taken}
use Rattle.reader.proofs.framed.Framed.wrong_position.Given as goal

abbrev pub invariant-loop-e : goal.invariant-loop-e
invariant-loop-e l =
    let s = l.self.bytes.now in
    Searched l.self.count (wrong_position (history_of (edition_of s) s)) l.e × (length l.taken ≡ row_words) × Taken (history_of (edition_of s) s) l.e l.taken
    × (l.at ≡ slot_at (edition_of s) l.e)
