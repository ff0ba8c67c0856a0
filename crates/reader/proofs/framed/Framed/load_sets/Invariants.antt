-- `reader::framed::Framed::load_sets` meets its contract: the sets of the events passed are loaded and right, and slot e starts at `slot`. Assumes nothing.
use mathlib.Core.Path.{◌≡◌}
use mathlib.Core.List.{◌++◌}
use Prim.Native.Nat.{◌*◌}
use lib.ListN.{drop}
use Rattle.rows.proofs.LowestLaws.{Searched}
use Rattle.record.specs.Layout.{edition_of, slot_at, row_words}
use Rattle.record.specs.History.{history_of, vis}
use Rattle.record.specs.Questions.{wrong_set}
use Rattle.record.specs.Words.{set_rows}
use Rattle.reader.proofs.framed.Framed.load_sets.Given as goal

abbrev pub invariant-loop-e : goal.invariant-loop-e
invariant-loop-e l =
    let s = l.self.bytes.now in
    let n = l.self.count in
    Searched n (wrong_set (edition_of s).row n (vis (history_of (edition_of s) s))) l.e
    × (l.table ≡ set_rows (edition_of s) s l.e ++ drop (l.e * row_words) l.initial.table) × (l.slot ≡ slot_at (edition_of s) l.e)
