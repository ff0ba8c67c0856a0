-- `reader::words::load` meets its contract: the words of the first e events are loaded, the rest of the slice is as it was, and slot e starts at `slot`. Assumes nothing.
use mathlib.Core.Path.{◌≡◌}
use mathlib.Core.List.{◌++◌}
use Prim.Native.Nat.{◌*◌, ◌-◌, ◌≤◌}
use lib.ListN.{length, drop}
use Rattle.record.specs.Layout.{edition_of, slot_at}
use Rattle.record.specs.Words.{slot_words}
use Rattle.reader.proofs.words.load.Given as goal

abbrev pub invariant-loop-e : goal.invariant-loop-e
invariant-loop-e l = (l.e ≤ l.n) × (length l.out ≡ length l.initial.out) × (l.out ≡ slot_words (edition_of l.s) l.off l.w l.s l.e ++ drop (l.e * l.w) l.initial.out) × (l.slot ≡ slot_at (edition_of l.s) l.e)

abbrev pub decreases-loop-e : goal.decreases-loop-e
decreases-loop-e l = l.n - l.e
