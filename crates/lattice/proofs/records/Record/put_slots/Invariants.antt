-- `lattice::records::Record::put_slots` meets its contract: the loop has written the slots of the events passed.
use mathlib.Core.Path.{◌≡◌}
use lib.ListN.{length}
use Rattle.record.specs.Layout.{gcr2, slot_at}
use Rattle.record.specs.Encode.{with_slots}
use Rattle.consistency.specs.Separating.{separating_history}
use Rattle.lattice.specs.Noted.{two_blocks}
use Rattle.lattice.proofs.records.Record.put_slots.Given as goal

abbrev pub invariant-loop-event : goal.invariant-loop-event
invariant-loop-event l = record {
  size : length l.rec ≡ two_blocks;
  written : l.rec ≡ with_slots gcr2 (separating_history l.fn.self.number) l.event-index l.initial.rec;
  place : l.at ≡ slot_at gcr2 l.event-index;
}
