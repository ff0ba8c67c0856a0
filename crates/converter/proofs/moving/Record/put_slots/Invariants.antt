-- `converter::moving::Record::put_slots` meets its contract: the loop has written the slots of the events passed. Assumes nothing.
use Rattle.record.specs.Converted.{numbered}
use Rattle.record.specs.Encode.{with_slots}
use Rattle.record.specs.History.{history_of}
use Rattle.record.specs.Layout.{edition_of, count_in, slot_at}
use lib.ListN.{length}
use Prim.Native.Nat.{◌≤◌}
use mathlib.Core.Path.{◌≡◌}
use Rattle.converter.proofs.moving.Record.put_slots.Given as goal

abbrev pub invariant-loop-e : goal.invariant-loop-e
invariant-loop-e l = record {
  passed : l.e ≤ count_in l.s;
  size : length l.target ≡ length l.initial.target;
  here : l.here ≡ slot_at (edition_of l.s) l.e;
  there : l.there ≡ slot_at (numbered l.k) l.e;
  written : l.target ≡ with_slots (numbered l.k) (history_of (edition_of l.s) l.s) l.e l.initial.target;
}
