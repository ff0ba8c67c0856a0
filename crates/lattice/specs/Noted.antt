-- The events of a small record as slots. Only contracts of inner functions cite this.
use Rattle.std.specs.Prelude.{List, ℕ, map}
use Rattle.std.specs.List.{range_with_len}
use Rattle.record.specs.History.{History}
use Rattle.record.specs.Encode.{bits}
use Rattle.lattice.specs.declared.records.Event.{Event}

-- the bytes of such a record: block 0, and a block for its slots
abbrev pub two_blocks : ℕ
two_blocks = 1024

-- an event's slot, and which of the first three events it sees
unfoldable pub event_of : History → ℕ → Event
event_of h e = record {
  slot = record {
    write = h.is_write e;
    site = h.site e;
    object = h.object e;
    pending = h.is_pending e;
    present = h.is_present e;
    value = h.value e;
    position = h.position e;
    start = h.start e;
    returned = h.return e;
  };
  sees = bits 3 (h.sees e);
}

-- all its events
unfoldable pub events_of : History → List Event
unfolding event_of
events_of h = map (event_of h) (range_with_len 0 h.count)
