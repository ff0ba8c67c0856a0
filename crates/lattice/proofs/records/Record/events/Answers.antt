-- `lattice::records::Record::events` meets its contract: a test of the whole table, which computes.
use Rattle.std.proofs.Common.{rules}
use Rattle.record.specs.Encode.{bits}
use Rattle.record.specs.Listed.{member, history_of_events}
use Rattle.consistency.specs.Separating.{numbered_record}
use Rattle.lattice.specs.Noted.{event_of, events_of}
use Rattle.lattice.proofs.RecordLaws.{events-right}
use Rattle.lattice.proofs.records.Record.events.Goals as goal

pub returns : goal.returns
unfolding event_of events_of bits member history_of_events numbered_record
returns c = search (rules, events-right)
