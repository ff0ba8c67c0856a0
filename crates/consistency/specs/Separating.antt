-- The other side of the lattice: eight small records, each with the models that it meets. Wherever a second model does not follow from a first, one of these meets
-- the first and breaks the second.
use Rattle.std.specs.Prelude.{not, ◌&&◌, List, [], ◌∷◌, ℕ, ◌+◌, ◌-◌, get_or}
use Rattle.rows.specs.Lowest.{lowest}
use Rattle.rows.specs.Relation.{Rel}
use Rattle.record.specs.Layout.{gcr2}
use Rattle.record.specs.Terms.{none, value}
use Rattle.record.specs.History.{History}
use Rattle.record.specs.Encode.{record_bytes}
use Rattle.record.specs.Listed.{Noted, event, a_read, a_write, returned, pending, member, history_of_events}
use Rattle.consistency.specs.Lattice.{regular, sequential, causal, real_time_causal, processor, per_object_sequential, pram, monotonic_reads, read_your_writes, monotonic_writes, writes_follow_reads, slow_memory}

pub record Separating : Type 0 where
  -- an event: kind, site, object, value or none, position, times, what it sees
  pub events : List Noted
  -- the models that they meet; they break the others
  pub meets : List ℕ

-- 1: a read at site 1 starts after a write at site 0 returned, and is before it in the order
abbrev pub behind_the_clock : Separating
behind_the_clock = record {
  events =
      event a_write 0 0 (value 7) 1 (returned 1 2) (1 ∷ [])
      ∷ event a_read 1 0 none 0 (returned 3 4) []
      ∷ [];
  meets =
      sequential ∷ causal ∷ processor ∷ per_object_sequential ∷ pram ∷ monotonic_reads ∷ read_your_writes ∷ monotonic_writes ∷ writes_follow_reads
      ∷ slow_memory ∷ [];
}

-- 2: two sites write one object at one time, and neither write sees the other
abbrev pub unaware_writes : Separating
unaware_writes = record {
  events =
      event a_write 0 0 (value 7) 0 (returned 1 2) []
      ∷ event a_write 1 0 (value 8) 1 (returned 1 2) []
      ∷ [];
  meets = causal ∷ real_time_causal ∷ pram ∷ monotonic_reads ∷ read_your_writes ∷ monotonic_writes ∷ writes_follow_reads ∷ slow_memory ∷ [];
}

-- 3: a read of site 1 sees a write of site 0, and the site's next read, of another object, does not
abbrev pub forgotten_write : Separating
forgotten_write = record {
  events =
      event a_write 0 0 (value 7) 0 (returned 1 2) []
      ∷ event a_read 1 0 (value 7) 1 (returned 3 4) (0 ∷ [])
      ∷ event a_read 1 1 none 2 (returned 5 6) (1 ∷ [])
      ∷ [];
  meets = processor ∷ per_object_sequential ∷ pram ∷ read_your_writes ∷ monotonic_writes ∷ writes_follow_reads ∷ slow_memory ∷ [];
}

-- 4: a site writes, reads that, and writes another object; in the order its second write comes first
abbrev pub second_write_first : Separating
second_write_first = record {
  events =
      event a_write 0 0 (value 7) 1 (returned 1 2) []
      ∷ event a_read 0 0 (value 7) 2 (returned 3 4) (0 ∷ [])
      ∷ event a_write 0 1 (value 8) 0 (returned 5 6) (0 ∷ 1 ∷ [])
      ∷ [];
  meets = processor ∷ per_object_sequential ∷ pram ∷ monotonic_reads ∷ read_your_writes ∷ slow_memory ∷ [];
}

-- 5: while site 0 writes, a read of site 1 holds the new value, and the site's next read none
abbrev pub new_then_old : Separating
new_then_old = record {
  events =
      event a_write 0 0 (value 7) 1 (returned 1 6) (2 ∷ [])
      ∷ event a_read 1 0 (value 7) 2 (returned 2 3) (0 ∷ 2 ∷ [])
      ∷ event a_read 1 0 none 0 (returned 4 5) []
      ∷ [];
  meets = regular ∷ read_your_writes ∷ monotonic_writes ∷ writes_follow_reads ∷ [];
}

-- 6: site 1 reads what site 0 is writing, and then writes; that write never returned, and comes first in the order
abbrev pub pending_write_first : Separating
pending_write_first = record {
  events =
      event a_write 0 0 (value 7) 1 (returned 1 6) []
      ∷ event a_read 1 0 (value 7) 2 (returned 2 3) (0 ∷ [])
      ∷ event a_write 1 0 (value 8) 0 (pending 4) []
      ∷ [];
  meets = regular ∷ monotonic_reads ∷ read_your_writes ∷ monotonic_writes ∷ [];
}

-- 7: a site writes one object, and its next read, of another, does not see that
abbrev pub unseen_own_write : Separating
unseen_own_write = record {
  events =
      event a_write 0 0 (value 7) 0 (returned 1 2) []
      ∷ event a_read 0 1 none 1 (returned 3 4) []
      ∷ [];
  meets = per_object_sequential ∷ monotonic_reads ∷ monotonic_writes ∷ writes_follow_reads ∷ slow_memory ∷ [];
}

-- 8: a site writes twice; its second write comes first in the order, and does not see the other
abbrev pub unseen_and_first : Separating
unseen_and_first = record {
  events =
      event a_write 0 0 (value 7) 1 (returned 1 2) []
      ∷ event a_write 0 0 (value 8) 0 (returned 3 4) []
      ∷ [];
  meets = monotonic_reads ∷ read_your_writes ∷ writes_follow_reads ∷ [];
}

abbrev pub separating : List Separating
separating =
    behind_the_clock ∷ unaware_writes ∷ forgotten_write ∷ second_write_first ∷ new_then_old ∷ pending_write_first ∷ unseen_own_write ∷ unseen_and_first ∷ []

-- past the last: no events, and no model in the list, so that by the table it tells nothing apart
abbrev pub no_record : Separating
no_record = record { events = []; meets = [] }

-- record k, counted from 1
unfoldable pub numbered_record : ℕ → Separating
numbered_record k = get_or separating (k - 1) no_record

-- what it says, and its bytes, as a `GCR2` of two sites
abbrev pub separating_history : ℕ → History
separating_history k = history_of_events (numbered_record k).events

unfoldable pub separating_bytes : ℕ → List ℕ
separating_bytes k = record_bytes gcr2 2 (separating_history k)

-- by the table record k meets model i, and breaks model j
abbrev pub tells : ℕ → Rel
tells k i j = member (numbered_record k).meets i && not (member (numbered_record k).meets j)

-- the first record that does, 9 where none does
unfoldable pub separator : ℕ → ℕ → ℕ
separator i j = lowest 8 (λ k. tells (k + 1) i j) + 1
