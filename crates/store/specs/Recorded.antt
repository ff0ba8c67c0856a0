-- The history that a store's events make, and so its record.
use Rattle.std.specs.Prelude.{false, List, ℕ, ◌+◌, ◌*◌}
use Rattle.rows.specs.Count.{how_many}
use Rattle.record.specs.Layout.{Layout}
use Rattle.record.specs.Terms.{is_value, value_or0, Terms, bare}
use Rattle.record.specs.History.{History, under}
use Rattle.record.specs.Encode.{record_bytes}
use Rattle.store.specs.Store.{before, Event, Store}

-- ar goes by stamp, then site: how many of the first k events are before event e
unfoldable pub rank : (ℕ → Event) → ℕ → ℕ → ℕ
rank events k e = how_many k (λ i. before (events i).stamp (events i).site (events e).stamp (events e).site)

-- event k starts at 2 × k and returns at 2 × k + 1
unfoldable pub recorded : Store → History
recorded st = record {
  count = st.count;
  is_write = λ e. (st.event e).is_put;
  site = λ e. (st.event e).site;
  object = λ e. (st.event e).object;
  is_pending = λ e. false;
  is_present = λ e. is_value (st.event e).shown;
  value = λ e. value_or0 (st.event e).shown;
  position = λ e. rank st.event st.count e;
  start = λ e. 2 * e;
  return = λ e. 2 * e + 1;
  sees = λ e b. (st.event e).sees b;
  terms = bare;
}

-- its record, with the terms that it started from
unfoldable pub store_record : Layout → ℕ → Terms → Store → List ℕ
store_record L n t st = record_bytes L n (under t (recorded st))
