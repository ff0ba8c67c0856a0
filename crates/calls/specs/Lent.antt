-- The arrays of a store, and the store that they stand for. Only contracts of inner functions cite this.
use Rattle.std.specs.Prelude.{◌≡◌, Bool, false, not, cond, ◌&&◌, List, [], ℕ, ◌≤◌, ◌<◌, ltb, length, get_or}
use Rattle.rows.specs.Lowest.{some}
use Rattle.rows.specs.Row.{has}
use Rattle.record.specs.Layout.{most_events, row_words}
use Rattle.record.specs.Terms.{none, Terms}
use Rattle.store.specs.Store.{Cell, untouched, Site, Event, Store, fresh_site, no_event, fresh}
use Rattle.store.specs.Calls.{Call}
use Rattle.store.specs.Rules.{run}
use Rattle.calls.specs.declared.Kept.{Kept}
use Rattle.calls.specs.declared.lent.Store as kept
use Rattle.calls.specs.Mirror.{word_object, word_site, word_stamp, word_shown, cell_of}

-- the arrays: what each of eight sites knows; the events that are puts; what each event sees; the cells of each site, and its clock; the count of events; a word
-- for each event; what each site holds of each; and what each event needs
abbrev pub Lent : Type 0
Lent = kept.Store

-- row i of an array of rows
abbrev pub row_in : List (List ℕ) → ℕ → List ℕ
row_in rows i = get_or rows i []

-- with these in place of what its events see and of their words
abbrev pub with_events : Lent → List (List ℕ) → List ℕ → Lent
with_events z sees events = record {
  known = z.known;
  puts = z.puts;
  sees = sees;
  cells = z.cells;
  clocks = z.clocks;
  count = z.count;
  events = events;
  held = z.held;
  needs = z.needs;
}

-- with these in place of what is held and needed
abbrev pub with_counts : Lent → List (List ℕ) → List (List ℕ) → Lent
with_counts z held needs = record {
  known = z.known;
  puts = z.puts;
  sees = z.sees;
  cells = z.cells;
  clocks = z.clocks;
  count = z.count;
  events = z.events;
  held = held;
  needs = needs;
}

-- ---- what they stand for

-- a row of cells: those of 32 objects
abbrev pub cells_of : List ℕ → ℕ → Cell
cells_of row o = cond (ltb o 32) (cell_of (get_or row o 0)) (untouched none)

-- the cells of site s
abbrev pub cells_in : List (List ℕ) → ℕ → ℕ → Cell
cells_in cells s = cells_of (row_in cells s)

-- what site s keeps beside its cells and its known events
abbrev pub kept_in : Lent → ℕ → Kept
kept_in z s = record { clock = get_or z.clocks s 0; counts = row_in z.held s }

abbrev pub site_in : Lent → ℕ → Site
site_in z s = record {
  clock = get_or z.clocks s 0;
  held = λ i. get_or (row_in z.held s) i 0;
  known = has (row_in z.known s);
  cell = cells_in z.cells s;
}

abbrev pub event_in : Lent → ℕ → Event
event_in z e = record {
  site = word_site (get_or z.events e 0);
  is_put = has z.puts e;
  object = word_object (get_or z.events e 0);
  shown = word_shown (get_or z.events e 0);
  stamp = word_stamp (get_or z.events e 0);
  sees = has (row_in z.sees e);
  needs = λ i. get_or (row_in z.needs e) i 0;
}

-- the whole store. Sites from 8 on are as they started
unfoldable pub store_in : Terms → Lent → Store
store_in t z = record {
  count = z.count;
  event = λ e. cond (ltb e z.count) (event_in z e) no_event;
  site = λ s. cond (ltb s 8) (site_in z s) (fresh_site t);
}

-- event x is a put, and one of the first n sites lacks it
abbrev pub lacked_by_some : Lent → ℕ → ℕ → Bool
lacked_by_some z n x = has z.puts x && some n (λ s. not (has (row_in z.known s) x))

-- ---- when they stand for one

-- n rows of w numbers
pub record Rows (n w : ℕ) (rows : List (List ℕ)) : Type 0 where
  pub long : length rows ≡ n
  pub wide : (i : ℕ) → i < n → length (row_in rows i) ≡ w

pub record Sized (z : Lent) : Type 0 where
  pub known : Rows 8 row_words z.known
  pub puts : length z.puts ≡ row_words
  pub sees : Rows most_events row_words z.sees
  pub cells : Rows 8 32 z.cells
  pub clocks : length z.clocks ≡ 8
  pub events : length z.events ≡ most_events
  pub held : Rows 8 8 z.held
  pub needs : Rows most_events 8 z.needs

-- from the count of events on nothing is told of any
pub record Clear (z : Lent) : Type 0 where
  pub puts : (e : ℕ) → z.count ≤ e → has z.puts e ≡ false
  pub events : (e : ℕ) → z.count ≤ e → get_or z.events e 0 ≡ 0
  pub sees : (e i : ℕ) → z.count ≤ e → get_or (row_in z.sees e) i 0 ≡ 0
  pub needs : (e i : ℕ) → z.count ≤ e → get_or (row_in z.needs e) i 0 ≡ 0

-- the arrays stand for the store that some calls leave at n sites, from these terms
pub record Stands (n : ℕ) (t : Terms) (z : Lent) : Type 0 where
  pub sized : Sized z
  pub clear : Clear z
  pub calls : List Call
  pub store : store_in t z ≡ run n (fresh t) calls

-- from some terms
pub record Stand (n : ℕ) (z : Lent) : Type 0 where
  pub terms : Terms
  pub stands : Stands n terms z
