-- What the parts of a call ask of the arrays, and what they leave there. Only contracts of inner functions cite this.
use Rattle.std.specs.Prelude.{◌≡◌, true, List, ℕ, ◌+◌, ◌≤◌, ◌<◌, get_or, set}
use Rattle.rows.specs.Row.{insert}
use Rattle.record.specs.Layout.{most_events}
use Rattle.record.specs.Terms.{Terms}
use Rattle.store.specs.Calls.{Call, close}
use Rattle.store.specs.Rules.{with_copy, copied, close_copies, effect, done_answer, answer, after_call}
use Rattle.calls.specs.Mirror.{word_present, word_object, word_site, word_stamp}
use Rattle.calls.specs.Lent.{Lent, row_in, Sized, Clear, store_in}

-- ---- puts and gets

-- the next event, with its word, at site s: it sees what the site knows and needs what it holds, the site knows it, and its clock is raised
pub record Entered (s word : ℕ) (z z' : Lent) : Type 0 where
  pub knows : z'.known ≡ set z.known s (insert (row_in z.known s) z.count)
  pub saw : z'.sees ≡ set z.sees z.count (row_in z.known s)
  pub written : z'.events ≡ set z.events z.count word
  pub needs : z'.needs ≡ set z.needs z.count (row_in z.held s)
  pub clock : z'.clocks ≡ set z.clocks s (get_or z.clocks s 0 + 1)
  pub count : z'.count ≡ z.count + 1

-- there is room for an event at site s on object o
pub record Makable (z : Lent) (s o : ℕ) : Type 0 where
  pub sized : Sized z
  pub clear : Clear z
  pub room : z.count < most_events
  pub site : s < 8
  pub object : o ≤ 31
  pub clock : get_or z.clocks s 0 ≤ most_events
  pub held : (i : ℕ) → get_or (row_in z.held s) i 0 ≤ most_events

-- what a call came to that was not refused, at however many sites and from whatever terms
pub record Made (call : Call) (z z' : Lent) (bytes : List ℕ) : Type 0 where
  pub sized : Sized z'
  pub clear : Clear z'
  pub store : (n : ℕ) (t : Terms) → store_in t z' ≡ effect n (store_in t z) call
  pub answered : (n : ℕ) (t : Terms) → bytes ≡ done_answer n (store_in t z) call

-- ---- deliveries

-- the put w may come to site s: none of its numbers is too large, and the put in the cell there is another
pub record Copyable (z : Lent) (s w : ℕ) : Type 0 where
  pub sized : Sized z
  pub clear : Clear z
  pub site : s < 8
  pub event : w < z.count
  pub few : z.count ≤ most_events
  pub object : word_object (get_or z.events w 0) ≤ 31
  pub present : word_present (get_or z.events w 0) ≡ true
  pub stamp : 1 ≤ word_stamp (get_or z.events w 0)
  pub held : (i : ℕ) → get_or (row_in z.held s) i 0 ≤ most_events
  pub apart : (x : ℕ) → x ≡ get_or (row_in z.cells s) (word_object (get_or z.events w 0)) 0
      → word_stamp x ≡ word_stamp (get_or z.events w 0) → word_site x ≡ word_site (get_or z.events w 0) → ⊥

pub record Came (z z' : Lent) (s w : ℕ) : Type 0 where
  pub sized : Sized z'
  pub clear : Clear z'
  pub store : (t : Terms) → store_in t z' ≡ with_copy (store_in t z) w s

-- ---- whole calls

-- from z a close at n sites came to z', by so many copies
pub record Closes (n : ℕ) (t : Terms) (z z' : Lent) (copies : ℕ) : Type 0 where
  pub sized : Sized z'
  pub clear : Clear z'
  pub store : store_in t z' ≡ effect n (store_in t z) close
  pub counted : copies ≡ copied n (store_in t z) (close_copies n (store_in t z))

-- a call, refused or done
pub record Called (n : ℕ) (t : Terms) (call : Call) (z z' : Lent) (bytes : List ℕ) : Type 0 where
  pub sized : Sized z'
  pub clear : Clear z'
  pub store : store_in t z' ≡ after_call n (store_in t z) call
  pub answered : bytes ≡ answer n (store_in t z) call
