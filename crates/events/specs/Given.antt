-- The words of events as the judge's code is given them, and rows of events by object and by kind. Only contracts of inner functions cite this.
use Rattle.std.specs.Prelude.{◌≡◌, true, not, List, [], ℕ, ◌+◌, ◌*◌, ◌<◌, ◌≤◌, eqb, length}
use Rattle.rows.specs.Row.{row_at, Row}
use Rattle.rows.specs.Relation.{Graph}
use Rattle.record.specs.Layout.{object_count, head_length}
use Rattle.record.specs.History.{History}
use Rattle.record.specs.Words.{is_write_in, site_in, object_in, position_in, history_from}

-- n events have positions below n, and no two have one, as question 8 asks
pub record Placed (n : ℕ) (l : List ℕ) : Type 0 where
  pub below : (e : ℕ) → e < n → position_in l e < n
  pub distinct : (d e : ℕ) → d < n → e < n → position_in l d ≡ position_in l e → d ≡ e

-- the words of n events: a head of fields each, and w of its visible set, with sites as questions 5 and 7 ask and positions as question 8 does.
-- A function that needs rows of its own has room for eight words
pub record Given (n w : ℕ) (l v : List ℕ) : Type 0 where
  pub heads : head_length * n ≤ length l
  pub narrow : w ≤ 8
  pub rows : Graph v n w
  pub sites : (e : ℕ) → e < n → site_in l e < 8
  pub placed : Placed n l

-- the fields alone
abbrev pub fields_of : List ℕ → History
fields_of l = history_from 0 0 l []

-- the rows of groups of events: one for each object, then the writes, the reads, and all events
abbrev pub writes_row : ℕ
writes_row = object_count

abbrev pub reads_row : ℕ
reads_row = object_count + 1

abbrev pub every_row : ℕ
every_row = object_count + 2

abbrev pub group_rows : ℕ
group_rows = object_count + 3

-- g has them
pub record Groups (n w : ℕ) (l g : List ℕ) : Type 0 where
  pub size : group_rows * w ≤ length g
  pub objects : (o : ℕ) → o < object_count → Row n (λ e. eqb (object_in l e) o) (row_at g w o)
  pub writes : Row n (is_write_in l) (row_at g w writes_row)
  pub reads : Row n (λ e. not (is_write_in l e)) (row_at g w reads_row)
  pub every : Row n (λ e. true) (row_at g w every_row)
