-- A record as 64-bit words: what a reader leaves in the work slice, and the events read from words.
use Rattle.std.specs.Prelude.{Bool, cond, ◌&&◌, List, [], ◌++◌, ℕ, zero, suc, ◌+◌, ◌*◌, ◌-◌, ◌/◌, ◌%◌, eqb, ltb, get_or, drop, replicate}
use Rattle.rows.specs.Octets.{words}
use Rattle.rows.specs.Row.{has, row_at}
use Rattle.record.specs.Layout.{Layout, slot_at, count_in, most_events, row_words, work_words, head_length, terms_length}
use Rattle.record.specs.Terms.{Held, none, value, Terms, bare}
use Rattle.record.specs.History.{History}

-- the rows of the first n events, one after the other
unfoldable pub rows_of : (ℕ → List ℕ) → ℕ → List ℕ
rows_of row zero = []
rows_of row (suc e) = rows_of row e ++ row e

-- w words from byte `off` of each of the first n slots
unfoldable pub slot_words : Layout → ℕ → ℕ → List ℕ → ℕ → List ℕ
slot_words L off w s n = rows_of (λ e. words w s (slot_at L e + off)) n

-- the visible set of event e as a row of the work slice: its words, and zeros behind them where the edition's sets are narrower than a row
abbrev pub set_row : Layout → List ℕ → ℕ → List ℕ
set_row L s e = words L.row s (slot_at L e + 32) ++ replicate (row_words - L.row) 0

-- those of the first n events
unfoldable pub set_rows : Layout → List ℕ → ℕ → List ℕ
set_rows L s n = rows_of (set_row L s) n

-- the visible sets, a row for each event, and zero from event n on
unfoldable pub visible_words : Layout → List ℕ → List ℕ
visible_words L s = set_rows L s (count_in s) ++ replicate (row_words * (most_events - count_in s)) 0

-- the work slice after a reading or a judgment: unchanged where a question before 3 refused, zero where one from 3 on did, else the visible sets.
-- Words past those asked for never change.
unfoldable pub work_after : Layout → ℕ → List ℕ → List ℕ → List ℕ
work_after L number s work =
    cond (eqb number 0) (visible_words L s ++ drop work_words work)
    (cond (ltb number 3) work (replicate work_words 0 ++ drop work_words work))

-- the other 32 bytes of a slot, as words: a head for each event
unfoldable pub head_words : Layout → List ℕ → List ℕ
head_words L s = slot_words L 0 head_length s (count_in s)

-- the fields of event e in its head
abbrev pub is_write_in : List ℕ → ℕ → Bool
is_write_in l e = eqb (get_or l (head_length * e) 0 % 256) 1

abbrev pub site_in : List ℕ → ℕ → ℕ
site_in l e = get_or l (head_length * e) 0 / 256 % 256

abbrev pub object_in : List ℕ → ℕ → ℕ
object_in l e = get_or l (head_length * e) 0 / 65536 % 256

abbrev pub is_pending_in : List ℕ → ℕ → Bool
is_pending_in l e = eqb (get_or l (head_length * e) 0 / 16777216 % 256) 1

abbrev pub value_in : List ℕ → ℕ → ℕ
value_in l e = get_or l (head_length * e) 0 / 4294967296

abbrev pub is_present_in : List ℕ → ℕ → Bool
is_present_in l e = eqb (get_or l (head_length * e + 1) 0 % 256) 1

abbrev pub position_in : List ℕ → ℕ → ℕ
position_in l e = get_or l (head_length * e + 1) 0 / 65536 % 65536

abbrev pub start_in : List ℕ → ℕ → ℕ
start_in l e = get_or l (head_length * e + 2) 0

abbrev pub return_in : List ℕ → ℕ → ℕ
return_in l e = get_or l (head_length * e + 3) 0

-- n events read from words: heads l, and for each event w words v of the events visible to it; they tell no terms
unfoldable pub history_from : ℕ → ℕ → List ℕ → List ℕ → History
history_from n w l v = record {
  count = n;
  is_write = is_write_in l;
  site = site_in l;
  object = object_in l;
  is_pending = is_pending_in l;
  is_present = is_present_in l;
  value = value_in l;
  position = position_in l;
  start = start_in l;
  return = return_in l;
  sees = λ e b. has (row_at v w e) b;
  terms = bare;
}

-- block 0 from byte 8 on, as words
unfoldable pub terms_words : List ℕ → List ℕ
terms_words s = words terms_length s 8

-- its terms in them: the difference is the lower half of the first; object o has an opening where bit 32 + o is set, and the values stand two in a word
-- behind that one, the even object's below
abbrev pub difference_from : List ℕ → ℕ
difference_from q = get_or q 0 0 % 4294967296

abbrev pub figure_in : List ℕ → ℕ → ℕ
figure_in q o = cond (eqb (o % 2) 0) (get_or q (1 + o / 2) 0 % 4294967296) (get_or q (1 + o / 2) 0 / 4294967296)

unfoldable pub opening_from : List ℕ → ℕ → Held
opening_from q o = cond (ltb o 32 && has q (32 + o)) (value (figure_in q o)) none

abbrev pub terms_from : List ℕ → Terms
terms_from q = record { difference = difference_from q; opening = opening_from q }
