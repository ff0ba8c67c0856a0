-- Where things stand in a record ('The record'). An edition is a value of Layout, which has the numbers by which editions may differ. Those that they share
-- stand where they are used: block 0's fields here, in Terms, Questions and Encode, the first 32 bytes of a slot in History, Slots, Words and Encode, a block's
-- check in Blocks and Encode. The house's own numbers, which hold whatever a record's edition is, and a few of the shared ones that have names stand at the end.
-- The code has all these as constants, an edition's as a value of the struct Edition; its contracts hold them to these.
use Rattle.std.specs.Prelude.{Bool, true, false, cond, ◌&&◌, List, [], ◌∷◌, ℕ, zero, suc, ◌+◌, ◌*◌, ◌-◌, ◌/◌, ◌%◌, eqb, get_or, take}
use Rattle.rows.specs.Octets.{little}
use Rattle.record.specs.declared.Edition.{Edition}

pub record Layout : Type 0 where
  -- the four letters that begin block 0
  pub letters : List ℕ
  -- bytes of a slot, and slots of a block
  pub slot : ℕ
  pub per_block : ℕ
  -- 64-bit words of a visible set
  pub row : ℕ
  -- the most events
  pub events : ℕ
  -- whether block 0 has terms: a difference of clocks, and openings
  pub terms : Bool

-- the editions that there are, by name, and each one's layout
pub data EditionName : Type 0 where
  GCR1 : EditionName
  GCR2 : EditionName
  GCR3 : EditionName

abbrev pub edition : EditionName → Layout
edition GCR1 = record { letters = 71 ∷ 67 ∷ 82 ∷ 49 ∷ []; slot = 64; per_block = 7; row = 4; events = 256; terms = false }
edition GCR2 = record { letters = 71 ∷ 67 ∷ 82 ∷ 50 ∷ []; slot = 64; per_block = 7; row = 4; events = 256; terms = true }
edition GCR3 = record { letters = 71 ∷ 67 ∷ 82 ∷ 51 ∷ []; slot = 80; per_block = 6; row = 6; events = 384; terms = true }

abbrev pub gcr1 : Layout
gcr1 = edition GCR1

abbrev pub gcr2 : Layout
gcr2 = edition GCR2

abbrev pub gcr3 : Layout
gcr3 = edition GCR3

abbrev pub byte : List ℕ → ℕ → ℕ
byte s at = get_or s at 0

-- n, the event count, and the sites, as block 0 says
abbrev pub count_in : List ℕ → ℕ
count_in s = little 2 s 4

abbrev pub sites_in : List ℕ → ℕ
sites_in s = byte s 6

-- where the slot of event e starts
abbrev pub slot_at : Layout → ℕ → ℕ
slot_at L e = 512 * (1 + e / L.per_block) + L.slot * (e % L.per_block)

-- where the slot after the one at `at` starts: behind it, or in the next block where it is its block's last
abbrev pub next_slot : Layout → ℕ → ℕ
next_slot L at = cond (eqb (at % 512) (L.slot * (L.per_block - 1))) (at + (512 - L.slot * (L.per_block - 1))) (at + L.slot)

-- where the bytes after the last slot of e's block start
abbrev pub tail_at : Layout → ℕ → ℕ
tail_at L e = 512 * (1 + e / L.per_block) + L.slot * L.per_block

-- the k bytes from `at` on are zero
unfoldable pub zeros : ℕ → List ℕ → ℕ → Bool
zeros zero s at = true
zeros (suc k) s at = eqb (byte s at) 0 && zeros k s (at + 1)

-- two lists of bytes are the same
unfoldable pub same : List ℕ → List ℕ → Bool
same [] [] = true
same [] (y ∷ m) = false
same (x ∷ l) [] = false
same (x ∷ l) (y ∷ m) = eqb x y && same l m

-- the edition that four letters name; those of none are taken for `GCR1`, and question 5 asks whether they are its own
abbrev pub named_by : List ℕ → EditionName
named_by letters = cond (same letters gcr3.letters) GCR3 (cond (same letters gcr2.letters) GCR2 GCR1)

abbrev pub edition_of : List ℕ → Layout
edition_of s = edition (named_by (take 4 s))

-- a layout as the code has it: with the bytes from the start of a block's last slot to the next block
abbrev pub numbers_of : Layout → Edition
numbers_of L = record {
  letters = L.letters;
  slot = L.slot;
  rest = 512 - L.slot * (L.per_block - 1);
  slots = L.per_block;
  row = L.row;
  events = L.events;
  terms = L.terms;
}

-- ---- the house's numbers

-- the most events of a record, of whatever edition, and the bytes of the longest
abbrev pub most_events : ℕ
most_events = 384

abbrev pub longest_record : ℕ
longest_record = 33280

-- words of 64 bits that a reader is lent: a row of so many for each event
abbrev pub row_words : ℕ
row_words = 6

abbrev pub work_words : ℕ
work_words = most_events * row_words

-- the edition in which a store leaves its record
abbrev pub store_edition : EditionName
store_edition = GCR3

abbrev pub store_layout : Layout
store_layout = edition store_edition

-- ---- numbers that all editions share

-- the objects
abbrev pub object_count : ℕ
object_count = 256

-- words of an event's fields, the first 32 bytes of its slot, and of block 0's terms
abbrev pub head_length : ℕ
head_length = 4

abbrev pub terms_length : ℕ
terms_length = 17
