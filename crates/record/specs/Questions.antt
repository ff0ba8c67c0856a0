-- 'Questions asked of a record': 1 and 3 to 10, in order; the first no gives its number and a place.
use Rattle.std.specs.Prelude.{Bool, true, false, not, cond, ◌&&◌, ◌||◌, List, ℕ, ◌+◌, ◌*◌, ◌-◌, ◌/◌, ◌%◌, eqb, leb, length, take, ⊤, Result, Ok, Err}
use Rattle.packed.specs.Packed.{packed_refusal}
use Rattle.rows.specs.Lowest.{lowest, some}
use Rattle.rows.specs.Relation.{Rel, reaches}
use Rattle.record.specs.Layout.{Layout, count_in, sites_in, zeros, same, longest_record, work_words}
use Rattle.record.specs.Terms.{openings_right}
use Rattle.record.specs.Blocks.{block_right}
use Rattle.record.specs.History.{History, history_of, vis}
use Rattle.record.specs.Slots.{slot_right}
use Rattle.record.specs.declared.Refusal.{Refusal}
use Rattle.record.specs.declared.Refusal.TheVariants.{ShortWork, WrongLength, WrongCheck, WrongHeader, WrongBlocks, WrongSlot, WrongPosition, WrongSet, OnRing}

-- how a record was read: it passed, or the first question that got a no
abbrev pub Reading : Type 0
Reading = Result ⊤ Refusal

-- a refusal's number and its place
abbrev pub refusal_number : Refusal → ℕ
refusal_number ShortWork = 1
refusal_number WrongLength = 3
refusal_number (WrongCheck k) = 4
refusal_number WrongHeader = 5
refusal_number WrongBlocks = 6
refusal_number (WrongSlot e) = 7
refusal_number (WrongPosition e) = 8
refusal_number (WrongSet e) = 9
refusal_number (OnRing e) = 10

abbrev pub refusal_place : Refusal → ℕ
refusal_place ShortWork = 0
refusal_place WrongLength = 0
refusal_place (WrongCheck k) = k
refusal_place WrongHeader = 0
refusal_place WrongBlocks = 0
refusal_place (WrongSlot e) = e
refusal_place (WrongPosition e) = e
refusal_place (WrongSet e) = e
refusal_place (OnRing e) = e

-- a reading's number, 0 where no question got a no, and its place
abbrev pub number_of : Reading → ℕ
number_of (Ok u) = 0
number_of (Err r) = refusal_number r

abbrev pub place_of : Reading → ℕ
place_of (Ok u) = 0
place_of (Err r) = refusal_place r

-- 3: from 512 bytes to the longest record's, and a multiple of 512
unfoldable pub length_right : List ℕ → Bool
length_right s = leb 512 (length s) && (leb (length s) longest_record && eqb (length s % 512) 0)

-- the bytes of block 0 behind the sites, up to its check: where the edition has terms, any difference in 8 to 11 and openings in 12 to 143; and zeros
unfoldable pub terms_right : Layout → List ℕ → Bool
terms_right L s = cond L.terms (zeros 1 s 7 && (openings_right s 12 && zeros 364 s 144)) (zeros 501 s 7)

-- 5: block 0
unfoldable pub header_right : Layout → List ℕ → Bool
header_right L s =
    same (take 4 s) L.letters
    && (leb (count_in s) L.events && (leb 1 (sites_in s) && (leb (sites_in s) 8 && terms_right L s)))

-- 6: 1 + (n/7 rounded up) blocks where a block has seven slots, n/6 where it has six
unfoldable pub blocks_right : Layout → List ℕ → Bool
blocks_right L s = eqb (length s / 512) (1 + (count_in s + (L.per_block - 1)) / L.per_block)

-- 7 is asked of every slot there is
abbrev pub slots_in : Layout → List ℕ → ℕ
slots_in L s = L.per_block * (length s / 512 - 1)

-- 8: a position is too large, or a lower event's
unfoldable pub wrong_position : History → ℕ → Bool
wrong_position h e = leb h.count (h.position e) || some e (λ d. eqb (h.position d) (h.position e))

-- 9: a visible set, of w words, holds an event from n on, or the event itself
unfoldable pub wrong_set : ℕ → ℕ → Rel → ℕ → Bool
wrong_set w n v e = some (64 * w) (λ b. v b e && (leb n b || eqb b e))

-- 10: an event reaches itself by steps of vis
unfoldable pub on_ring : ℕ → Rel → ℕ → Bool
on_ring n v e = reaches n v e e

-- a question, what refuses where it gets a no, and what comes after a yes
abbrev pub ask : {A : Type 0} → Bool → A → A → A
ask true refusal next = next
ask false refusal next = refusal

-- one asked of each of n
abbrev pub ask_each : ℕ → (ℕ → Bool) → (ℕ → Refusal) → Reading → Reading
ask_each n wrong refusal next = ask (not (some n wrong)) (Err (refusal (lowest n wrong))) next

-- questions 4 to 8, of a record whose length is right
unfoldable pub after_length : Layout → List ℕ → Reading
after_length L s =
    ask_each (length s / 512) (λ k. not (block_right s k)) WrongCheck
    (ask (header_right L s) (Err WrongHeader)
    (ask (blocks_right L s) (Err WrongBlocks)
    (ask_each (slots_in L s) (λ e. not (slot_right L s e)) WrongSlot
    (ask_each (count_in s) (wrong_position (history_of L s)) WrongPosition (Ok tt)))))

-- and 3 before them: those which are asked of the bytes alone
unfoldable pub byte_questions : Layout → List ℕ → Reading
byte_questions L s = ask (length_right s) (Err WrongLength) (after_length L s)

-- and 9 and 10, of n events and their vis
unfoldable pub set_questions : Layout → ℕ → Rel → Reading
set_questions L n v = ask_each n (wrong_set L.row n v) WrongSet (ask_each n (on_ring n v) OnRing (Ok tt))

-- what comes after a reading that passed, and what a refusal is to another call
abbrev pub if_passed : {A : Type 0} → Reading → (Refusal → A) → A → A
if_passed (Ok u) refused next = next
if_passed (Err r) refused next = refused r

abbrev pub and_then : Reading → Reading → Reading
and_then r next = cond (eqb (number_of r) 0) next r

-- questions 3 to 10
unfoldable pub questions : Layout → List ℕ → Reading
questions L s = and_then (byte_questions L s) (set_questions L (count_in s) (vis (history_of L s)))

-- the whole reading, with a work slice of w words
unfoldable pub reading : Layout → ℕ → List ℕ → Reading
reading L w s = ask (leb work_words w) (Err ShortWork) (questions L s)

-- a reading as a host's number: 0 where it passed
unfoldable pub packed_reading : Reading → ℕ
packed_reading r = cond (eqb (number_of r) 0) 0 (packed_refusal (number_of r) (place_of r))
