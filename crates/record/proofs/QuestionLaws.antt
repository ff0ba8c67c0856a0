-- Laws of questions 3 to 10: in order, what each answer says, and what follows from a yes. Assumes nothing.
use mathlib.Core.Path.{◌≡◌, refl}
use mathlib.Core.Logic.{◌≢◌}
use mathlib.Core.Bool.{Bool, true, false, not, cond, ◌&&◌}
use mathlib.Core.List.{List}
use Prim.Native.Nat.{ℕ, ◌+◌, ◌-◌, ◌/◌, ◌%◌, ◌<◌, ◌≤◌}
use borrow.Author.Tests.{eq-eqb, ne_eqb, eqb-true, le-leb, lt-leb, leb-true, lt-ltb, ltb-true, not-false}
use lib.Dec.{eqb, leb, ltb}
use lib.ListN.{length, take}
use Rattle.std.specs.Prelude.{Ok, Err}
use Rattle.rows.specs.Relation.{Rel}
use Rattle.rows.proofs.Tests.{and_left, and_right}
use Rattle.record.specs.declared.Refusal.TheVariants.{ShortWork, WrongLength, WrongCheck, WrongHeader, WrongBlocks, WrongSlot, WrongPosition, WrongSet, OnRing}
use Rattle.record.specs.Layout.{Layout, byte, count_in, sites_in, slot_at, zeros, same, longest_record, work_words}
use Rattle.record.specs.Blocks.{block_right}
use Rattle.record.specs.History.{history_of}
use Rattle.record.specs.Slots.{place_right, value_right, times_right, gaps_right, event_right, tail_right, slot_right}
use Rattle.record.specs.Questions.{Reading, length_right, terms_right, header_right, blocks_right, slots_in, wrong_position, wrong_set, on_ring, ask, ask_each, byte_questions, after_length, set_questions, questions, reading}
use Rattle.record.specs.Answers.{LowestWrong, ChecksRight, SlotsRight, SetsRight, RingsRight, BytesRight}
use Rattle.record.proofs.AskLaws.{ask_yes, ask_no, ask_into, each_into}

-- the blocks that there are
abbrev pub blocks_in : List ℕ → ℕ
blocks_in s = length s / 512

-- ---- what a yes says

module _ (L : Layout) (s : List ℕ) where
  pub length-says : length_right s ≡ true → (512 ≤ length s) × (length s ≤ longest_record) × (length s % 512 ≡ 0)
  unfolding length_right
  length-says t =
      let most = and_right (leb 512 (length s)) (leb (length s) longest_record && eqb (length s % 512) 0) t in (
        leb-true 512 (length s) (and_left (leb 512 (length s)) (leb (length s) longest_record && eqb (length s % 512) 0) t),
        leb-true (length s) longest_record (and_left (leb (length s) longest_record) (eqb (length s % 512) 0) most),
        eqb-true (length s % 512) 0 (and_right (leb (length s) longest_record) (eqb (length s % 512) 0) most),
      )

  pub header-says : header_right L s ≡ true → count_in s ≤ L.events
  unfolding header_right
  header-says t =
      let rest : Bool = leb 1 (sites_in s) && (leb (sites_in s) 8 && terms_right L s) in
      leb-true (count_in s) L.events (and_left (leb (count_in s) L.events) rest (and_right (same (take 4 s) L.letters) (leb (count_in s) L.events && rest) t))

  pub sites_say : header_right L s ≡ true → sites_in s ≤ 8
  unfolding header_right
  sites_say t =
      let tail : Bool = leb (sites_in s) 8 && terms_right L s in
      let rest : Bool = leb 1 (sites_in s) && tail in
      leb-true (sites_in s) 8
      (and_left (leb (sites_in s) 8) (terms_right L s)
      (and_right (leb 1 (sites_in s)) tail
      (and_right (leb (count_in s) L.events) rest (and_right (same (take 4 s) L.letters) (leb (count_in s) L.events && rest) t))))

  pub terms_say : header_right L s ≡ true → terms_right L s ≡ true
  unfolding header_right
  terms_say t =
      let tail : Bool = leb (sites_in s) 8 && terms_right L s in
      let rest : Bool = leb 1 (sites_in s) && tail in
      and_right (leb (sites_in s) 8) (terms_right L s)
      (and_right (leb 1 (sites_in s)) tail
      (and_right (leb (count_in s) L.events) rest (and_right (same (take 4 s) L.letters) (leb (count_in s) L.events && rest) t)))

  -- an event's site is below the site count
  pub slot-site : (e : ℕ) → e < count_in s → slot_right L s e ≡ true → byte s (slot_at L e + 1) < sites_in s
  unfolding slot_right event_right place_right
  slot-site e l t =
      let at : ℕ = slot_at L e in
      let right : event_right s at ≡ true =
      rw (lt-ltb e (count_in s) l) at (and_left (cond (ltb e (count_in s)) (event_right s at) (zeros L.slot s at)) (tail_right L s e) t) in
      let placed : place_right s at ≡ true = and_left (place_right s at) (value_right s at && (times_right s at && gaps_right s at)) right in
      ltb-true (byte s (at + 1)) (sites_in s)
      (and_left (ltb (byte s (at + 1)) (sites_in s)) (leb (byte s (at + 3)) 1)
      (and_right (leb (byte s at) 1) (ltb (byte s (at + 1)) (sites_in s) && leb (byte s (at + 3)) 1) placed))

  pub blocks_say : blocks_right L s ≡ true → blocks_in s ≡ 1 + (count_in s + (L.per_block - 1)) / L.per_block
  unfolding blocks_right
  blocks_say t = eqb-true (length s / 512) (1 + (count_in s + (L.per_block - 1)) / L.per_block) t

  -- and what code that has read n finds of question 6
  pub blocks_yes : (n : ℕ) → n ≡ count_in s → blocks_in s ≡ 1 + (n + (L.per_block - 1)) / L.per_block → blocks_right L s ≡ true
  unfolding blocks_right
  blocks_yes n q e = rw (← q) (eq-eqb (length s / 512) (1 + (n + (L.per_block - 1)) / L.per_block) e)

  pub blocks_no : (n : ℕ) → n ≡ count_in s → blocks_in s ≢ 1 + (n + (L.per_block - 1)) / L.per_block → blocks_right L s ≡ false
  unfolding blocks_right
  blocks_no n q e = rw (← q) (ne_eqb (length s / 512) (1 + (n + (L.per_block - 1)) / L.per_block) e)

-- ---- questions 3 to 8, from each on, with an answer `end` where all get a yes

module _ (L : Layout) (s : List ℕ) (end : Reading) where
  abbrev pub from_positions : Reading
  from_positions = ask_each (count_in s) (wrong_position (history_of L s)) WrongPosition end

  abbrev pub from_slots : Reading
  from_slots = ask_each (slots_in L s) (λ e. not (slot_right L s e)) WrongSlot from_positions

  abbrev pub from_blocks : Reading
  from_blocks = ask (blocks_right L s) (Err WrongBlocks) from_slots

  abbrev pub from_header : Reading
  from_header = ask (header_right L s) (Err WrongHeader) from_blocks

  abbrev pub from_checks : Reading
  from_checks = ask_each (blocks_in s) (λ k. not (block_right s k)) WrongCheck from_header

  abbrev pub from_length : Reading
  from_length = ask (length_right s) (Err WrongLength) from_checks

-- what each answer to them says; the readings at ⊥ are no answers to them
abbrev pub BytesAnswer : Layout → List ℕ → Reading → Type 0
BytesAnswer L s (Ok u) = BytesRight L s
BytesAnswer L s (Err ShortWork) = ⊥
BytesAnswer L s (Err WrongLength) = length_right s ≡ false
BytesAnswer L s (Err (WrongCheck k)) = (length_right s ≡ true) × LowestWrong (blocks_in s) (λ b. not (block_right s b)) k
BytesAnswer L s (Err WrongHeader) = (length_right s ≡ true) × ChecksRight s × (header_right L s ≡ false)
BytesAnswer L s (Err WrongBlocks) = (length_right s ≡ true) × ChecksRight s × (header_right L s ≡ true) × (blocks_right L s ≡ false)
BytesAnswer L s (Err (WrongSlot e)) =
    (length_right s ≡ true) × ChecksRight s × (header_right L s ≡ true) × (blocks_right L s ≡ true) × LowestWrong (slots_in L s) (λ d. not (slot_right L s d)) e
BytesAnswer L s (Err (WrongPosition e)) =
    (length_right s ≡ true) × ChecksRight s × (header_right L s ≡ true) × (blocks_right L s ≡ true) × SlotsRight L s
    × LowestWrong (count_in s) (wrong_position (history_of L s)) e
BytesAnswer L s (Err (WrongSet e)) = ⊥
BytesAnswer L s (Err (OnRing e)) = ⊥

module _ (L : Layout) (s : List ℕ) where
  pub bytes_asked : byte_questions L s ≡ from_length L s (Ok tt)
  unfolding byte_questions after_length
  bytes_asked = refl

  pub bytes_answered : BytesAnswer L s (byte_questions L s)
  bytes_answered =
      let P : Reading → Type 0 = BytesAnswer L s in
      rw bytes_asked
      (ask_into P (length_right s) (Err WrongLength) (from_checks L s (Ok tt)) (λ f. f) (λ three.
      each_into P (blocks_in s) (λ k. not (block_right s k)) WrongCheck (from_header L s (Ok tt)) (λ k f. (three, f)) (λ four'.
      let four : ChecksRight s = λ k h. not-false (block_right s k) (four' k h) in
      ask_into P (header_right L s) (Err WrongHeader) (from_blocks L s (Ok tt)) (λ f. (three, four, f)) (λ five.
      ask_into P (blocks_right L s) (Err WrongBlocks) (from_slots L s (Ok tt)) (λ f. (three, four, five, f)) (λ six.
      each_into P (slots_in L s) (λ e. not (slot_right L s e)) WrongSlot (from_positions L s (Ok tt)) (λ e f. (three, four, five, six, f)) (λ seven'.
      let seven : SlotsRight L s = λ e h. not-false (slot_right L s e) (seven' e h) in
      each_into P (count_in s) (wrong_position (history_of L s)) WrongPosition (Ok tt) (λ e f. (three, four, five, six, seven, f)) (λ eight.
      record { length = three; checks = four; header = five; blocks = six; slots = seven; positions = eight })))))))

-- ---- questions 9 and 10

abbrev pub SetsAnswer : Layout → ℕ → Rel → Reading → Type 0
SetsAnswer L n v (Ok u) = SetsRight L n v × RingsRight n v
SetsAnswer L n v (Err ShortWork) = ⊥
SetsAnswer L n v (Err WrongLength) = ⊥
SetsAnswer L n v (Err (WrongCheck k)) = ⊥
SetsAnswer L n v (Err WrongHeader) = ⊥
SetsAnswer L n v (Err WrongBlocks) = ⊥
SetsAnswer L n v (Err (WrongSlot e)) = ⊥
SetsAnswer L n v (Err (WrongPosition e)) = ⊥
SetsAnswer L n v (Err (WrongSet e)) = LowestWrong n (wrong_set L.row n v) e
SetsAnswer L n v (Err (OnRing e)) = SetsRight L n v × LowestWrong n (on_ring n v) e

module _ (L : Layout) (n : ℕ) (v : Rel) where
  pub sets-answered : SetsAnswer L n v (set_questions L n v)
  unfolding set_questions
  sets-answered =
      let P : Reading → Type 0 = SetsAnswer L n v in
      each_into P n (wrong_set L.row n v) WrongSet (ask_each n (on_ring n v) OnRing (Ok tt)) (λ e f. f) (λ nine.
      each_into P n (on_ring n v) OnRing (Ok tt) (λ e f. (nine, f)) (λ ten. (nine, ten)))

-- ---- after question 1

module _ (L : Layout) (w : ℕ) (s : List ℕ) where
  pub reading-short : w < work_words → reading L w s ≡ Err ShortWork
  unfolding reading
  reading-short h = ask_no (leb work_words w) (Err ShortWork) (questions L s) (lt-leb work_words w h)

  pub reading-long : work_words ≤ w → reading L w s ≡ questions L s
  unfolding reading
  reading-long h = ask_yes (leb work_words w) (Err ShortWork) (questions L s) (le-leb work_words w h)
