-- What each answer to questions 3 to 10 says of a record, and that no other record gets it: the first question that fails, at the lowest place.
-- A ring that is named is one, and a record that passes has none. Assumes nothing.
use mathlib.Core.Path.{◌≡◌, refl, sym, ap, ◌∙◌, subst}
use mathlib.Core.Logic.{◌↔◌}
use mathlib.Core.Bool.{true, false, not}
use mathlib.Core.List.{List, ◌++◌}
use Prim.Native.Nat.{ℕ, ◌*◌, ◌-◌, ◌/◌, ◌<◌, ◌≤◌}
use native.Mathlib.Nat.{mul-le-mul_right}
use native.Mathlib.Omega.{arith}
use borrow.Author.Tests.{eq-eqb, ne_eqb}
use lib.Dec.{leb}
use lib.ListN.{length, length-append}
use Rattle.std.specs.Prelude.{Ok, Err}
use Rattle.packed.specs.Packed.{places, packed_refusal}
use Rattle.rows.specs.Row.{row_at}
use Rattle.rows.specs.Relation.{Rel, reaches, Steps, Graph, Table}
use Rattle.rows.proofs.Tests.{tell, never}
use Rattle.rows.proofs.RowLaws.{row_of}
use Rattle.rows.proofs.ReachLaws.{reaches-sound, reaches_complete, table_graph}
use Rattle.record.specs.declared.Refusal.TheVariants.{ShortWork, WrongLength, WrongCheck, WrongHeader, WrongBlocks, WrongSlot, WrongPosition, WrongSet, OnRing}
use Rattle.record.specs.Layout.{Layout, edition_of, count_in, most_events, row_words, work_words}
use Rattle.record.specs.Blocks.{block_right}
use Rattle.record.specs.History.{History, history_of, vis}
use Rattle.record.specs.Slots.{slot_right}
use Rattle.record.specs.declared.Refusal.{Refusal}
use Rattle.record.specs.Questions.{Reading, refusal_number, terms_right, number_of, place_of, length_right, header_right, blocks_right, slots_in, wrong_position, wrong_set, on_ring, ask, ask_each, and_then, byte_questions, set_questions, questions, reading, packed_reading}
use Rattle.record.specs.Answers.{LowestWrong, ChecksRight, SlotsRight, SetsRight, BytesRight, Passes, Tells}
use Rattle.record.specs.Words.{visible_words}
use Rattle.record.specs.Encode.{blocks_for}
use Rattle.record.proofs.StoresLaws.{Bytes}
use Rattle.record.proofs.WorkLaws.{length-visible}
use Rattle.record.proofs.WordsLaws.{visible-vis}
use Rattle.record.proofs.PositionLaws.{position-says, positions-distinct}
use Rattle.record.proofs.SetLaws.{set-inside}
use Rattle.record.proofs.SlotWords.{vis-within}
use Rattle.record.proofs.SoundLayout.{sound_of, slots-few}
use Rattle.record.proofs.PlaceLaws.{slot-there}
use Rattle.record.proofs.AskLaws.{ask_yes, ask_no, ask_into, each_yes, each_first, ask-then, each-then}
use Rattle.record.proofs.QuestionLaws.{blocks_in, length-says, header-says, terms_say, sites_say, slot-site, blocks_say, from_positions, from_slots, from_blocks, from_header, from_checks, from_length, BytesAnswer, bytes_asked, bytes_answered, SetsAnswer, sets-answered}

-- ---- each answer

module _ (L : Layout) (s : List ℕ) where
  abbrev pub sets : Reading
  sets = set_questions L (count_in s) (vis (history_of L s))

  pub answered : Tells L s (questions L s)
  unfolding questions
  answered = bytes (byte_questions L s) (bytes_answered L s)
    where
      all : BytesRight L s → (r : Reading) → SetsAnswer L (count_in s) (vis (history_of L s)) r → Tells L s r
      all b (Ok u) a = record { bytes = b; sets = a.0; rings = a.1 }
      all b (Err ShortWork) a = a
      all b (Err WrongLength) a = absurd a
      all b (Err (WrongCheck k)) a = absurd a
      all b (Err WrongHeader) a = absurd a
      all b (Err WrongBlocks) a = absurd a
      all b (Err (WrongSlot e)) a = absurd a
      all b (Err (WrongPosition e)) a = absurd a
      all b (Err (WrongSet e)) a = (b, a)
      all b (Err (OnRing e)) a = (b, a.0, a.1)

      bytes : (r : Reading) → BytesAnswer L s r → Tells L s (and_then r sets)
      bytes (Ok u) a = all a sets (sets-answered L (count_in s) (vis (history_of L s)))
      bytes (Err ShortWork) a = a
      bytes (Err WrongLength) a = a
      bytes (Err (WrongCheck k)) a = a
      bytes (Err WrongHeader) a = a
      bytes (Err WrongBlocks) a = a
      bytes (Err (WrongSlot e)) a = a
      bytes (Err (WrongPosition e)) a = a
      bytes (Err (WrongSet e)) a = absurd a
      bytes (Err (OnRing e)) a = absurd a

  -- ---- and no other record gets it: the questions one after the other

  in_order_lem : questions L s ≡ from_length L s sets
  unfolding questions
  in_order_lem =
      ap (λ (r : Reading). and_then r sets) (bytes_asked L s)
      ∙ ask-then (length_right s) (Err WrongLength) (from_checks L s (Ok tt)) sets refl
      ∙ ap (ask (length_right s) (Err WrongLength))
      (each-then (blocks_in s) (λ k. not (block_right s k)) WrongCheck (from_header L s (Ok tt)) sets (λ k. refl)
      ∙ ap (ask_each (blocks_in s) (λ k. not (block_right s k)) WrongCheck)
      (ask-then (header_right L s) (Err WrongHeader) (from_blocks L s (Ok tt)) sets refl
      ∙ ap (ask (header_right L s) (Err WrongHeader))
      (ask-then (blocks_right L s) (Err WrongBlocks) (from_slots L s (Ok tt)) sets refl
      ∙ ap (ask (blocks_right L s) (Err WrongBlocks))
      (each-then (slots_in L s) (λ e. not (slot_right L s e)) WrongSlot (from_positions L s (Ok tt)) sets (λ e. refl)
      ∙ ap (ask_each (slots_in L s) (λ e. not (slot_right L s e)) WrongSlot)
      (each-then (count_in s) (wrong_position (history_of L s)) WrongPosition (Ok tt) sets (λ e. refl))))))

  to-checks : length_right s ≡ true → questions L s ≡ from_checks L s sets
  to-checks three = in_order_lem ∙ ask_yes (length_right s) (Err WrongLength) (from_checks L s sets) three

  to-header : length_right s ≡ true → ChecksRight s → questions L s ≡ from_header L s sets
  to-header three four =
      to-checks three ∙ each_yes (blocks_in s) (λ k. not (block_right s k)) WrongCheck (from_header L s sets) (λ k h. ap not (four k h))

  to-blocks : length_right s ≡ true → ChecksRight s → header_right L s ≡ true → questions L s ≡ from_blocks L s sets
  to-blocks three four five = to-header three four ∙ ask_yes (header_right L s) (Err WrongHeader) (from_blocks L s sets) five

  to_slots : length_right s ≡ true → ChecksRight s → header_right L s ≡ true → blocks_right L s ≡ true → questions L s ≡ from_slots L s sets
  to_slots three four five six = to-blocks three four five ∙ ask_yes (blocks_right L s) (Err WrongBlocks) (from_slots L s sets) six

  to-positions : length_right s ≡ true → ChecksRight s → header_right L s ≡ true → blocks_right L s ≡ true → SlotsRight L s → questions L s ≡ from_positions L s sets
  to-positions three four five six seven =
      to_slots three four five six ∙ each_yes (slots_in L s) (λ e. not (slot_right L s e)) WrongSlot (from_positions L s sets) (λ e h. ap not (seven e h))

  pub to-sets : BytesRight L s → questions L s ≡ sets
  to-sets b =
      to-positions b.length b.checks b.header b.blocks b.slots
      ∙ each_yes (count_in s) (wrong_position (history_of L s)) WrongPosition sets b.positions

  to-rings : BytesRight L s → SetsRight L (count_in s) (vis (history_of L s))
      → questions L s ≡ ask_each (count_in s) (on_ring (count_in s) (vis (history_of L s))) OnRing (Ok tt)
  unfolding set_questions
  to-rings b nine =
      let n : ℕ = count_in s in
      let v : Rel = vis (history_of L s) in
      to-sets b ∙ each_yes n (wrong_set L.row n v) WrongSet (ask_each n (on_ring n v) OnRing (Ok tt)) nine

  pub answer-only : (r : Reading) → Tells L s r → questions L s ≡ r
  unfolding set_questions
  answer-only (Ok u) a =
      to-rings a.bytes a.sets ∙ each_yes (count_in s) (on_ring (count_in s) (vis (history_of L s))) OnRing (Ok tt) a.rings
  answer-only (Err ShortWork) a = absurd a
  answer-only (Err WrongLength) a = in_order_lem ∙ ask_no (length_right s) (Err WrongLength) (from_checks L s sets) a
  answer-only (Err (WrongCheck k)) a = to-checks a.0 ∙ each_first (blocks_in s) (λ b. not (block_right s b)) WrongCheck (from_header L s sets) k a.1
  answer-only (Err WrongHeader) a = to-header a.0 a.1 ∙ ask_no (header_right L s) (Err WrongHeader) (from_blocks L s sets) a.2
  answer-only (Err WrongBlocks) a = to-blocks a.0 a.1 a.2 ∙ ask_no (blocks_right L s) (Err WrongBlocks) (from_slots L s sets) a.3
  answer-only (Err (WrongSlot e)) a =
      to_slots a.0 a.1 a.2 a.3 ∙ each_first (slots_in L s) (λ d. not (slot_right L s d)) WrongSlot (from_positions L s sets) e a.4
  answer-only (Err (WrongPosition e)) a =
      to-positions a.0 a.1 a.2 a.3 a.4 ∙ each_first (count_in s) (wrong_position (history_of L s)) WrongPosition sets e a.5
  answer-only (Err (WrongSet e)) a =
      let n : ℕ = count_in s in
      let v : Rel = vis (history_of L s) in
      to-sets a.0 ∙ each_first n (wrong_set L.row n v) WrongSet (ask_each n (on_ring n v) OnRing (Ok tt)) e a.1
  answer-only (Err (OnRing e)) a = to-rings a.0 a.1 ∙ each_first (count_in s) (on_ring (count_in s) (vis (history_of L s))) OnRing (Ok tt) e a.2

  -- a question before 3 refuses none of them
  pub tells_late : (r : Refusal) → Tells L s (Err r) → 3 ≤ refusal_number r
  tells_late ShortWork a = absurd a
  tells_late WrongLength a = omega arith
  tells_late (WrongCheck k) a = omega arith
  tells_late WrongHeader a = omega arith
  tells_late WrongBlocks a = omega arith
  tells_late (WrongSlot e) a = omega arith
  tells_late (WrongPosition e) a = omega arith
  tells_late (WrongSet e) a = omega arith
  tells_late (OnRing e) a = omega arith

  -- what is known of a record with a given answer
  pub answer_of : (r : Reading) → questions L s ≡ r → Tells L s r
  answer_of r q = subst (Tells L s) q answered

-- ---- rings

-- an event is on a ring exactly if one or more steps lead from it to itself
pub ring_iff_steps : (n : ℕ) (v : Rel) (e : ℕ) → (on_ring n v e ≡ true) ↔ Steps n v e e
unfolding on_ring
ring_iff_steps n v e = (reaches-sound n v e e, reaches_complete n v)

-- e is the lowest of n events from which one or more steps of v lead back to the event
pub record LowestRing (n : ℕ) (v : Rel) (e : ℕ) : Type 0 where
  pub within : e < n
  pub ring : Steps n v e e
  pub lower : (d : ℕ) → d < e → Steps n v d d → ⊥

module _ (n : ℕ) (v : Rel) where
  no_steps : (d : ℕ) → on_ring n v d ≡ false → Steps n v d d → ⊥
  unfolding on_ring
  no_steps d f c = tell (reaches n v d d) (reaches_complete n v c) f

  first-ring : (e : ℕ) → LowestWrong n (on_ring n v) e → LowestRing n v e
  unfolding on_ring
  first-ring e f = record { within = f.within; ring = reaches-sound n v e e f.fails; lower = λ d l. no_steps d (f.lower d l) }

  ring-first : (e : ℕ) → LowestRing n v e → LowestWrong n (on_ring n v) e
  unfolding on_ring
  ring-first e f = record {
    within = f.within;
    fails = reaches_complete n v f.ring;
    lower = λ d l. never (reaches n v d d) (λ t. f.lower d l (reaches-sound n v d d t));
  }

module _ (L : Layout) (s : List ℕ) where
  -- a ring that is named is one, and the lowest
  pub named-ring : (e : ℕ) → questions L s ≡ Err (OnRing e) → LowestRing (count_in s) (vis (history_of L s)) e
  named-ring e q = first-ring (count_in s) (vis (history_of L s)) e (answer_of L s (Err (OnRing e)) q).2

  -- and one that gets to question 10 is named
  pub ring-named : (e : ℕ) → BytesRight L s → SetsRight L (count_in s) (vis (history_of L s)) → LowestRing (count_in s) (vis (history_of L s)) e → questions L s ≡ Err (OnRing e)
  ring-named e b nine r = answer-only L s (Err (OnRing e)) (b, nine, ring-first (count_in s) (vis (history_of L s)) e r)

  -- ---- a record that passes

  pub passed-right : questions L s ≡ Ok tt → Passes L s
  passed-right q = answer_of L s (Ok tt) q

-- what those who read a record use
module _ (s : List ℕ) (passed : questions (edition_of s) s ≡ Ok tt) where
  right : Passes (edition_of s) s
  right = passed-right (edition_of s) s passed

  abbrev n : ℕ
  n = count_in s

  abbrev h : History
  h = history_of (edition_of s) s

  pub passed-count : count_in s ≤ most_events
  passed-count = omega (arith, header-says (edition_of s) s right.bytes.header, (sound_of s).few)

  pub passed-terms : terms_right (edition_of s) s ≡ true
  passed-terms = terms_say (edition_of s) s right.bytes.header

  pub passed-blocks : length s ≡ 512 * blocks_for (edition_of s) (count_in s)
  passed-blocks = omega (arith, length-says (edition_of s) s right.bytes.length, blocks_say (edition_of s) s right.bytes.blocks)

  pub passed-site : (e : ℕ) → e < count_in s → (history_of (edition_of s) s).site e < 8
  unfolding history_of
  passed-site e l =
      let there : e < slots_in (edition_of s) s = slot-there (edition_of s) (sound_of s) n (length s / 512) e (blocks_say (edition_of s) s right.bytes.blocks) l in
      omega (arith, sites_say (edition_of s) s right.bytes.header, slot-site (edition_of s) s e l (right.bytes.slots e there))

  pub passed-position : (e : ℕ) → e < count_in s → (history_of (edition_of s) s).position e < count_in s
  unfolding history_of
  passed-position e l = (position-says h e (right.bytes.positions e l)).0

  pub passed-distinct : (d e : ℕ) → d < count_in s → e < count_in s → (history_of (edition_of s) s).position d ≡ (history_of (edition_of s) s).position e → d ≡ e
  unfolding history_of
  passed-distinct = positions-distinct h right.bytes.positions

  -- visible sets have events below n, and not the event itself
  pub passed-inside : (e b : ℕ) → e < count_in s → vis (history_of (edition_of s) s) b e ≡ true → (b < count_in s) × (b ≡ e → ⊥)
  passed-inside e b l t = set-inside (edition_of s).row n (vis h) e (right.sets e l) b (vis-within (edition_of s) s b e t) t

  pub passed-ringless : (e : ℕ) → e < count_in s → Steps (count_in s) (vis (history_of (edition_of s) s)) e e → ⊥
  passed-ringless e l = no_steps n (vis h) e (right.rings e l)

  -- the visible words are vis in rows, whatever follows them
  module _ (bytes : Bytes s) (rest : List ℕ) where
    pub passed-table : Table (count_in s) row_words (vis (history_of (edition_of s) s)) (visible_words (edition_of s) s ++ rest)
    passed-table b l =
        let g : List ℕ = visible_words (edition_of s) s ++ rest in
        row_of n (λ a. vis h a b) (row_at g row_words b)
        (λ x t.
        let v : vis h x b ≡ true = sym (visible-vis (edition_of s) s bytes (sound_of s).narrow rest x b l) ∙ t in
        ((passed-inside b x l v).0, v))
        (λ x k t. visible-vis (edition_of s) s bytes (sound_of s).narrow rest x b l ∙ t)

    pub passed_graph : Graph (visible_words (edition_of s) s ++ rest) (count_in s) row_words
    passed_graph =
        table_graph n row_words (vis h) (visible_words (edition_of s) s ++ rest) passed-table
        (omega (arith, length-append (visible_words (edition_of s) s) rest, length-visible (edition_of s) s (sound_of s).narrow passed-count, passed-count)) passed-count (omega arith)

-- ---- a number and a place that a host's number has room for

pub number-most : (r : Reading) → number_of r ≤ 10
number-most (Ok u) = omega arith
number-most (Err ShortWork) = omega arith
number-most (Err WrongLength) = omega arith
number-most (Err (WrongCheck k)) = omega arith
number-most (Err WrongHeader) = omega arith
number-most (Err WrongBlocks) = omega arith
number-most (Err (WrongSlot e)) = omega arith
number-most (Err (WrongPosition e)) = omega arith
number-most (Err (WrongSet e)) = omega arith
number-most (Err (OnRing e)) = omega arith

-- only a record that passes has number 0
pub number_passed : (r : Reading) → number_of r ≡ 0 → r ≡ Ok tt
number_passed (Ok u) e = refl
number_passed (Err ShortWork) e = absurd (omega arith)
number_passed (Err WrongLength) e = absurd (omega arith)
number_passed (Err (WrongCheck k)) e = absurd (omega arith)
number_passed (Err WrongHeader) e = absurd (omega arith)
number_passed (Err WrongBlocks) e = absurd (omega arith)
number_passed (Err (WrongSlot k)) e = absurd (omega arith)
number_passed (Err (WrongPosition k)) e = absurd (omega arith)
number_passed (Err (WrongSet k)) e = absurd (omega arith)
number_passed (Err (OnRing k)) e = absurd (omega arith)

pub place_small : (w : ℕ) (s : List ℕ) → place_of (reading (edition_of s) w s) < places
unfolding reading
place_small w s = ask_into (λ r. place_of r < places) (leb work_words w) (Err ShortWork) (questions (edition_of s) s) (λ t. omega arith) (λ t. small (questions (edition_of s) s) (answered (edition_of s) s))
  where
    small : (r : Reading) → Tells (edition_of s) s r → place_of r < places
    small (Ok u) a = omega arith
    small (Err ShortWork) a = omega arith
    small (Err WrongLength) a = omega arith
    small (Err (WrongCheck k)) a = omega (arith, a.1.within, length-says (edition_of s) s a.0)
    small (Err WrongHeader) a = omega arith
    small (Err WrongBlocks) a = omega arith
    small (Err (WrongSlot e)) a =
        omega (arith, a.4.within, length-says (edition_of s) s a.0, mul-le-mul_right {m = (edition_of s).per_block} {n = 15} (length s / 512 - 1) (slots-few (edition_of s) (sound_of s)))
    small (Err (WrongPosition e)) a = omega (arith, a.5.within, header-says (edition_of s) s a.2, (sound_of s).few)
    small (Err (WrongSet e)) a = omega (arith, a.1.within, header-says (edition_of s) s a.0.header, (sound_of s).few)
    small (Err (OnRing e)) a = omega (arith, a.2.within, header-says (edition_of s) s a.0.header, (sound_of s).few)

pub packed-passed : (r : Reading) → number_of r ≡ 0 → packed_reading r ≡ 0
unfolding packed_reading
packed-passed r e = rw (eq-eqb (number_of r) 0 e)

pub packed-refused : (r : Reading) → (number_of r ≡ 0 → ⊥) → packed_reading r ≡ packed_refusal (number_of r) (place_of r)
unfolding packed_reading
packed-refused r e = rw (ne_eqb (number_of r) 0 e)
