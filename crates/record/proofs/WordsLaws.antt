-- The events read from words are those of the record's bytes: four words hold a slot's first 32 bytes, the others its visible set. Assumes nothing.
use mathlib.Core.Path.{◌≡◌, refl, sym, ap, ap₂, ◌∙◌}
use mathlib.Core.Bool.{true}
use mathlib.Core.List.{List, [], ◌++◌, append_assoc}
use Prim.Native.Nat.{ℕ, ◌+◌, ◌*◌, ◌-◌, ◌/◌, ◌%◌, ◌^◌, ◌<◌, ◌≤◌}
use native.Mathlib.Nat.{zero-add, add-mul-div_left, div-eq_of_lt, add-mul-mod_self_left, mod-eq_of_lt}
use native.Mathlib.Omega.{arith}
use native.Mathlib.Decide.{dec_lt}
use borrow.Author.Tests.{eqb-true, eqb-false, lt-ltb, le-ltb}
use lib.Dec.{eqb}
use lib.ListN.{get_or, replicate}
use Rattle.rows.specs.Octets.{little, has_byte, words}
use Rattle.rows.specs.Row.{bit_of, has}
use Rattle.rows.specs.Relation.{related}
use Rattle.rows.proofs.Tests.{split}
use Rattle.rows.proofs.Digits.{bit_of-zero}
use Rattle.rows.proofs.ByteLaws.{little_join, little_lt, get_d_words, has_words}
use Rattle.rows.proofs.TableLaws.{get_d_row}
use Rattle.record.specs.Layout.{Layout, edition_of, count_in, slot_at, zeros, most_events, row_words, head_length, terms_length}
use Rattle.record.specs.Terms.{none, terms_in, SameTerms, opening_in}
use Rattle.record.specs.History.{history_of, under, vis, Agree}
use Rattle.record.specs.Questions.{terms_right}
use Rattle.record.specs.Words.{set_rows, visible_words, head_words, history_from, terms_words, difference_from, figure_in, opening_from, terms_from}
use Rattle.record.proofs.StoresLaws.{Bytes}
use Rattle.record.proofs.NumberBytes.{zeros-byte, little-same}
use Rattle.record.proofs.SlotWords.{row-slot_words, related-vis}
use Rattle.record.proofs.SoundLayout.{sound_of}

-- ---- parts of a little-endian number

module _ (s : List ℕ) (bytes : Bytes s) where
  little-one : (at : ℕ) → little 1 s at ≡ get_or s at 0
  unfolding little
  little-one at = omega arith

  -- its first j bytes, and those after them
  little_low : (j k at : ℕ) → little (j + k) s at % 256 ^ j ≡ little j s at
  little_low j k at =
      ap (λ (x : ℕ). x % 256 ^ j) (little_join j k s at) ∙ add-mul-mod_self_left (little j s at) (256 ^ j) (little k s (at + j)) ∙ mod-eq_of_lt (little_lt s bytes j at)

  little_high : (j k at : ℕ) → little (j + k) s at / 256 ^ j ≡ little k s (at + j)
  little_high j k at =
      let low : little j s at < 256 ^ j = little_lt s bytes j at in
      ap (λ (x : ℕ). x / 256 ^ j) (little_join j k s at) ∙ add-mul-div_left (little j s at) (little k s (at + j)) {y = 256 ^ j} (omega arith)
      ∙ ap (λ (x : ℕ). x + little k s (at + j)) (div-eq_of_lt low) ∙ zero-add (little k s (at + j))

  -- k bytes from byte j on
  little-part : (j k i at : ℕ) → little (j + (k + i)) s at / 256 ^ j % 256 ^ k ≡ little k s (at + j)
  little-part j k i at = ap (λ (x : ℕ). x % 256 ^ k) (little_high j (k + i) at) ∙ little_low k i (at + j)

  -- ---- the difference of clocks, and openings

  words-difference : difference_from (terms_words s) ≡ little 4 s 8
  unfolding terms_words
  words-difference = ap (λ (x : ℕ). x % 4294967296) (get_d_words terms_length s 8 0 (omega arith)) ∙ little_low 4 4 8

  zeros-even : zeros 501 s 7 ≡ true → little 4 s 8 ≡ 0
  unfolding little
  zeros-even z = little-same 4 s [] 8 (λ j l. let place : 8 + j ≡ 7 + (1 + j) = omega arith in rw place (zeros-byte 501 s 7 (1 + j) z (omega arith)))

  -- the word in which object o's value stands
  figure_word : (o : ℕ) → o < 32 → figure_in (words terms_length s 8) o ≡ little 4 s (12 + 4 + 4 * o)
  figure_word o l =
      let at : ℕ = 8 + 8 * (1 + o / 2) in
      let found : get_or (words terms_length s 8) (1 + o / 2) 0 ≡ little 8 s at = get_d_words terms_length s 8 (1 + o / 2) (omega arith) in
      split (eqb (o % 2) 0)
      (λ e. rw (e, found) (little_low 4 4 at ∙ ap (little 4 s) (omega (arith, eqb-true (o % 2) 0 e))))
      (λ e.
      let odd : o % 2 ≡ 0 → ⊥ = eqb-false (o % 2) 0 e in
      rw (e, found) (little_high 4 4 at ∙ ap (little 4 s) (omega arith)))

  opening-bit : (o : ℕ) → o < 32 → has (words terms_length s 8) (32 + o) ≡ has_byte s 12 o
  unfolding has_byte
  opening-bit o l = has_words s bytes terms_length 8 (32 + o) (omega arith) ∙ ap₂ (λ (p i : ℕ). bit_of (get_or s p 0) i) (omega arith) (omega arith)

  words-opening : (o : ℕ) → opening_from (terms_words s) o ≡ opening_in s 12 o
  unfolding opening_from opening_in terms_words
  words-opening o = elim (dec_lt o 32) [
    | yes l ↦ rw (lt-ltb o 32 l, opening-bit o l, figure_word o l)
    | no g ↦ rw (le-ltb o 32 (omega arith))
  ]

  zeros-none : (o : ℕ) → zeros 501 s 7 ≡ true → opening_in s 12 o ≡ none
  unfolding opening_in has_byte
  zeros-none o z = elim (dec_lt o 32) [
    | yes l ↦
        let place : 12 + o / 8 ≡ 7 + (5 + o / 8) = omega arith in
        let empty : get_or s (12 + o / 8) 0 ≡ 0 = rw place (zeros-byte 501 s 7 (5 + o / 8) z (omega arith)) in
        rw (lt-ltb o 32 l, empty, bit_of-zero)
    | no g ↦ rw (le-ltb o 32 (omega arith))
  ]

module _ (L : Layout) (s : List ℕ) (bytes : Bytes s) where
  -- ---- the first 32 bytes of a slot

  module _ (tail : List ℕ) (e : ℕ) (h : e < count_in s) where
    abbrev l : List ℕ
    l = head_words L s ++ tail

    -- word i of event e, which is word p of the list, from byte `at` of the record
    module _ (i p at : ℕ) (k : i < head_length) (q : p ≡ e * head_length + i) (here : slot_at L e + 8 * i ≡ at) where
      word : get_or (head_words L s ++ tail) p 0 ≡ little 8 s at
      unfolding head_words
      word =
          let same : slot_at L e + 0 + 8 * i ≡ at = omega arith in
          ap (λ (x : ℕ). get_or l x 0) q ∙ sym (get_d_row l head_length e i k)
          ∙ ap (λ (r : List ℕ). get_or r i 0) (row-slot_words L 0 head_length s (count_in s) e tail h)
          ∙ get_d_words head_length s (slot_at L e + 0) i k ∙ ap (little 8 s) same

      first_byte : get_or (head_words L s ++ tail) p 0 % 256 ≡ get_or s at 0
      first_byte = ap (λ (x : ℕ). x % 256) word ∙ little_low s bytes 1 7 at ∙ little-one s bytes at

      -- k bytes of it, from its byte j on
      part : (j k m : ℕ) → 8 ≡ j + (k + m) → get_or (head_words L s ++ tail) p 0 / 256 ^ j % 256 ^ k ≡ little k s (at + j)
      part j k m whole = ap (λ (x : ℕ). x / 256 ^ j % 256 ^ k) (word ∙ ap (λ (b : ℕ). little b s at) whole) ∙ little-part s bytes j k m at

      byte-part : (j m : ℕ) → 8 ≡ j + (1 + m) → get_or (head_words L s ++ tail) p 0 / 256 ^ j % 256 ≡ get_or s (at + j) 0
      byte-part j m whole = part j 1 m whole ∙ little-one s bytes (at + j)

  -- ---- the visible sets

  pub visible-vis : L.row ≤ row_words → (rest : List ℕ) (a b : ℕ) → b < count_in s → related (visible_words L s ++ rest) row_words a b ≡ vis (history_of L s) a b
  unfolding visible_words
  visible-vis narrow rest a b k =
      let sets : List ℕ = set_rows L s (count_in s) in
      let zeros : List ℕ = replicate (row_words * (most_events - count_in s)) 0 in
      ap (λ (g : List ℕ). related g row_words a b) (append_assoc sets zeros rest) ∙ related-vis L s narrow bytes (count_in s) (zeros ++ rest) a b k

  -- ---- the terms

  -- where the words are zero, the edition has none
  terms-agree : terms_right L s ≡ true → SameTerms (terms_in L s) (terms_from (terms_words s))
  unfolding terms_right
  terms-agree right = record {
    difference =
        split L.terms
        (λ e. rw e (sym (words-difference s bytes)))
        (λ e. rw e (sym (words-difference s bytes ∙ zeros-even s bytes (rw e at right))));
    opening = λ o.
        split L.terms
        (λ e. rw e (sym (words-opening s bytes o)))
        (λ e. rw e (sym (words-opening s bytes o ∙ zeros-none s bytes o (rw e at right))));
  }

  -- ---- field by field

  pub words-agree-at : L.row ≤ row_words → terms_right L s ≡ true → (tail rest : List ℕ)
      → Agree (history_of L s) (under (terms_from (terms_words s)) (history_from (count_in s) row_words (head_words L s ++ tail) (visible_words L s ++ rest)))
  unfolding history_of history_from vis
  words-agree-at narrow right tail rest = record {
    events = record {
      count = refl;
      is_write = λ e h. sym (ap (λ (x : ℕ). eqb x 1) (first_byte tail e h 0 (head_length * e) (slot_at L e) (omega arith) (omega arith) (omega arith)));
      site = λ e h. sym (byte-part tail e h 0 (head_length * e) (slot_at L e) (omega arith) (omega arith) (omega arith) 1 6 refl);
      object = λ e h. sym (byte-part tail e h 0 (head_length * e) (slot_at L e) (omega arith) (omega arith) (omega arith) 2 5 refl);
      is_pending = λ e h. sym (ap (λ (x : ℕ). eqb x 1) (byte-part tail e h 0 (head_length * e) (slot_at L e) (omega arith) (omega arith) (omega arith) 3 4 refl));
      is_present = λ e h. sym (ap (λ (x : ℕ). eqb x 1) (first_byte tail e h 1 (head_length * e + 1) (slot_at L e + 8) (omega arith) (omega arith) (omega arith)));
      value = λ e h. sym (ap (λ (x : ℕ). x / 4294967296) (word tail e h 0 (head_length * e) (slot_at L e) (omega arith) (omega arith) (omega arith)) ∙ little_high s bytes 4 4 (slot_at L e));
      position = λ e h. sym (part tail e h 1 (head_length * e + 1) (slot_at L e + 8) (omega arith) (omega arith) (omega arith) 2 2 4 refl ∙ ap (little 2 s) (omega arith));
      start = λ e h. sym (word tail e h 2 (head_length * e + 2) (slot_at L e + 16) (omega arith) (omega arith) refl);
      return = λ e h p. returned e h;
      sees = λ e b h k. sym (visible-vis narrow rest b e h);
    };
    return = returned;
    terms = terms-agree right;
  }
    where
      returned : (e : ℕ) → e < count_in s → little 8 s (slot_at L e + 24) ≡ get_or (head_words L s ++ tail) (head_length * e + 3) 0
      returned e h = sym (word tail e h 3 (head_length * e + 3) (slot_at L e + 24) (omega arith) (omega arith) refl)

-- a record's words, whatever follows them, say what it says
pub words-agree : (s : List ℕ) → Bytes s → terms_right (edition_of s) s ≡ true → (tail rest : List ℕ)
    → Agree (history_of (edition_of s) s)
    (under (terms_from (terms_words s)) (history_from (count_in s) row_words (head_words (edition_of s) s ++ tail) (visible_words (edition_of s) s ++ rest)))
words-agree s bytes = words-agree-at (edition_of s) s bytes (sound_of s).narrow
