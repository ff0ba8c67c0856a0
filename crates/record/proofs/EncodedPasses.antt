-- The record of a well_formed history passes every check, and says what the history says. Assumes nothing.
use mathlib.Core.Path.{◌≡◌, refl, sym, ap, ap₂, ◌∙◌}
use mathlib.Core.Bool.{Bool, true, false, not, cond, ◌&&◌, ◌||◌, true≢false}
use mathlib.Core.List.{List, [], ◌∷◌, ◌++◌}
use Prim.Native.Nat.{ℕ, ◌+◌, ◌*◌, ◌-◌, ◌/◌, ◌%◌, ◌<◌, ◌≤◌}
use native.Mathlib.Omega.{arith}
use native.Mathlib.Decide.{dec_lt}
use lib.Dec.{eqb, ltb, leb}
use lib.ListN.{length, get_or, take}
use lib.Seq.{ext_get_or, get_or-take, length-take-le}
use borrow.Author.Tests.{eq-eqb, ne_eqb, eqb-true, lt-ltb, le-ltb, le-leb, lt-leb, leb-true}
use Rattle.std.specs.Prelude.{Ok, Err}
use Rattle.rows.specs.Octets.{little, has_byte}
use Rattle.rows.specs.Relation.{Rel}
use Rattle.rows.proofs.Tests.{split, tell, never, and_both, and_left, and_right, or_elim, or_right}
use Rattle.rows.proofs.LowestLaws.{none-some}
use Rattle.rows.proofs.ReachLaws.{reaches_same}
use Rattle.record.specs.declared.Refusal.TheVariants.{WrongLength, WrongCheck, WrongHeader, WrongBlocks, WrongSlot, WrongPosition, WrongSet, OnRing}
use Rattle.record.specs.Layout.{Layout, EditionName, GCR2, edition, gcr2, edition_of, byte, count_in, sites_in, slot_at, tail_at, zeros, same, longest_record}
use Rattle.record.specs.Terms.{none, opening_in, openings_right, terms_in, SameTerms}
use Rattle.record.specs.Blocks.{block_right}
use Rattle.record.specs.History.{History, history_of, vis, Agree}
use Rattle.record.specs.Slots.{event_right, tail_right, slot_right}
use Rattle.record.specs.Questions.{Reading, length_right, terms_right, header_right, blocks_right, slots_in, wrong_position, wrong_set, on_ring, and_then, byte_questions, after_length, set_questions, questions}
use Rattle.record.specs.Encode.{little_bytes, blocks_for, record_bytes}
use Rattle.record.specs.WellFormed.{WellFormed}
use Rattle.record.proofs.AskLaws.{ask_yes, each_yes}
use Rattle.record.proofs.StoresLaws.{Stands, stands_head, stands-front, stands-back, Bytes}
use Rattle.record.proofs.NumberBytes.{length-little, little-stands, zeros_stand, bit_is}
use Rattle.record.proofs.OpeningLaws.{difference-back, opening-back, openings_pass}
use Rattle.record.proofs.LayoutLaws.{letters-name}
use Rattle.record.proofs.SoundLayout.{Sound, edition-sound, gcr2-sound, blocks-most}
use Rattle.record.proofs.SlotImage.{Laid, slot_laid, event_laid}
use Rattle.record.proofs.ImageLaws.{length_record, record_right, header-stands, terms_stand, openings_stand, slot-stands, header-rest, slot_empty, tail_empty, bytes_record}

same_list : (l : List ℕ) → same l l ≡ true
unfolding same
same_list [] = refl
same_list (x ∷ l) = and_both (eqb x x) (same l l) (eq-eqb x x refl) (same_list l)

module _ (L : Layout) (ok : Sound L) (sites : ℕ) (h : History) (good : WellFormed L sites h) where
  abbrev s : List ℕ
  s = record_bytes L sites h

  abbrev n : ℕ
  n = h.count

  -- ---- what block 0 says

  after_letters : Stands (record_bytes L sites h) 4 (little_bytes 2 h.count ++ (sites ∷ []))
  after_letters = stands-back s 0 L.letters (little_bytes 2 n ++ (sites ∷ [])) 4 ok.letters (header-stands L ok h sites)

  pub count-back : count_in (record_bytes L sites h) ≡ h.count
  count-back = little-stands 2 n s 4 (omega (arith, good.count, ok.counted)) (stands-front s 4 (little_bytes 2 n) (sites ∷ []) after_letters)

  pub sites-back : sites_in (record_bytes L sites h) ≡ sites
  sites-back = stands_head s 6 sites [] (stands-back s 4 (little_bytes 2 n) (sites ∷ []) 2 (length-little 2 n) after_letters)

  letters-back : take 4 (record_bytes L sites h) ≡ L.letters
  letters-back =
      let long : length (take 4 s) ≡ 4 = length-take-le 4 s (omega (arith, length_record L ok h sites)) in
      ext_get_or 0 (take 4 s) L.letters (omega (arith, ok.letters))
      (λ i l. get_or-take 4 s i 0 (omega arith) ∙ first i (omega (arith, ok.letters)))
    where
      first : (i : ℕ) → i < length L.letters → get_or (record_bytes L sites h) i 0 ≡ get_or L.letters i 0
      first i l =
          let here : i ≡ 0 + i = omega arith in
          ap (λ (p : ℕ). byte (record_bytes L sites h) p) here
          ∙ stands-front (record_bytes L sites h) 0 L.letters (little_bytes 2 h.count ++ (sites ∷ [])) (header-stands L ok h sites) i l

  -- ---- what the slots say

  laid : (e : ℕ) → e < h.count → Laid L.row (record_bytes L sites h) (slot_at L e) h e
  laid e l =
      slot_laid L h e s (slot_at L e) (slot-stands L ok h sites e l) sites (good.event e l)
      (omega (arith, good.position e l, good.count, ok.counted))

  sees_back : (e b : ℕ) → e < h.count → b < 64 * L.row → (history_of L (record_bytes L sites h)).sees e b ≡ h.sees e b
  unfolding history_of
  sees_back e b l m = ap (λ (t : Bool). t && has_byte s (slot_at L e + 32) b) (lt-ltb b (64 * L.row) m) ∙ (laid e l).sees b m

  -- ---- what block 0 says of terms

  terms-back : SameTerms h.terms (terms_in L (record_bytes L sites h))
  terms-back = record {
    difference =
        split L.terms
        (λ e. sym (ap (λ (b : Bool). cond b (little 4 s 8) 0) e ∙ difference-back h.terms s (terms_stand L ok h sites e) good.terms.difference))
        (λ e. good.terms.even e ∙ sym (ap (λ (b : Bool). cond b (little 4 s 8) 0) e));
    opening = λ o.
        split L.terms
        (λ e.
        sym (ap (λ (b : Bool). cond b (opening_in s 12 o) none) e
        ∙ opening-back h.terms.opening s 12 good.terms.value (openings_stand L ok h sites e) good.terms.above o))
        (λ e. good.terms.lacking e o ∙ sym (ap (λ (b : Bool). cond b (opening_in s 12 o) none) e));
  }

  terms_yes : terms_right L (record_bytes L sites h) ≡ true
  unfolding terms_right
  terms_yes =
      let with : Bool = zeros 1 s 7 && (openings_right s 12 && zeros 364 s 144) in
      split L.terms
      (λ e.
      ap (λ (b : Bool). cond b with (zeros 501 s 7)) e
      ∙ (and_both (zeros 1 s 7) (openings_right s 12 && zeros 364 s 144)
      (zeros_stand 1 s 7 (λ j l. header-rest L ok h sites (7 + j) (omega arith) (omega arith) (λ o x y. omega arith)))
      (and_both (openings_right s 12) (zeros 364 s 144)
      (openings_pass h.terms.opening s 12 good.terms.value (openings_stand L ok h sites e))
      (zeros_stand 364 s 144 (λ j l. header-rest L ok h sites (144 + j) (omega arith) (omega arith) (λ o x y. omega arith))))))
      (λ e.
      ap (λ (b : Bool). cond b with (zeros 501 s 7)) e
      ∙ (zeros_stand 501 s 7 (λ j l. header-rest L ok h sites (7 + j) (omega arith) (omega arith) (λ o. absurd (true≢false (sym o ∙ e))))))

  pub encoded_agrees : Agree h (history_of L (record_bytes L sites h))
  unfolding history_of
  encoded_agrees = record {
    events = record {
      count = sym count-back;
      is_write = λ e l. sym (ap (λ (x : ℕ). eqb x 1) (laid e l).kind ∙ bit_is (h.is_write e));
      site = λ e l. sym (laid e l).site;
      object = λ e l. sym (laid e l).object;
      is_pending = λ e l. sym (ap (λ (x : ℕ). eqb x 1) (laid e l).state ∙ bit_is (h.is_pending e));
      is_present = λ e l. sym (ap (λ (x : ℕ). eqb x 1) (laid e l).present ∙ bit_is (h.is_present e));
      value = λ e l. sym (laid e l).value;
      position = λ e l. sym (laid e l).position;
      start = λ e l. sym (laid e l).start;
      return = λ e l p. sym (laid e l).return;
      sees = λ e b l m. sym (sees_back e b l (omega (arith, good.count, ok.wide)));
    };
    return = λ e l. sym (laid e l).return;
    terms = terms-back;
  }

  -- ---- questions 3 to 6

  pub length_most : length (record_bytes L sites h) ≤ longest_record
  length_most = omega (arith, length_record L ok h sites, blocks-most L ok n good.count)

  length_yes : length_right (record_bytes L sites h) ≡ true
  unfolding length_right
  length_yes =
      and_both (leb 512 (length s)) (leb (length s) longest_record && eqb (length s % 512) 0)
      (le-leb 512 (length s) (omega (arith, length_record L ok h sites)))
      (and_both (leb (length s) longest_record) (eqb (length s % 512) 0)
      (le-leb (length s) longest_record length_most)
      (eq-eqb (length s % 512) 0 (omega (arith, length_record L ok h sites))))

  blocks-back : length (record_bytes L sites h) / 512 ≡ blocks_for L h.count
  blocks-back = omega (arith, length_record L ok h sites)

  checks_yes : (k : ℕ) → k < length (record_bytes L sites h) / 512 → not (block_right (record_bytes L sites h) k) ≡ false
  checks_yes k l = ap not (record_right L ok h sites k (omega (arith, blocks-back)))

  letters_yes : same (take 4 (record_bytes L sites h)) L.letters ≡ true
  letters_yes = ap (λ (l : List ℕ). same l L.letters) letters-back ∙ same_list L.letters

  header_yes : header_right L (record_bytes L sites h) ≡ true
  unfolding header_right
  header_yes =
      and_both (same (take 4 s) L.letters) (leb (count_in s) L.events && (leb 1 (sites_in s) && (leb (sites_in s) 8 && terms_right L s)))
      letters_yes
      (and_both (leb (count_in s) L.events) (leb 1 (sites_in s) && (leb (sites_in s) 8 && terms_right L s))
      (le-leb (count_in s) L.events (omega (arith, count-back, good.count)))
      (and_both (leb 1 (sites_in s)) (leb (sites_in s) 8 && terms_right L s)
      (le-leb 1 (sites_in s) (omega (arith, sites-back, good.least)))
      (and_both (leb (sites_in s) 8) (terms_right L s)
      (le-leb (sites_in s) 8 (omega (arith, sites-back, good.most)))
      terms_yes)))

  blocks_yes : blocks_right L (record_bytes L sites h) ≡ true
  unfolding blocks_right
  blocks_yes =
      eq-eqb (length s / 512) (1 + (count_in s + (L.per_block - 1)) / L.per_block)
      (blocks-back ∙ ap (λ (x : ℕ). 1 + (x + (L.per_block - 1)) / L.per_block) (sym count-back))

  -- ---- question 7

  tail_yes : (e : ℕ) → tail_right L (record_bytes L sites h) e ≡ true
  unfolding tail_right
  tail_yes e =
      or_right (not (eqb (e % L.per_block) (L.per_block - 1))) (zeros (508 - L.slot * L.per_block) s (tail_at L e))
      (zeros_stand (508 - L.slot * L.per_block) s (tail_at L e) (tail_empty L ok h sites e))

  slot_yes : (e : ℕ) → slot_right L (record_bytes L sites h) e ≡ true
  unfolding slot_right
  slot_yes e =
      and_both (cond (ltb e (count_in s)) (event_right s (slot_at L e)) (zeros L.slot s (slot_at L e))) (tail_right L s e)
      (elim (dec_lt e n) [
        | yes l ↦ rw (lt-ltb e (count_in s) (omega (arith, count-back)))
            (event_laid L.row sites s (slot_at L e) h e (good.event e l) (laid e l) sites-back)
        | no g ↦ rw (le-ltb e (count_in s) (omega (arith, count-back)))
            (zeros_stand L.slot s (slot_at L e) (λ j l. slot_empty L ok h sites e j (omega arith) l))
      ])
      (tail_yes e)

  -- ---- question 8, of the history: then of the record, which agrees

  position_yes : (e : ℕ) → e < h.count → wrong_position (history_of L (record_bytes L sites h)) e ≡ false
  unfolding wrong_position
  position_yes e l =
      let k : History = history_of L s in
      let at : (d : ℕ) → d < n → k.position d ≡ h.position d = λ d m. sym (encoded_agrees.events.position d m) in
      ap₂ ◌||◌
      (lt-leb k.count (k.position e) (omega (arith, at e l, good.position e l, encoded_agrees.events.count)))
      (none-some e (λ d. eqb (k.position d) (k.position e))
      (λ d m. ne_eqb (k.position d) (k.position e)
      (λ q. let z : d ≡ e = good.distinct d e (omega arith) l (sym (at d (omega arith)) ∙ q ∙ at e l) in omega arith)))

  -- ---- questions 9 and 10

  abbrev seen : Rel
  seen = vis (history_of L s)

  vis-back : (a b : ℕ) → a < 64 * L.row → b < h.count → vis (history_of L (record_bytes L sites h)) a b ≡ h.sees b a
  unfolding vis
  vis-back a b m l = sees_back b a l m

  set_yes : (e : ℕ) → e < h.count → wrong_set L.row h.count (vis (history_of L (record_bytes L sites h))) e ≡ false
  unfolding wrong_set
  set_yes e l =
      none-some (64 * L.row) (λ b. seen b e && (leb n b || eqb b e))
      (λ b m. never (seen b e && (leb n b || eqb b e)) (λ t. no_way b (sym (vis-back b e m l) ∙ and_left (seen b e) (leb n b || eqb b e) t)
      (and_right (seen b e) (leb n b || eqb b e) t)))
    where
      no_way : (b : ℕ) → h.sees e b ≡ true → leb h.count b || eqb b e ≡ true → ⊥
      no_way b sees t = or_elim (leb h.count b) (eqb b e) t
          (λ x. omega (arith, good.inside e b l sees, leb-true h.count b x))
          (λ x. tell (h.sees e e) (ap (h.sees e) (sym (eqb-true b e x)) ∙ sees) (good.not_itself e l))

  ring_yes : (e : ℕ) → e < h.count → on_ring h.count (vis (history_of L (record_bytes L sites h))) e ≡ false
  unfolding on_ring vis
  ring_yes e l =
      reaches_same n seen (vis h) (λ a b x y. vis-back a b (omega (arith, good.count, ok.wide)) y) e e l l ∙ good.ringless e l

  -- ---- all of them

  byte_questions_lem : byte_questions L (record_bytes L sites h) ≡ Ok tt
  unfolding byte_questions after_length
  byte_questions_lem =
      ask_yes (length_right s) (Err WrongLength) _ length_yes
      ∙ each_yes (length s / 512) (λ k. not (block_right s k)) WrongCheck _ checks_yes
      ∙ ask_yes (header_right L s) (Err WrongHeader) _ header_yes
      ∙ ask_yes (blocks_right L s) (Err WrongBlocks) _ blocks_yes
      ∙ each_yes (slots_in L s) (λ e. not (slot_right L s e)) WrongSlot _ (λ e l. ap not (slot_yes e))
      ∙ each_yes (count_in s) (wrong_position (history_of L s)) WrongPosition (Ok tt) (λ e l. position_yes e (omega (arith, count-back)))

  set_questions_lem : set_questions L h.count (vis (history_of L (record_bytes L sites h))) ≡ Ok tt
  unfolding set_questions
  set_questions_lem =
      each_yes n (wrong_set L.row n seen) WrongSet _ set_yes
      ∙ each_yes n (on_ring n seen) OnRing (Ok tt) ring_yes

  pub encoded_passes : questions L (record_bytes L sites h) ≡ Ok tt
  unfolding questions
  encoded_passes =
      ap (λ (r : Reading). and_then r (set_questions L (count_in s) seen)) byte_questions_lem
      ∙ ap (λ (m : ℕ). set_questions L m seen) count-back
      ∙ set_questions_lem

-- ---- the record of a well_formed history

pub record Encoded (L : Layout) (sites : ℕ) (h : History) : Type 0 where
  pub passes : questions L (record_bytes L sites h) ≡ Ok tt
  pub agrees : Agree h (history_of L (record_bytes L sites h))
  pub long : length (record_bytes L sites h) ≡ 512 * blocks_for L h.count
  pub most : length (record_bytes L sites h) ≤ longest_record
  pub site_byte : sites_in (record_bytes L sites h) ≡ sites
  pub bytes : Bytes (record_bytes L sites h)

pub encoded : (L : Layout) → Sound L → (sites : ℕ) (h : History) → WellFormed L sites h → Encoded L sites h
encoded L ok sites h good = record {
  passes = encoded_passes L ok sites h good;
  agrees = encoded_agrees L ok sites h good;
  long = length_record L ok h sites;
  most = length_most L ok sites h good;
  site_byte = sites-back L ok sites h good;
  bytes = bytes_record L ok h sites good;
}

-- its letters say of which edition it is
pub edition-back : (e : EditionName) (sites : ℕ) (h : History) → WellFormed (edition e) sites h → edition_of (record_bytes (edition e) sites h) ≡ edition e
edition-back e sites h good = letters-name e (record_bytes (edition e) sites h) (letters_yes (edition e) (edition-sound e) sites h good)

-- of a `GCR2`
pub gcr2_encoded : (sites : ℕ) (h : History) → WellFormed gcr2 sites h → Encoded gcr2 sites h
gcr2_encoded = encoded gcr2 gcr2-sound

pub gcr2-back : (sites : ℕ) (h : History) → WellFormed gcr2 sites h → edition_of (record_bytes gcr2 sites h) ≡ gcr2
gcr2-back = edition-back GCR2
