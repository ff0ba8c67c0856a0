-- A record whose bytes are as laid out is the encoding of what it says: no byte of it says anything else. Assumes nothing.
use mathlib.Core.Path.{◌≡◌, refl, sym, ap, ◌∙◌, subst}
use mathlib.Core.Bool.{Bool, true, false, cond, ◌&&◌, true≢false}
use mathlib.Core.List.{List, [], ◌∷◌, ◌++◌}
use Prim.Native.Nat.{ℕ, ◌+◌, ◌*◌, ◌-◌, ◌/◌, ◌%◌, ◌<◌, ◌≤◌}
use native.Mathlib.Omega.{arith}
use native.Mathlib.Decide.{dec_lt}
use borrow.Author.Tests.{eq-eqb}
use lib.Dec.{ltb, leb}
use lib.ListN.{length, get_or, take}
use lib.Seq.{ext_get_or, get_or-take}
use Rattle.rows.proofs.Tests.{split, and_left, and_right}
use Rattle.record.specs.Layout.{Layout, byte, count_in, sites_in, slot_at, tail_at, zeros, same}
use Rattle.record.specs.Terms.{Terms, opening_in, openings_right, terms_in}
use Rattle.record.specs.History.{History, history_of}
use Rattle.record.specs.Slots.{event_right, tail_right, slot_right}
use Rattle.record.specs.Questions.{terms_right, header_right, slots_in}
use Rattle.record.specs.LaidOut.{LaidOut}
use Rattle.record.specs.Encode.{little_bytes, slot_bytes, blocks_for, header_bytes, opening_bytes, terms_bytes, sealed, unsealed, record_bytes}
use Rattle.record.proofs.StoresLaws.{Stands, Outside, Bytes}
use Rattle.record.proofs.LayoutLaws.{same-one}
use Rattle.record.proofs.NumberBytes.{zeros-byte}
use Rattle.record.proofs.OpeningLaws.{length-terms_bytes, openings_stand}
use Rattle.record.proofs.SealLaws.{sealed-outside, sealed_again, sealed-same}
use Rattle.record.proofs.SoundLayout.{Sound}
use Rattle.record.proofs.PlaceLaws.{slot-there, by_place, by-event}
use Rattle.record.proofs.SlotLaws.{slot-below, slot_from_lem}
use Rattle.record.proofs.SlotSays.{then, byte-then, number-then, EventSays, event-says, slot_again}
use Rattle.record.proofs.ImageLaws.{slot-size, length-header, length-unsealed, length_record, header-stands, terms_stand, slot-stands, header-rest, slot_empty, tail_empty}
use Rattle.record.proofs.QuestionLaws.{length-says, terms_say, blocks_say}

-- where the same stands in two lists, they agree
stands_same : (s t : List ℕ) (at : ℕ) (l : List ℕ) → Stands s at l → Stands t at l → (p : ℕ) → at ≤ p → p < at + length l → get_or s p 0 ≡ get_or t p 0
stands_same s t at l f g p x y =
    let j : ℕ = p - at in
    let here : p ≡ at + j = omega arith in
    rw here (f j (omega arith) ∙ sym (g j (omega arith)))

-- ---- what questions 3 to 7 say

module _ (L : Layout) (s : List ℕ) (right : LaidOut L s) where
  pub laid_length : length s ≡ 512 * blocks_for L (count_in s)
  laid_length = omega (arith, length-says L s right.length, blocks_say L s right.blocks)

  pub letters_say : take 4 s ≡ L.letters
  unfolding header_right
  letters_say =
      let rest : Bool = leb (count_in s) L.events && (leb 1 (sites_in s) && (leb (sites_in s) 8 && terms_right L s)) in
      same-one (take 4 s) L.letters (and_left (same (take 4 s) L.letters) rest right.header)

  -- zeros from n on, and behind a block's slots
  slot-zero : (e j : ℕ) → e < slots_in L s → count_in s ≤ e → j < L.slot → byte s (slot_at L e + j) ≡ 0
  slot-zero e j l past k =
      let at : ℕ = slot_at L e in
      zeros-byte L.slot s at j (and_left (zeros L.slot s at) (tail_right L s e) (sym (slot_from_lem L s (count_in s) e at refl refl past) ∙ right.slots e l)) k

  tail_zero : (e j : ℕ) → e < slots_in L s → e % L.per_block ≡ L.per_block - 1 → j < 508 - L.slot * L.per_block → byte s (tail_at L e + j) ≡ 0
  unfolding slot_right tail_right
  tail_zero e j l last k =
      let at : ℕ = slot_at L e in
      let tail : tail_right L s e ≡ true = and_right (cond (ltb e (count_in s)) (event_right s at) (zeros L.slot s at)) (tail_right L s e) (right.slots e l) in
      zeros-byte (508 - L.slot * L.per_block) s (tail_at L e) j (rw (eq-eqb (e % L.per_block) (L.per_block - 1) last) at tail) k

  -- block 0 behind the sites, in an edition that has terms and in one that has none
  terms-there : L.terms ≡ true → zeros 1 s 7 && (openings_right s 12 && zeros 364 s 144) ≡ true
  unfolding terms_right
  terms-there e = rw e at (terms_say L s right.header)

  terms-lacking : L.terms ≡ false → zeros 501 s 7 ≡ true
  unfolding terms_right
  terms-lacking e = rw e at (terms_say L s right.header)

  openings_right_lem : L.terms ≡ true → openings_right s 12 ≡ true
  openings_right_lem e =
      and_left (openings_right s 12) (zeros 364 s 144) (and_right (zeros 1 s 7) (openings_right s 12 && zeros 364 s 144) (terms-there e))

  rest-zero : (p : ℕ) → 7 ≤ p → p < 508 → (L.terms ≡ true → Outside p 8 136) → byte s p ≡ 0
  rest-zero p past l apart = split L.terms there (λ e. zero-from 501 7 (terms-lacking e) past (omega arith))
    where
      zero-from : (k at : ℕ) → zeros k s at ≡ true → at ≤ p → p < at + k → byte s p ≡ 0
      zero-from k at z x y =
          let j : ℕ = p - at in
          let here : p ≡ at + j = omega arith in
          rw here (zeros-byte k s at j z (omega arith))

      there : L.terms ≡ true → byte s p ≡ 0
      there e = elim (dec_lt p 8) [
        | yes b ↦ zero-from 1 7 (and_left (zeros 1 s 7) (openings_right s 12 && zeros 364 s 144) (terms-there e)) past (omega arith)
        | no g ↦ elim (dec_lt p 144) [
          | yes b ↦ absurd (apart e (omega arith) (omega arith))
          | no f ↦ zero-from 364 144
              (and_right (openings_right s 12) (zeros 364 s 144) (and_right (zeros 1 s 7) (openings_right s 12 && zeros 364 s 144) (terms-there e))) (omega arith) (omega arith)
        ]
      ]

-- ---- what it says stands where it was read

module _ (L : Layout) (ok : Sound L) (s : List ℕ) (bytes : Bytes s) (right : LaidOut L s) where
  pub event_said : (e : ℕ) → e < count_in s → EventSays s (slot_at L e)
  event_said e l =
      let at : ℕ = slot_at L e in
      let there : e < slots_in L s = slot-there L ok (count_in s) (length s / 512) e (blocks_say L s right.blocks) l in
      event-says s at (and_left (event_right s at) (tail_right L s e) (sym (slot-below L s (count_in s) e at refl refl l) ∙ right.slots e there))

  letters_again : Stands s 0 L.letters
  letters_again j l =
      let here : 0 + j ≡ j = omega arith in
      rw here (sym (get_or-take 4 s j 0 (omega (arith, ok.letters))) ∙ ap (λ (m : List ℕ). get_or m j 0) (letters_say L s right))

  header_again : Stands s 0 (header_bytes L (count_in s) (sites_in s))
  header_again =
      then s 0 4 L.letters (little_bytes 2 (count_in s) ++ (sites_in s ∷ [])) letters_again (omega (arith, ok.letters))
      (number-then s bytes 2 4 6 (sites_in s ∷ []) (omega arith) (byte-then s 6 7 (sites_in s) [] refl (omega arith) (λ j l. absurd (omega arith))))

  pub terms_again : L.terms ≡ true → Stands s 8 (terms_bytes (terms_in L s))
  unfolding terms_bytes
  terms_again e = rw e (number-then s bytes 4 8 12 (opening_bytes (opening_in s 12)) (omega arith) (openings_stand s bytes 12 (openings_right_lem L s right e)))

  -- ---- byte for byte: first where no event's slot is, in the record of any history with the same count and terms

  module _ (h : History) (count : count_in s ≡ h.count) (terms : terms_in L s ≡ h.terms) where
    abbrev image : List ℕ
    image = record_bytes L (sites_in s) h

    header-byte : (p : ℕ) → p < 508 → byte (record_bytes L (sites_in s) h) p ≡ byte s p
    header-byte p l = elim (dec_lt p 7) [
      | yes b ↦
          stands_same image s 0 (header_bytes L h.count (sites_in s)) (header-stands L ok h (sites_in s))
          (subst (λ (n : ℕ). Stands s 0 (header_bytes L n (sites_in s))) count header_again) p (omega arith) (omega (arith, length-header L ok h (sites_in s)))
      | no g ↦ split L.terms
          (λ e. elim (dec_lt p 8) [
            | yes b ↦ empty g (λ o x y. omega arith)
            | no f ↦ elim (dec_lt p 144) [
              | yes b ↦
                  stands_same image s 8 (terms_bytes h.terms) (terms_stand L ok h (sites_in s) e)
                  (subst (λ (t : Terms). Stands s 8 (terms_bytes t)) terms (terms_again e)) p (omega arith) (omega (arith, length-terms_bytes h.terms))
              | no d ↦ empty g (λ o x y. omega arith)
            ]
          ])
          (λ e. empty g (λ o. absurd (true≢false (sym o ∙ e))))
    ]
      where
        empty : ¬ (p < 7) → (L.terms ≡ true → Outside p 8 136) → byte (record_bytes L (sites_in s) h) p ≡ byte s p
        empty g apart = header-rest L ok h (sites_in s) p (omega arith) l apart ∙ sym (rest-zero L s right p (omega arith) l apart)

    pub outside-byte : (p : ℕ) → p < length s → p % 512 < 508 → ((e : ℕ) → e < count_in s → Outside p (slot_at L e) L.slot)
        → byte (record_bytes L (sites_in s) h) p ≡ byte s p
    outside-byte p l free out = elim (dec_lt p 512) [
      | yes b ↦ header-byte p (omega arith)
      | no g ↦
          by_place L ok (length s / 512 - 1) p (omega arith) (omega (arith, length-says L s right.length)) free
          (λ e j m k here. elim (dec_lt e (count_in s)) [
            | yes b ↦ absurd (out e b (omega arith) (omega arith))
            | no past ↦ rw here (slot_empty L ok h (sites_in s) e j (omega arith) k ∙ sym (slot-zero L s right e j m (omega arith) k))
          ])
          (λ e j m last k here. rw here (tail_empty L ok h (sites_in s) e j k ∙ sym (tail_zero L s right e j m last k)))
    ]

  -- ---- and where one is

  pub slot_said : (e : ℕ) → e < count_in s → Stands s (slot_at L e) (slot_bytes L (history_of L s) e)
  slot_said e l = slot_again L s bytes e (event_said e l)

  abbrev h : History
  h = history_of L s

  unchecked : (p : ℕ) → p < length s → p % 512 < 508 → byte (record_bytes L (sites_in s) (history_of L s)) p ≡ byte s p
  unfolding history_of
  unchecked p l free =
      by-event L ok (count_in s) p (omega (arith, laid_length L s right)) free
      (λ e j m k here.
      let i : j < length (slot_bytes L h e) = omega (arith, slot-size L ok h e) in
      rw here (slot-stands L ok h (sites_in s) e m j i ∙ sym (slot_said e m j i)))
      (λ out. outside-byte h refl refl p l free out)

  pub again : record_bytes L (sites_in s) (history_of L s) ≡ s
  unfolding record_bytes history_of
  again =
      let n : ℕ = blocks_for L (count_in s) in
      let t : List ℕ = unsealed L (sites_in s) h in
      ext_get_or 0 (sealed n t) s (length_record L ok h (sites_in s) ∙ sym (laid_length L s right))
      (λ p l.
      sealed-same n t s (omega (arith, length-unsealed L ok h (sites_in s))) (omega (arith, laid_length L s right))
      (λ i m free. sym (sealed-outside n t i free) ∙ unchecked i (omega (arith, laid_length L s right)) free) p (omega (arith, length_record L ok h (sites_in s)))
      ∙ ap (λ (m : List ℕ). get_or m p 0) (sealed_again n s bytes (λ k l. right.checks k (omega (arith, laid_length L s right)))))
