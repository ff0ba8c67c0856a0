-- What another edition's record has of a record's own bytes: each slot cut or filled up with zeros, and the terms as they stand. Assumes nothing.
use mathlib.Core.Path.{◌≡◌, refl, sym, ap, ap₂, ◌∙◌, subst}
use mathlib.Core.Bool.{Bool, true, false, not, cond, ◌&&◌}
use mathlib.Core.List.{List, ◌∷◌, ◌++◌}
use Prim.Native.Nat.{ℕ, zero, suc, ◌+◌, ◌*◌, ◌-◌, ◌<◌, ◌≤◌, min}
use native.Mathlib.Omega.{arith}
use native.Mathlib.Decide.{dec_lt}
use borrow.Author.Tests.{eq-eqb, lt-ltb, le-ltb}
use lib.Dec.{eqb}
use lib.ListN.{length, get_or, take, drop, replicate, length-drop, length-replicate}
use lib.Seq.{sets, ext_get_or, get_or-take, get_or-drop, length-take-le}
use Rattle.rows.specs.Lowest.{some}
use Rattle.rows.specs.Octets.{little, has_byte}
use Rattle.rows.proofs.LowestLaws.{none-some}
use Rattle.rows.proofs.Tests.{same_test, and_both, not_of}
use Rattle.record.specs.Layout.{Layout, count_in, slot_at, zeros}
use Rattle.record.specs.Terms.{none, is_value, Terms, bare, opening_in, terms_in}
use Rattle.record.specs.History.{History, history_of}
use Rattle.record.specs.Converted.{says_none}
use Rattle.record.specs.LaidOut.{LaidOut}
use Rattle.record.specs.Encode.{little_bytes, bits, set_bytes, slot_bytes, blocks_for, figure_bytes, opening_bytes, terms_bytes, with_slots}
use Rattle.record.proofs.StoresLaws.{Stands, get_d_sets-outside, sets-append, sets_again, stands-front, zero-at, Bytes}
use Rattle.record.proofs.NumberBytes.{little-stands, zeros_stand, zeros-byte, set-stands}
use Rattle.record.proofs.OpeningLaws.{length-terms_bytes, opening-above}
use Rattle.record.proofs.WordBytes.{set_bytes-same, set_bytes_join}
use Rattle.record.proofs.SoundLayout.{Sound, slots_apart, slot-inside}
use Rattle.record.proofs.ImageLaws.{slot-size, slots-outside}
use Rattle.record.proofs.WrittenLaws.{slots-more}
use Rattle.record.proofs.SaidAgain.{laid_length, terms_again, slot_said}
use Rattle.record.proofs.RecordSame.{terms-one}
use Rattle.record.proofs.ConvertedLaws.{says_none_lem}

-- what stands is a part of the list
stands-part : (s : List ℕ) (at : ℕ) (l : List ℕ) (n : ℕ) → Stands s at l → length l ≡ n → at + n ≤ length s → l ≡ take n (drop at s)
stands-part s at l n st size fits =
    ext_get_or 0 l (take n (drop at s)) (size ∙ sym (length-take-le n (drop at s) (omega (arith, length-drop at s))))
    (λ j k. sym (get_or-take n (drop at s) j 0 (omega arith) ∙ get_or-drop at s j 0 ∙ st j k))

-- ---- slots

-- a set with no members
no_members : (k : ℕ) → set_bytes k (λ b. false) ≡ replicate k 0
unfolding set_bytes bits
no_members zero = refl
no_members (suc k) = ap (λ (l : List ℕ). 0 ∷ l) (no_members k)

-- a slot in an edition with wider visible sets
slot_wider : (L M : Layout) (h : History) (e : ℕ) → L.row ≤ M.row
    → slot_bytes M h e ≡ slot_bytes L h e ++ set_bytes (8 * (M.row - L.row)) (λ b. h.sees e (8 * (8 * L.row) + b))
unfolding slot_bytes little_bytes
slot_wider L M h e le =
    let more : 8 * M.row ≡ 8 * L.row + 8 * (M.row - L.row) = omega arith in
    ap (λ (l : List ℕ). take 32 (slot_bytes L h e) ++ l)
    (ap (λ (n : ℕ). set_bytes n (h.sees e)) more ∙ set_bytes_join (8 * L.row) (8 * (M.row - L.row)) (h.sees e))

module _ (L M : Layout) (from : Sound L) (to : Sound M) (s : List ℕ) (bytes : Bytes s) (right : LaidOut L s) (e : ℕ) (l : e < count_in s) where
  inside : slot_at L e + L.slot ≤ length s
  inside = omega (arith, laid_length L s right, slot-inside L from (count_in s) e l)

  past_row : (b : ℕ) → (history_of L s).sees e (8 * (8 * L.row) + b) ≡ false
  unfolding history_of
  past_row b =
      let c : ℕ = 8 * (8 * L.row) + b in
      ap (λ (t : Bool). t && has_byte s (slot_at L e + 32) c) (le-ltb c (64 * L.row) (omega arith))

  -- to one with sets as wide or wider: its bytes, and zeros
  pub slot_up : L.row ≤ M.row → slot_bytes M (history_of L s) e ≡ take L.slot (drop (slot_at L e) s) ++ replicate (M.slot - L.slot) 0
  slot_up le =
      let h : History = history_of L s in
      let k : ℕ = 8 * (M.row - L.row) in
      let size : k ≡ M.slot - L.slot = omega (arith, from.slot, to.slot) in
      slot_wider L M h e le
      ∙ ap₂ ◌++◌
      (stands-part s (slot_at L e) (slot_bytes L h e) L.slot (slot_said L from s bytes right e l) (slot-size L from h e) inside)
      (set_bytes-same k (λ b. h.sees e (8 * (8 * L.row) + b)) (λ b. false) (λ b m. past_row b) ∙ no_members k ∙ ap (λ (n : ℕ). replicate n 0) size)

  -- to one with narrower sets: the first of them
  pub slot_down : M.row ≤ L.row → slot_bytes M (history_of L s) e ≡ take M.slot (drop (slot_at L e) s)
  slot_down le =
      let h : History = history_of L s in
      let rest : List ℕ = set_bytes (8 * (L.row - M.row)) (λ b. h.sees e (8 * (8 * M.row) + b)) in
      stands-part s (slot_at L e) (slot_bytes M h e) M.slot
      (stands-front s (slot_at L e) (slot_bytes M h e) rest (rw (slot_wider M L h e le) at (slot_said L from s bytes right e l)))
      (slot-size M to h e) (omega (arith, inside, from.slot, to.slot))

-- ---- a loop over slots, which copies of each what both editions have, over zeros

module _ (L M : Layout) (from : Sound L) (to : Sound M) (s : List ℕ) (bytes : Bytes s) (right : LaidOut L s) (e : ℕ) (l : e < count_in s) where
  abbrev h : History
  h = history_of L s

  abbrev at : ℕ
  at = slot_at M e

  -- over zeros where the other edition's slot is wider
  slot_filled : (m : List ℕ) → ((j : ℕ) → j < M.slot → get_or m (slot_at M e + j) 0 ≡ 0) → L.row ≤ M.row
      → sets m (slot_at M e) (take L.slot (drop (slot_at L e) s)) ≡ sets m (slot_at M e) (slot_bytes M (history_of L s) e)
  slot_filled m blank le =
      let x : List ℕ = take L.slot (drop (slot_at L e) s) in
      let k : ℕ = M.slot - L.slot in
      let size : length x ≡ L.slot =
      length-take-le L.slot (drop (slot_at L e) s) (omega (arith, length-drop (slot_at L e) s, laid_length L s right, slot-inside L from (count_in s) e l)) in
      let zero-there : Stands (sets m at x) (at + length x) (replicate k 0) = λ j q.
      let place : at + length x + j ≡ at + (length x + j) = omega arith in
      get_d_sets-outside x m at (at + length x + j) (λ y z. omega arith)
      ∙ ap (λ (p : ℕ). get_or m p 0) place
      ∙ blank (length x + j) (omega (arith, length-replicate {A = ℕ} k 0))
      ∙ sym (zero-at k j) in
      sym (ap (sets m at) (slot_up L M from to s bytes right e l le) ∙ sym (sets-append x (replicate k 0) m at) ∙ sets_again (replicate k 0) (sets m at x) (at + length x) zero-there)

  slot-copied : (m : List ℕ) (size : ℕ) → ((j : ℕ) → j < M.slot → get_or m (slot_at M e + j) 0 ≡ 0) → size ≡ min L.slot M.slot
      → sets m (slot_at M e) (take size (drop (slot_at L e) s)) ≡ sets m (slot_at M e) (slot_bytes M (history_of L s) e)
  slot-copied m size blank least = elim (dec_lt M.row L.row) [
    | yes below ↦
        let narrow : size ≡ M.slot = omega (arith, from.slot, to.slot) in
        ap (λ (k : ℕ). sets m at (take k (drop (slot_at L e) s))) narrow ∙ ap (sets m at) (sym (slot_down L M from to s bytes right e l (omega arith)))
    | no g ↦
        let narrow : size ≡ L.slot = omega (arith, from.slot, to.slot) in
        ap (λ (k : ℕ). sets m at (take k (drop (slot_at L e) s))) narrow ∙ slot_filled m blank (omega arith)
  ]

  pub slot-more : (out m r : List ℕ) (size : ℕ) → ((p : ℕ) → 512 ≤ p → p < 512 * blocks_for M (count_in s) → get_or out p 0 ≡ 0) → size ≡ min L.slot M.slot
      → m ≡ with_slots M (history_of L s) e out → r ≡ sets m (slot_at M e) (take size (drop (slot_at L e) s)) → r ≡ with_slots M (history_of L s) (e + 1) out
  slot-more out m r size blank least before stored =
      slots-more M h out m r e before
      (stored ∙ slot-copied m size
      (λ j q.
      ap (λ (t : List ℕ). get_or t (at + j) 0) before
      ∙ slots-outside M to h e out (at + j) (λ d below. slots_apart M to e d j q (λ x. omega arith))
      ∙ blank (at + j) (omega arith) (omega (arith, slot-inside M to (count_in s) e l)))
      least)

-- ---- terms

-- none, as bytes
pub bare_bytes : terms_bytes bare ≡ replicate 136 0
unfolding terms_bytes opening_bytes little_bytes set_bytes bits figure_bytes
bare_bytes = refl

module _ (L : Layout) (s : List ℕ) where
  -- an edition that lacks terms says none
  pub terms-none : L.terms ≡ false → (history_of L s).terms ≡ bare
  unfolding history_of
  terms-none e = ap (λ (b : Bool). edit b) e
    where
      edit : Bool → Terms
      edit b = record { difference = cond b (little 4 s 8) 0; opening = λ o. cond b (opening_in s 12 o) none }

  -- one that has them has their bytes
  pub terms_moved : Sound L → Bytes s → LaidOut L s → L.terms ≡ true → terms_bytes (history_of L s).terms ≡ take 136 (drop 8 s)
  unfolding history_of
  terms_moved ok bytes right e =
      stands-part s 8 (terms_bytes (terms_in L s)) 136 (terms_again L ok s bytes right e) (length-terms_bytes (terms_in L s)) (omega (arith, laid_length L s right))

  -- which say none exactly if the difference and the bits of openings are zero bytes
  module _ (e : L.terms ≡ true) where
    zeros-from : zeros 8 s 8 ≡ true → (off k : ℕ) → off + k ≤ 8 → Stands s (8 + off) (replicate k 0)
    zeros-from z off k fits j l =
        let here : 8 + off + j ≡ 8 + (off + j) = omega arith in
        ap (λ (p : ℕ). get_or s p 0) here ∙ zeros-byte 8 s 8 (off + j) z (omega (arith, length-replicate {A = ℕ} k 0)) ∙ sym (zero-at k j)

    no_bytes : zeros 8 s 8 ≡ true → says_none (history_of L s).terms ≡ true
    unfolding history_of little_bytes opening_in
    no_bytes z =
        let f : ℕ → Bool = λ o. is_value ((terms_in L s).opening o) in
        let clear : (o : ℕ) → o < 32 → has_byte s 12 o ≡ false = λ o l.
        set-stands 4 (λ b. false) s 12 o (omega arith) (subst (Stands s 12) (sym (no_members 4)) (zeros-from z 4 4 (omega arith))) in
        and_both (eqb (terms_in L s).difference 0) (not (some 32 f))
        (eq-eqb (terms_in L s).difference 0 (rw e (little-stands 4 0 s 8 (omega arith) (zeros-from z 0 4 (omega arith)))))
        (not_of (some 32 f) (none-some 32 f (λ o l. rw (e, clear o l, lt-ltb o 32 l) refl)))

    no_terms : Sound L → Bytes s → LaidOut L s → says_none (history_of L s).terms ≡ true → zeros 8 s 8 ≡ true
    unfolding history_of
    no_terms ok bytes right t =
        let above : (o : ℕ) → 32 ≤ o → (terms_in L s).opening o ≡ none = λ o g. rw e (opening-above s 12 o g) in
        let said : ((terms_in L s).difference ≡ 0) × ((o : ℕ) → (terms_in L s).opening o ≡ none) = says_none_lem L (history_of L s) above t in
        let same : terms_in L s ≡ bare = terms-one (terms_in L s) bare (record { difference = said.0; opening = said.1 }) in
        let all : Stands s 8 (replicate 136 0) = subst (Stands s 8) (ap terms_bytes same ∙ bare_bytes) (terms_again L ok s bytes right e) in
        zeros_stand 8 s 8 (λ j l. all j (omega arith) ∙ zero-at 136 j)

    pub terms-zero : Sound L → Bytes s → LaidOut L s → zeros 8 s 8 ≡ says_none (history_of L s).terms
    terms-zero ok bytes right = same_test (zeros 8 s 8) (says_none (history_of L s).terms) no_bytes (no_terms ok bytes right)
