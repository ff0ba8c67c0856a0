-- A record written in place, into the front of a buffer: zero bytes, block 0, slots and checks. Assumes nothing.
use mathlib.Core.Path.{◌≡◌, refl, sym, ap, ap₂, ◌∙◌}
use mathlib.Core.Bool.{true}
use mathlib.Core.List.{List, [], ◌∷◌, ◌++◌, append_assoc, append-nil}
use Prim.Native.Nat.{ℕ, zero, suc, ◌+◌, ◌*◌, ◌<◌, ◌≤◌}
use native.Mathlib.Numerals.{add-one}
use native.Mathlib.Omega.{arith}
use lib.ListN.{drop_of_length-le, length-drop, length, get_or, set, take, drop, replicate, length-replicate}
use lib.Seq.{sets, sets-eq, ext_get_or, drop-drop, take-length, length-take-le}
use Rattle.record.specs.Layout.{Layout, slot_at}
use Rattle.record.specs.Terms.{Terms, opening_in, openings_right}
use Rattle.record.specs.History.{History}
use Rattle.record.specs.Encode.{little_bytes, slot_bytes, blocks_for, header_bytes, opening_bytes, terms_bytes, with_terms, with_slots, sealed, unsealed, record_bytes}
use Rattle.rows.proofs.Tests.{split}
use Rattle.record.proofs.StoresLaws.{sets_then, sets-front, Bytes}
use Rattle.record.proofs.OpeningLaws.{length_openings, length-terms_bytes, openings_stand}
use Rattle.record.proofs.WordBytes.{little-then}
use Rattle.record.proofs.SealLaws.{sealed-front}
use Rattle.record.proofs.SoundLayout.{Sound, slot-inside}
use Rattle.record.proofs.ImageLaws.{slot-size, length-slots, length-header, length_blank, length-begun, length-unsealed}

-- block 0: the letters copied from m, the count stored, and then the sites
pub header_stored : (letters m s s₁ s₂ : List ℕ) (n sites : ℕ) → m ≡ letters → length letters ≡ 4 → 4 ≤ length s → s₁ ≡ take (length m) m ++ drop (length m) s
    → s₂ ≡ sets s₁ 4 (little_bytes 2 n) → set s₂ 6 sites ≡ sets s 0 (letters ++ (little_bytes 2 n ++ (sites ∷ [])))
header_stored letters m s s₁ s₂ n sites same long fits e f =
    let end : 0 + length letters ≡ 4 = omega arith in
    let copied : sets s 0 letters ≡ letters ++ drop 4 s = sets-eq letters s 0 (omega arith) ∙ ap (λ (k : ℕ). letters ++ drop k s) end in
    let put : s₁ ≡ letters ++ drop 4 s = e ∙ rw (same, take-length, long) in
    sets_then letters (little_bytes 2 n ++ (sites ∷ [])) s s₁ (set s₂ 6 sites) 0 4 (put ∙ sym copied)
    (little-then 2 n (sites ∷ []) s₁ s₂ (set s₂ 6 sites) 4 6 f refl refl)
    (sym end)

-- openings that were read, as bytes again
pub openings_again : (openings : List ℕ) → Bytes openings → length openings ≡ 132 → openings_right openings 0 ≡ true → opening_bytes (opening_in openings 0) ≡ openings
openings_again openings bytes long right =
    ext_get_or 0 (opening_bytes (opening_in openings 0)) openings (length_openings (opening_in openings 0) ∙ sym long)
    (λ j l.
    let here : j ≡ 0 + j = omega arith in
    sym (openings_stand openings bytes 0 right j l) ∙ ap (λ (p : ℕ). get_or openings p 0) (sym here))

-- bytes copied over as many are all of the copy
pub whole_copied : (src d : List ℕ) → length d ≡ length src → src ≡ take (length src) src ++ drop (length src) d
whole_copied src d long =
    sym (ap₂ ◌++◌ (take-length src) (drop_of_length-le d {i = length src} (omega arith)) ∙ append-nil src)

-- bytes copied over k of s from `at` on, which left d there
pub part_stored : (src s d : List ℕ) (at k : ℕ) → length src ≡ k → at + k ≤ length s → d ≡ take (length src) src ++ drop (length src) (take k (drop at s))
    → take at s ++ (d ++ drop k (drop at s)) ≡ sets s at src
part_stored src s d at k long room copied =
    let mid : List ℕ = take k (drop at s) in
    let none_left : drop (length src) mid ≡ [] = drop_of_length-le mid {i = length src} (omega (arith, length-take-le k (drop at s) (omega (arith, length-drop at s)))) in
    let e : d ≡ src = copied ∙ ap₂ ◌++◌ (take-length src) none_left ∙ append-nil src in
    let end : at + k ≡ at + length src = omega arith in
    sym (sets-eq src s at (omega arith) ∙ append_assoc (take at s) src (drop (at + length src) s)
    ∙ ap₂ (λ (l r : List ℕ). take at s ++ (l ++ r)) (sym e) (ap (λ (p : ℕ). drop p s) (sym end) ∙ sym (drop-drop k at s)))

-- the openings, copied over the 132 bytes from 12 on, which left d there
openings_stored : (openings s d : List ℕ) → Bytes openings → length openings ≡ 132 → openings_right openings 0 ≡ true → 144 ≤ length s
    → d ≡ take (length openings) openings ++ drop (length openings) (take 132 (drop 12 s))
    → take 12 s ++ (d ++ drop 132 (drop 12 s)) ≡ sets s 12 (opening_bytes (opening_in openings 0))
openings_stored openings s d bytes long right room copied =
    part_stored openings s d 12 132 long room copied ∙ ap (sets s 12) (sym (openings_again openings bytes long right))

-- behind a difference, which was stored from 8 on
pub terms_stored : (L : Layout) → L.terms ≡ true → (openings s s₁ d : List ℕ) (difference : ℕ) → Bytes openings → length openings ≡ 132 → openings_right openings 0 ≡ true → 144 ≤ length s₁
    → s₁ ≡ sets s 8 (little_bytes 4 difference) → d ≡ take (length openings) openings ++ drop (length openings) (take 132 (drop 12 s₁))
    → take 12 s₁ ++ (d ++ drop 132 (drop 12 s₁)) ≡ with_terms L (record { difference = difference; opening = opening_in openings 0 }) s
unfolding with_terms terms_bytes
terms_stored L had openings s s₁ d difference bytes long right room put copied =
    rw had
    (little-then 4 difference (opening_bytes (opening_in openings 0)) s s₁ (take 12 s₁ ++ (d ++ drop 132 (drop 12 s₁))) 8 12 put
    (openings_stored openings s₁ d bytes long right room copied) refl)

terms-front : (L : Layout) (t : Terms) (p q : List ℕ) → 144 ≤ length p → with_terms L t (p ++ q) ≡ with_terms L t p ++ q
unfolding with_terms
terms-front L t p q long =
    split L.terms
    (λ e. rw e (sets-front (terms_bytes t) p q 8 (omega (arith, length-terms_bytes t))))
    (λ e. rw e)

-- histories whose slots have the same bytes
pub slots_same : (L : Layout) (h g : History) (k : ℕ) → ((e : ℕ) → e < k → slot_bytes L h e ≡ slot_bytes L g e) → (s : List ℕ) → with_slots L h k s ≡ with_slots L g k s
unfolding with_slots
slots_same L h g zero same s = refl
slots_same L h g (suc k) same s =
    ap₂ (λ (l b : List ℕ). sets l (slot_at L k) b) (slots_same L h g k (λ e l. same e (omega arith)) s) (same k (omega arith))

module _ (L : Layout) (h : History) where
  -- slots, written by a loop
  pub slots-none : (s : List ℕ) → s ≡ with_slots L h 0 s
  unfolding with_slots
  slots-none s = refl

  pub slots-more : (s l m : List ℕ) (e : ℕ) → l ≡ with_slots L h e s → m ≡ sets l (slot_at L e) (slot_bytes L h e) → m ≡ with_slots L h (e + 1) s
  unfolding with_slots
  slots-more s l m e p q = q ∙ rw (p, add-one)

module _ (L : Layout) (ok : Sound L) (h : History) where
  -- slots in the front of a longer list
  pub with_slots-front : (k : ℕ) (p q : List ℕ) → ((e : ℕ) → e < k → slot_at L e + L.slot ≤ length p) → with_slots L h k (p ++ q) ≡ with_slots L h k p ++ q
  unfolding with_slots
  with_slots-front zero p q fits = refl
  with_slots-front (suc k) p q fits =
      ap (λ (l : List ℕ). sets l (slot_at L k) (slot_bytes L h k)) (with_slots-front k p q (λ e l. fits e (omega arith)))
      ∙ sets-front (slot_bytes L h k) (with_slots L h k p) q (slot_at L k)
      (omega (arith, slot-size L ok h k, length-slots L ok h k p, fits k (omega arith)))

  -- a buffer cleared, with block 0 and the slots written and then the checks: the record, and the rest of the buffer as it was
  pub written : (sites k : ℕ) (buffer s₁ s₂ s₃ s₄ s₅ : List ℕ) → k ≡ blocks_for L h.count → s₁ ≡ replicate (512 * k) 0 ++ drop (512 * k) buffer
      → s₂ ≡ sets s₁ 0 (header_bytes L h.count sites) → s₃ ≡ with_terms L h.terms s₂ → s₄ ≡ with_slots L h h.count s₃ → s₅ ≡ sealed k s₄
      → s₅ ≡ record_bytes L sites h ++ drop (512 * blocks_for L h.count) buffer
  unfolding record_bytes unsealed
  written sites k buffer s₁ s₂ s₃ s₄ s₅ e₀ e₁ e₂ e₃ e₄ e₅ =
      let n : ℕ = h.count in
      let b : ℕ = blocks_for L n in
      let blank : List ℕ = replicate (512 * b) 0 in
      let rest : List ℕ = drop (512 * b) buffer in
      let header : List ℕ = header_bytes L n sites in
      let begun : List ℕ = with_terms L h.terms (sets blank 0 header) in
      rw (e₅, e₄, e₃, e₂, e₁, e₀)
      (ap (λ (l : List ℕ). sealed b (with_slots L h n (with_terms L h.terms l))) (sets-front header blank rest 0 (omega (arith, length-header L ok h sites, length-replicate {A = ℕ} (512 * b) 0)))
      ∙ ap (λ (l : List ℕ). sealed b (with_slots L h n l)) (terms-front L h.terms (sets blank 0 header) rest (omega (arith, length_blank L ok h sites)))
      ∙ ap (sealed b) (with_slots-front n begun rest (λ e l. omega (arith, length-begun L ok h sites, slot-inside L ok n e l)))
      ∙ sealed-front b (with_slots L h n begun) rest (omega (arith, length-unsealed L ok h sites)))
