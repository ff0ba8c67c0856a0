-- What the laws ask of a layout, and where its slots lie: apart from each other, before the checks, inside the record. Assumes nothing.
use mathlib.Core.Path.{◌≡◌, refl, sym, ap, ap₂, ◌∙◌}
use mathlib.Core.List.{List, [], ◌∷◌}
use Prim.Native.Nat.{ℕ, suc, ◌+◌, ◌*◌, ◌-◌, ◌/◌, ◌%◌, ◌^◌, ◌<◌, ◌≤◌}
use native.Mathlib.Nat.{mul-add, div_self, mod_self, div-eq_of_lt, mod-eq_of_lt, mul-add-div_right, mul-add-mod_self_right, mod-lt, mul-suc, mul-le-mul_left, mul-le-mul_right, div-add-mod', lt-div-mul-add, div-lt_iff_lt-mul, le-div_iff_mul-le, div-mul-le_self}
use native.Mathlib.Omega.{arith}
use native.Mathlib.Decide.{dec_lt}
use borrow.Author.Tests.{eq-eqb, ne_eqb}
use lib.ListN.{length, take}
use Rattle.record.specs.declared.Edition.{Edition}
use Rattle.record.specs.Layout.{Layout, EditionName, GCR1, GCR2, GCR3, edition, gcr2, named_by, edition_of, numbers_of, slot_at, next_slot, tail_at, most_events, longest_record, row_words, store_edition, store_layout}
use Rattle.record.specs.Encode.{blocks_for}
use Rattle.record.proofs.StoresLaws.{Outside, Bytes, bytes_nil, bytes_cons}

pub record Sound (L : Layout) : Type 0 where
  pub letters : length L.letters ≡ 4
  pub letter_bytes : Bytes L.letters
  -- a slot is 32 bytes and a visible set
  pub slot : L.slot ≡ 32 + 8 * L.row
  pub some : 0 < L.per_block
  -- a block's slots end before its check
  pub room : L.slot * L.per_block ≤ 508
  -- a visible set has room for every event, and two bytes for their count
  pub wide : L.events ≤ 64 * L.row
  pub counted : L.events < 256 ^ 2
  -- the house has room: for its events, its records, and its sets as rows of the work slice
  pub few : L.events ≤ most_events
  pub longest : 512 * blocks_for L L.events ≤ longest_record
  pub narrow : L.row ≤ row_words

letters_bytes : (d : ℕ) → d < 256 → Bytes (71 ∷ 67 ∷ 82 ∷ d ∷ [])
letters_bytes d h =
    bytes_cons 71 (67 ∷ 82 ∷ d ∷ []) (omega arith)
    (bytes_cons 67 (82 ∷ d ∷ []) (omega arith) (bytes_cons 82 (d ∷ []) (omega arith) (bytes_cons d [] h bytes_nil)))

-- the editions, one by one
pub edition-sound : (e : EditionName) → Sound (edition e)
edition-sound GCR1 = record {
  letters = refl;
  letter_bytes = letters_bytes 49 (omega arith);
  slot = refl;
  some = omega arith;
  room = omega arith;
  wide = omega arith;
  counted = omega arith;
  few = omega arith;
  longest = omega arith;
  narrow = omega arith;
}
edition-sound GCR2 = record {
  letters = refl;
  letter_bytes = letters_bytes 50 (omega arith);
  slot = refl;
  some = omega arith;
  room = omega arith;
  wide = omega arith;
  counted = omega arith;
  few = omega arith;
  longest = omega arith;
  narrow = omega arith;
}
edition-sound GCR3 = record {
  letters = refl;
  letter_bytes = letters_bytes 51 (omega arith);
  slot = refl;
  some = omega arith;
  room = omega arith;
  wide = omega arith;
  counted = omega arith;
  few = omega arith;
  longest = omega arith;
  narrow = omega arith;
}

pub gcr2-sound : Sound gcr2
gcr2-sound = edition-sound GCR2

-- that of a store's records
pub store-sound : Sound store_layout
store-sound = edition-sound store_edition

-- a record's own edition
pub sound_of : (s : List ℕ) → Sound (edition_of s)
sound_of s = edition-sound (named_by (take 4 s))

module _ (L : Layout) (ok : Sound L) where
  -- slots of one block, one after the other
  slot_next : (i j : ℕ) → i < j → L.slot * i + L.slot ≤ L.slot * j
  slot_next i j h = omega (arith, mul-suc L.slot i, mul-le-mul_left {m = suc i} {n = j} L.slot h)

  pub slot_end : (e : ℕ) → L.slot * (e % L.per_block) + L.slot ≤ L.slot * L.per_block
  slot_end e = slot_next (e % L.per_block) L.per_block (mod-lt e ok.some)

  -- a slot is part of its block, and a block has few
  pub slot_small : L.slot ≤ 508
  slot_small = omega (arith, mul-le-mul_left {m = 1} {n = L.per_block} L.slot ok.some, ok.room)

  pub slots-few : L.per_block ≤ 15
  slots-few = omega (arith, mul-le-mul_right {m = 32} {n = L.slot} L.per_block (omega (arith, ok.slot)), ok.room)

  -- the last one ends where the bytes after a block's slots start
  pub last_end : L.slot * (L.per_block - 1) + L.slot ≡ L.slot * L.per_block
  last_end = let all : suc (L.per_block - 1) ≡ L.per_block = omega (arith, ok.some) in omega (arith, mul-suc L.slot (L.per_block - 1), ap (λ (k : ℕ). L.slot * k) all)

  -- a slot's place in its block
  slot_place : (e : ℕ) → slot_at L e % 512 ≡ L.slot * (e % L.per_block)
  slot_place e = omega (arith, slot_end e, ok.room)

  -- it is the last's exactly if the slot is its block's last
  pub is_last : (e : ℕ) → slot_at L e % 512 ≡ L.slot * (L.per_block - 1) → e % L.per_block ≡ L.per_block - 1
  is_last e h = elim (dec_lt (e % L.per_block) (L.per_block - 1)) [
    | yes l ↦ absurd (omega (arith, slot_place e, slot_next (e % L.per_block) (L.per_block - 1) l, ok.slot))
    | no g ↦ omega (arith, mod-lt e ok.some)
  ]

  pub not_last : (e : ℕ) → (slot_at L e % 512 ≡ L.slot * (L.per_block - 1) → ⊥) → e % L.per_block ≡ L.per_block - 1 → ⊥
  not_last e h q = h (slot_place e ∙ ap (λ (k : ℕ). L.slot * k) q)

  -- the first slot starts behind block 0
  pub slot-first : 512 ≡ slot_at L 0
  slot-first =
      let none : 0 % L.per_block ≡ 0 = mod-eq_of_lt {n = 0} {m = L.per_block} ok.some in
      omega (arith, div-eq_of_lt {n = 0} {m = L.per_block} ok.some, ap (λ (k : ℕ). L.slot * k) none)

  -- a block has room for a slot, and k blocks for their slots
  pub slot-room : (e : ℕ) → slot_at L e + L.slot ≤ 512 * (1 + e / L.per_block) + 508
  slot-room e = omega (arith, slot_end e, ok.room)

  pub slot_block : (k e : ℕ) → e < L.per_block * k → e / L.per_block < k
  slot_block k e h = (div-lt_iff_lt-mul {k = L.per_block} {x = e} {y = k} ok.some).1 (omega arith)

  -- where the slot after event e's starts, the next event's does
  pub slot-after : (e : ℕ) → next_slot L (slot_at L e) ≡ slot_at L (e + 1)
  slot-after e = elim (dec_lt (r + 1) p) [ yes l ↦ within l | no g ↦ past g ]
    where
      p : ℕ
      p = L.per_block

      q : ℕ
      q = e / p

      r : ℕ
      r = e % p

      one_on : e + 1 ≡ q * p + (r + 1)
      one_on = omega (arith, div-add-mod' e p)

      place : slot_at L e % 512 ≡ L.slot * r
      place = slot_place e

      block : (e + 1) / p ≡ q + (r + 1) / p
      block = ap (λ (x : ℕ). x / p) one_on ∙ mul-add-div_right {m = p} ok.some q (r + 1)

      rest : (e + 1) % p ≡ (r + 1) % p
      rest = ap (λ (x : ℕ). x % p) one_on ∙ mul-add-mod_self_right q p (r + 1)

      within : r + 1 < p → next_slot L (slot_at L e) ≡ slot_at L (e + 1)
      within l =
          let more = slot_next r (p - 1) (omega arith) in
          let same : (e + 1) / p ≡ q = block ∙ omega (arith, div-eq_of_lt {n = r + 1} {m = p} l) in
          let on : (e + 1) % p ≡ r + 1 = rest ∙ mod-eq_of_lt {n = r + 1} {m = p} l in
          rw (ne_eqb (slot_at L e % 512) (L.slot * (p - 1)) (λ z. omega (arith, place, more, ok.slot)), same, on)
          (omega (arith, mul-add L.slot r 1))

      past : ¬ (r + 1 < p) → next_slot L (slot_at L e) ≡ slot_at L (e + 1)
      past g =
          let last : r + 1 ≡ p = omega (arith, mod-lt e ok.some) in
          let here : r ≡ p - 1 = omega arith in
          let on : (e + 1) / p ≡ q + 1 = block ∙ ap (λ (x : ℕ). q + x / p) last ∙ ap (λ (x : ℕ). q + x) (div_self ok.some) in
          let none : (e + 1) % p ≡ 0 = rest ∙ ap (λ (x : ℕ). x % p) last ∙ mod_self p in
          let end : slot_at L e % 512 ≡ L.slot * (p - 1) = place ∙ ap (λ (x : ℕ). L.slot * x) here in
          rw (eq-eqb (slot_at L e % 512) (L.slot * (p - 1)) end, on, none) (omega (arith, place, end, slot_end e, ok.room))

  -- a loop over the slots: one more
  pub slot_step : (e at next : ℕ) → at ≡ slot_at L e → next ≡ next_slot L at → next ≡ slot_at L (e + 1)
  slot_step e at next q r = r ∙ ap (next_slot L) q ∙ slot-after e

  -- no byte of a slot is a check's
  pub slot_unchecked : (e off : ℕ) → off < L.slot → (slot_at L e + off) % 512 < 508
  slot_unchecked e off h = omega (arith, slot_end e, ok.room)

  -- nor another slot's: it would be of the same block, and of the same slot there
  pub slots_apart : (d e off : ℕ) → off < L.slot → (d ≡ e → ⊥) → Outside (slot_at L d + off) (slot_at L e) L.slot
  slots_apart d e off h ne x y =
      let p : ℕ = L.per_block in
      let block : d / p ≡ e / p = omega (arith, slot_end d, slot_end e, ok.room) in
      elim (dec_lt (d % p) (e % p)) [
        | yes l ↦ omega (arith, slot_next (d % p) (e % p) l)
        | no g ↦ elim (dec_lt (e % p) (d % p)) [
          | yes l ↦ omega (arith, slot_next (e % p) (d % p) l)
          | no k ↦
              let place : d % p ≡ e % p = omega arith in
              ne (sym (div-add-mod' d p) ∙ ap₂ (λ (b r : ℕ). b * p + r) block place ∙ div-add-mod' e p)
        ]
      ]

  pub tail_apart : (d e j : ℕ) → j < 508 - L.slot * L.per_block → Outside (tail_at L e + j) (slot_at L d) L.slot
  tail_apart d e j h x y = omega (arith, slot_end d, ok.room)

  -- an event's block is one of the record's
  pub slot-inside : (n e : ℕ) → e < n → slot_at L e + L.slot ≤ 512 * blocks_for L n
  slot-inside n e h =
      let p : ℕ = L.per_block in
      let q : ℕ = (n + (p - 1)) / p in
      let most : e < q * p = omega (arith, lt-div-mul-add {a = n + (p - 1)} {b = p} ok.some) in
      let block : e / p < q = (div-lt_iff_lt-mul {k = p} {x = e} {y = q} ok.some).1 most in
      omega (arith, slot_end e, ok.room)

  pub blocks-most : (n : ℕ) → n ≤ L.events → 512 * blocks_for L n ≤ longest_record
  blocks-most n h =
      let p : ℕ = L.per_block in
      let q : ℕ = (n + (p - 1)) / p in
      let more : q ≤ (L.events + (p - 1)) / p =
      (le-div_iff_mul-le {k = p} {x = q} {y = L.events + (p - 1)} ok.some).1 (omega (arith, div-mul-le_self (n + (p - 1)) p)) in
      omega (arith, ok.longest)

-- ---- a sound layout's numbers as the code has them, and how large they are

pub record Numbers (L : Layout) (ed : Edition) : Type 0 where
  pub slot : ed.slot ≡ L.slot
  pub rest : ed.rest ≡ 512 - L.slot * (L.per_block - 1)
  pub slots : ed.slots ≡ L.per_block
  pub row : ed.row ≡ L.row
  pub events : ed.events ≡ L.events
  pub bytes : L.slot ≡ 32 + 8 * L.row
  pub end : L.slot * (L.per_block - 1) + L.slot ≡ L.slot * L.per_block
  pub room : L.slot * L.per_block ≤ 508
  pub small : L.slot ≤ 508
  pub some : 0 < L.per_block
  pub few : L.per_block ≤ 15
  pub wide : L.events ≤ 64 * L.row
  pub most : L.events ≤ most_events
  pub narrow : L.row ≤ row_words

pub numbers : (L : Layout) → Sound L → (ed : Edition) → ed ≡ numbers_of L → Numbers L ed
numbers L ok ed same = record {
  slot = ap (λ (e : Edition). e.slot) same;
  rest = ap (λ (e : Edition). e.rest) same;
  slots = ap (λ (e : Edition). e.slots) same;
  row = ap (λ (e : Edition). e.row) same;
  events = ap (λ (e : Edition). e.events) same;
  bytes = ok.slot;
  end = last_end L ok;
  room = ok.room;
  small = slot_small L ok;
  some = ok.some;
  few = slots-few L ok;
  wide = ok.wide;
  most = ok.few;
  narrow = ok.narrow;
}

-- those of a record's edition
pub numbers_of_lem : (s : List ℕ) (ed : Edition) → ed ≡ numbers_of (edition_of s) → Numbers (edition_of s) ed
numbers_of_lem s = numbers (edition_of s) (sound_of s)

-- a loop over the slots of a record: one more
pub next_of : (s : List ℕ) (ed : Edition) → ed ≡ numbers_of (edition_of s) → (e at next : ℕ) → at ≡ slot_at (edition_of s) e
    → ((L : Layout) → ed ≡ numbers_of L → next ≡ next_slot L at) → next ≡ slot_at (edition_of s) (e + 1)
next_of s ed same e at next here found = slot_step (edition_of s) (sound_of s) e at next here (found (edition_of s) same)
