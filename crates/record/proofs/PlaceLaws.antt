-- Every byte past block 0 that is no check's is of a slot, or behind its block's slots. Assumes nothing.
use mathlib.Core.Path.{◌≡◌, ◌∙◌}
use Prim.Native.Nat.{ℕ, suc, ◌+◌, ◌*◌, ◌-◌, ◌/◌, ◌%◌, ◌<◌, ◌≤◌}
use native.Mathlib.Nat.{div-eq_of_lt, mod-eq_of_lt, mod-lt, mul-add-div_right, mul-add-mod_self_right, mul-le-mul_right, div-add-mod', lt-div-mul-add, div-lt_iff_lt-mul}
use native.Mathlib.Omega.{arith}
use native.Mathlib.Decide.{dec_lt}
use Rattle.record.specs.Layout.{Layout, slot_at, tail_at}
use Rattle.record.specs.Encode.{blocks_for}
use Rattle.record.proofs.StoresLaws.{Outside}
use Rattle.record.proofs.SoundLayout.{Sound, slots_apart, tail_apart}

module _ (L : Layout) (ok : Sound L) where
  abbrev w : ℕ
  w = L.per_block

  -- ---- slot i of block q + 1 is event q * w + i

  slot_block : (q i : ℕ) → i < L.per_block → (q * L.per_block + i) / L.per_block ≡ q
  slot_block q i l = mul-add-div_right {m = w} ok.some q i ∙ omega (arith, div-eq_of_lt {n = i} {m = w} l)

  slot-rest : (q i : ℕ) → i < L.per_block → (q * L.per_block + i) % L.per_block ≡ i
  slot-rest q i l = mul-add-mod_self_right q w i ∙ mod-eq_of_lt {n = i} {m = w} l

  slot-number : (k q i : ℕ) → q < k → i < L.per_block → q * L.per_block + i < L.per_block * k
  slot-number k q i h l = omega (arith, mul-le-mul_right {m = suc q} {n = k} w h)

  -- an event's slot is one of those in k blocks
  pub slot-there : (n k e : ℕ) → k ≡ blocks_for L n → e < n → e < L.per_block * (k - 1)
  slot-there n k e q h =
      let past : k - 1 ≡ (n + (w - 1)) / w = omega arith in
      rw past (omega (arith, lt-div-mul-add {a = n + (w - 1)} {b = w} ok.some))

  -- ---- a place, by what stands there

  pub by_place : {C : Type 0} (k p : ℕ) → 512 ≤ p → p < 512 * suc k → p % 512 < 508
      → ((e j : ℕ) → e < L.per_block * k → j < L.slot → p ≡ slot_at L e + j → C)
      → ((e j : ℕ) → e < L.per_block * k → e % L.per_block ≡ L.per_block - 1 → j < 508 - L.slot * L.per_block → p ≡ tail_at L e + j → C)
      → C
  by_place {C} k p past inside free slot tail = elim (dec_lt r (L.slot * w)) [ yes l ↦ of_slot l | no g ↦ behind g ]
    where
      q : ℕ
      q = p / 512 - 1

      r : ℕ
      r = p % 512

      of_slot : r < L.slot * w → C
      of_slot l =
          let i : ℕ = r / L.slot in
          let low : i < w = (div-lt_iff_lt-mul {k = L.slot} {x = r} {y = w} (omega (arith, ok.slot))).1 (omega arith) in
          let block : (q * w + i) / w ≡ q = slot_block q i low in
          let rest : (q * w + i) % w ≡ i = slot-rest q i low in
          slot (q * w + i) (r % L.slot) (slot-number k q i (omega arith) low) (mod-lt r (omega (arith, ok.slot)))
          (rw (block, rest) (omega (arith, div-add-mod' r L.slot)))

      behind : ¬ (r < L.slot * w) → C
      behind g =
          let i : ℕ = w - 1 in
          let low : i < w = omega (arith, ok.some) in
          let block : (q * w + i) / w ≡ q = slot_block q i low in
          tail (q * w + i) (r - L.slot * w) (slot-number k q i (omega arith) low) (slot-rest q i low) (omega arith)
          (rw block (omega arith))

  -- a place of an event's slot, or of none
  pub by-event : {C : Type 0} (n p : ℕ) → p < 512 * blocks_for L n → p % 512 < 508
      → ((e j : ℕ) → e < n → j < L.slot → p ≡ slot_at L e + j → C)
      → (((e : ℕ) → e < n → Outside p (slot_at L e) L.slot) → C)
      → C
  by-event n p inside free slot none = elim (dec_lt p 512) [
    | yes l ↦ none (λ e m x y. omega arith)
    | no g ↦
        by_place (blocks_for L n - 1) p (omega arith) (omega arith) free
        (λ e j m k here. elim (dec_lt e n) [
          | yes l ↦ slot e j l k here
          | no past ↦ none (λ d l. rw here (slots_apart L ok e d j k (λ q. omega arith)))
        ])
        (λ e j m last k here. none (λ d l. rw here (tail_apart L ok d e j k)))
  ]
