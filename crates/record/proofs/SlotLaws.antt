-- Laws of a slot: an event below n, from n on zero, and the bytes after its block's last slot. Assumes nothing.
use mathlib.Core.Path.{◌≡◌, ap}
use mathlib.Core.Bool.{true, ◌&&◌}
use mathlib.Core.List.{List}
use Prim.Native.Nat.{ℕ, ◌+◌, ◌*◌, ◌-◌, ◌%◌, ◌<◌, ◌≤◌}
use native.Mathlib.Omega.{arith}
use borrow.Author.Tests.{eq-eqb, ne_eqb, lt-ltb, le-ltb}
use Rattle.record.specs.Layout.{Layout, count_in, slot_at, tail_at, zeros}
use Rattle.record.specs.Slots.{event_right, tail_right, slot_right}
use Rattle.record.proofs.SoundLayout.{Sound, last_end, is_last, not_last}

module _ (L : Layout) (s : List ℕ) (n e at : ℕ) (count : n ≡ count_in s) (place : at ≡ slot_at L e) where
  pub slot-below : e < n → slot_right L s e ≡ event_right s at && tail_right L s e
  unfolding slot_right
  slot-below h = rw (← count, lt-ltb e n h, ← place)

  pub slot_from_lem : n ≤ e → slot_right L s e ≡ zeros L.slot s at && tail_right L s e
  unfolding slot_right
  slot_from_lem h = rw (← count, le-ltb e n h, ← place)

-- the bytes behind a block's last slot, which starts at `at`
module _ (L : Layout) (ok : Sound L) (s : List ℕ) (e at : ℕ) (place : at ≡ slot_at L e) where
  abbrev rest : ℕ
  rest = 512 - L.slot * (L.per_block - 1)

  pub tail_last : (at + (512 - L.slot * (L.per_block - 1))) % 512 ≡ 0 → tail_right L s e ≡ zeros (512 - L.slot * (L.per_block - 1) - L.slot - 4) s (at + L.slot)
  unfolding tail_right
  tail_last h =
      let last : e % L.per_block ≡ L.per_block - 1 = is_last L ok e (omega (arith, place, h, last_end L ok, ok.room)) in
      let here : tail_at L e ≡ at + L.slot = omega (arith, place, ap (λ (k : ℕ). L.slot * k) last, last_end L ok) in
      let size : 508 - L.slot * L.per_block ≡ rest - L.slot - 4 = omega (arith, last_end L ok, ok.room) in
      rw (eq-eqb (e % L.per_block) (L.per_block - 1) last, here, size)

  pub tail_none : ((at + (512 - L.slot * (L.per_block - 1))) % 512 ≡ 0 → ⊥) → tail_right L s e ≡ true
  unfolding tail_right
  tail_none h = rw (ne_eqb (e % L.per_block) (L.per_block - 1) (not_last L ok e (λ q. h (omega (arith, place, q, last_end L ok, ok.room)))))
