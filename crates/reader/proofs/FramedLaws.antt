-- Where the slots of a record stand. Assumes nothing.
use mathlib.Core.Path.{◌≡◌, ap}
use mathlib.Core.List.{List}
use Prim.Native.Nat.{ℕ, ◌+◌, ◌*◌, ◌-◌, ◌/◌, ◌%◌, ◌<◌, ◌≤◌}
use native.Mathlib.Nat.{mul-le-mul_right}
use native.Mathlib.Omega.{arith}
use lib.ListN.{length}
use Rattle.record.specs.Layout.{Layout, edition_of, numbers_of, slot_at, next_slot}
use Rattle.record.specs.Encode.{blocks_for}
use Rattle.record.specs.Questions.{slots_in}
use Rattle.record.proofs.SoundLayout.{sound_of, Numbers, numbers_of_lem, next_of, slot_end, slot_block, slot-inside}
use Rattle.reader.specs.declared.framed.Framed.{Framed}

-- a slot of so many bytes at `at`, in a block of a record of so many
pub record Inside (at slot long : ℕ) : Type 0 where
  pub past : 512 ≤ at
  pub within : at % 512 + slot ≤ 508
  pub block : 512 * (at / 512 + 1) ≤ long

module _ (f : Framed) where
  abbrev s : List ℕ
  s = f.bytes.now

  abbrev L : Layout
  L = edition_of s

  pub sizes : Numbers (edition_of f.bytes.now) f.edition
  sizes = numbers_of_lem s f.edition f.numbers.1

  -- ---- the slots

  pub many : f.edition.slots * (length f.bytes.now / 512 - 1) ≡ slots_in (edition_of f.bytes.now) f.bytes.now
  many = ap (λ (k : ℕ). k * (length s / 512 - 1)) sizes.slots

  pub most : f.edition.slots * (length f.bytes.now / 512 - 1) ≤ 15 * (length f.bytes.now / 512 - 1)
  most = mul-le-mul_right {m = f.edition.slots} {n = 15} (length s / 512 - 1) (omega (arith, sizes))

  -- an event's
  pub room : 512 * blocks_for (edition_of f.bytes.now) f.count ≤ length f.bytes.now → (e at : ℕ) → e < f.count → at ≡ slot_at (edition_of f.bytes.now) e
      → at + f.edition.slot ≤ length f.bytes.now
  room all e at h q = omega (arith, sizes, all, q, slot-inside L (sound_of s) f.count e h)

  -- any
  pub inside : (e at : ℕ) → e < slots_in (edition_of f.bytes.now) f.bytes.now → at ≡ slot_at (edition_of f.bytes.now) e → Inside at f.edition.slot (length f.bytes.now)
  inside e at h q =
      let end = slot_end L (sound_of s) e in
      let block = slot_block L (sound_of s) (length s / 512 - 1) e h in
      record {
        past = omega (arith, q);
        within = omega (arith, sizes, q, end);
        block = omega (arith, sizes, q, end, block, f.long);
      }

  pub step : (e at next : ℕ) → at ≡ slot_at (edition_of f.bytes.now) e → ((M : Layout) → f.edition ≡ numbers_of M → next ≡ next_slot M at)
      → next ≡ slot_at (edition_of f.bytes.now) (e + 1)
  step = next_of s f.edition f.numbers.1
