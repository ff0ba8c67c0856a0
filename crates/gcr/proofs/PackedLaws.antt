-- A result packed as a host's number reads back, and a number that was read is that result packed. Assumes nothing.
use mathlib.Core.Path.{◌≡◌, refl}
use Prim.Native.Nat.{ℕ, ◌+◌, ◌*◌, ◌/◌, ◌%◌, ◌<◌}
use native.Mathlib.Omega.{arith}
use Rattle.gcr.specs.Packed.{packed_rehearsal, unpacked_rehearsal}
use Rattle.store.specs.Rehearsal.{InNumbers}

-- the three parts of a number that is put together of them
parts : (x y z p : ℕ) → x < 256 → y < 65536 → p ≡ x + 256 * y + 16777216 * z → (p % 256 ≡ x) × (p / 256 % 65536 ≡ y) × (p / 16777216 ≡ z)
parts x y z p i j e =
    let upper : p / 256 ≡ y + 65536 * z = omega arith in
    (omega arith, omega arith, omega arith)

pub reads-back : (r : InNumbers) → r.number < 256 → r.length < 65536 → unpacked_rehearsal (packed_rehearsal r) ≡ r
unfolding packed_rehearsal unpacked_rehearsal
reads-back r small short =
    let same = parts r.number r.length r.outstanding (packed_rehearsal r) small short refl in
    λ i. record { number = same.0 i; length = same.1 i; outstanding = same.2 i }

pub packs_again : (p : ℕ) → packed_rehearsal (unpacked_rehearsal p) ≡ p
unfolding packed_rehearsal unpacked_rehearsal
packs_again p = omega arith
