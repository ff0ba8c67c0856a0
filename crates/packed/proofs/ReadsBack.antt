-- A host reads in a number what was packed, where its parts are below `places`. Assumes nothing.
use mathlib.Core.Path.{◌≡◌}
use Prim.Native.Nat.{ℕ, ◌+◌, ◌*◌, ◌/◌, ◌%◌, ◌<◌}
use native.Mathlib.Omega.{arith}
use Rattle.packed.specs.Packed.{places, broken_from, packed_break, packed_refusal, broken, refused, by_kind, unpacked}

-- the three parts of a number that is put together of them
parts : (k x y n : ℕ) → x < places → y < places → n ≡ broken_from * k + places * x + y → unpacked n ≡ by_kind k x y
parts k x y n i j e =
    let kind : n / broken_from ≡ k = omega arith in
    let high : n / places % places ≡ x = omega arith in
    let low : n % places ≡ y = omega arith in
    rw (kind, high, low)

module _ (x y : ℕ) (i : x < places) (j : y < places) where
  pub break_back : unpacked (packed_break x y) ≡ broken x y
  break_back = parts 1 x y (packed_break x y) i j (omega arith)

  pub refusal-back : unpacked (packed_refusal x y) ≡ refused x y
  refusal-back = parts 2 x y (packed_refusal x y) i j (omega arith)
