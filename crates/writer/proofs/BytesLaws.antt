-- The bytes of a number as `to_le_bytes` gives them, and stored with what comes after them. Assumes nothing.
use mathlib.Core.Path.{◌≡◌, refl, sym, ap, ap₂, ◌∙◌}
use mathlib.Core.Bool.{Bool, true, false}
use mathlib.Core.List.{List, ◌∷◌, ◌++◌}
use Prim.Native.Nat.{ℕ, zero, suc, ◌+◌, ◌*◌, ◌/◌, ◌%◌, ◌^◌}
use native.Mathlib.Nat.{pow-succ', div-div-eq-div-mul}
use native.Mathlib.Omega.{arith}
use lib.Seq.{sets}
use mir.Val.{bool_byte}
use Rattle.std.specs.Int.{byte_at, bytes_low_first}
use Rattle.record.specs.Encode.{little_bytes, bit}
use Rattle.record.proofs.WordBytes.{little-then}

byte-at : (i n : ℕ) → byte_at i n ≡ n / 256 ^ i % 256
byte-at zero n = omega arith
byte-at (suc i) n = refl

low_bytes : (i k n : ℕ) → bytes_low_first i k n ≡ little_bytes k (n / 256 ^ i)
unfolding little_bytes
low_bytes i zero n = refl
low_bytes i (suc k) n =
    let more : 256 ^ suc i ≡ 256 ^ i * 256 = omega (arith, pow-succ' 256 i) in
    let next : n / 256 ^ suc i ≡ n / 256 ^ i / 256 = ap (λ (p : ℕ). n / p) more ∙ sym (div-div-eq-div-mul n (256 ^ i) 256) in
    ap₂ (λ (b : ℕ) (l : List ℕ). b ∷ l) (byte-at i n) (low_bytes (suc i) k n ∙ ap (little_bytes k) next)

pub le_bytes : (k n : ℕ) → bytes_low_first 0 k n ≡ little_bytes k n
le_bytes k n = let whole : n / 256 ^ 0 ≡ n = omega arith in low_bytes 0 k n ∙ ap (little_bytes k) whole

-- stored, alone and with what comes after them
pub stored-le : (k n : ℕ) {bytes : List ℕ} (l m : List ℕ) (at : ℕ) → m ≡ sets l at bytes → bytes ≡ bytes_low_first 0 k n → m ≡ sets l at (little_bytes k n)
stored-le k n l m at e f = e ∙ ap (sets l at) (f ∙ le_bytes k n)

pub le-then : (k n : ℕ) {bytes : List ℕ} (b l m r : List ℕ) (at next : ℕ) → m ≡ sets l at bytes → bytes ≡ bytes_low_first 0 k n → r ≡ sets m next b → next ≡ at + k
    → r ≡ sets l at (little_bytes k n ++ b)
le-then k n b l m r at next e f g p = little-then k n b l m r at next (stored-le k n l m at e f) g p

pub bool-bit : (t : Bool) → bool_byte t ≡ bit t
bool-bit true = refl
bool-bit false = refl
