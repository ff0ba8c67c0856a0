-- Numbers and sets as bytes, put together: of a number's parts, of a set's words, and in a list by one store after the other. Assumes nothing.
use mathlib.Core.Path.{◌≡◌, refl, sym, ap, ap₂, ◌∙◌, subst}
use mathlib.Core.Bool.{Bool}
use mathlib.Core.List.{List, ◌∷◌, ◌++◌}
use Prim.Native.Nat.{ℕ, zero, suc, ◌+◌, ◌*◌, ◌/◌, ◌%◌, ◌^◌, ◌<◌}
use native.Mathlib.Nat.{zero-add, suc-add, mul_assoc, pow-succ', mod-add-div, mod-lt, one-le-pow}
use native.Mathlib.Numerals.{add-one}
use native.Mathlib.Omega.{arith}
use lib.Dec.{eqb}
use lib.ListN.{get_or}
use lib.Seq.{sets}
use lib.Pow.{shr-shr, mod-pow-add}
use Rattle.rows.specs.Row.{digit, bit_of, has}
use Rattle.rows.specs.Octets.{little, has_byte}
use Rattle.rows.proofs.Tests.{split}
use Rattle.rows.proofs.Digits.{digit-zero, digit-suc, one_bit, none-bit}
use Rattle.rows.proofs.RowLaws.{has_word}
use Rattle.record.specs.Encode.{little_bytes, bit, bits, set_bytes}
use Rattle.record.proofs.StoresLaws.{sets_then, Stands, stands_cons, Bytes}
use Rattle.record.proofs.NumberBytes.{length-little, length-set_bytes}

-- ---- numbers

-- j bytes, x, and k bytes, y, above them
pub little_bytes_join : (j k x y : ℕ) → x < 256 ^ j → little_bytes (j + k) (x + 256 ^ j * y) ≡ little_bytes j x ++ little_bytes k y
unfolding little_bytes
little_bytes_join zero k x y h = ap₂ little_bytes (zero-add k) (omega arith)
little_bytes_join (suc j) k x y h =
    let z : ℕ = x + 256 ^ suc j * y in
    let up : 256 ^ suc j * y ≡ 256 * (256 ^ j * y) = ap (λ (p : ℕ). p * y) (pow-succ' 256 j) ∙ mul_assoc 256 (256 ^ j) y in
    let low : z % 256 ≡ x % 256 = omega arith in
    let high : z / 256 ≡ x / 256 + 256 ^ j * y = omega arith in
    ap (λ (n : ℕ). little_bytes n z) (suc-add j k)
    ∙ ap₂ (λ (b : ℕ) (l : List ℕ). b ∷ l) low
    (ap (little_bytes (j + k)) high ∙ little_bytes_join j k (x / 256) y (omega (arith, pow-succ' 256 j)))

pub little_bytes_split : (j k x : ℕ) → little_bytes (j + k) x ≡ little_bytes j (x % 256 ^ j) ++ little_bytes k (x / 256 ^ j)
little_bytes_split j k x =
    ap (little_bytes (j + k)) (sym (mod-add-div x (256 ^ j)))
    ∙ little_bytes_join j k (x % 256 ^ j) (x / 256 ^ j) (mod-lt x (one-le-pow j 256 (omega arith)))

pub little_bytes_cons : (k a y : ℕ) → a < 256 → little_bytes (suc k) (a + 256 * y) ≡ a ∷ little_bytes k y
unfolding little_bytes
little_bytes_cons k a y h =
    let low : (a + 256 * y) % 256 ≡ a = omega arith in
    let high : (a + 256 * y) / 256 ≡ y = omega arith in
    ap₂ (λ (b z : ℕ). b ∷ little_bytes k z) low high

-- a number's bytes stored, and then what comes after them
pub little-then : (k x : ℕ) (b l m r : List ℕ) (at next : ℕ) → m ≡ sets l at (little_bytes k x) → r ≡ sets m next b → next ≡ at + k
    → r ≡ sets l at (little_bytes k x ++ b)
little-then k x b l m r at next e f p = sets_then (little_bytes k x) b l m r at next e f (p ∙ ap (λ (n : ℕ). at + n) (sym (length-little k x)))

-- a number stored as two halves
pub halves_stored : (k x : ℕ) (l m r : List ℕ) (at : ℕ) → m ≡ sets l at (little_bytes k (x % 256 ^ k)) → r ≡ sets m (at + k) (little_bytes k (x / 256 ^ k))
    → r ≡ sets l at (little_bytes (k + k) x)
halves_stored k x l m r at e f =
    little-then k (x % 256 ^ k) (little_bytes k (x / 256 ^ k)) l m r at (at + k) e f refl ∙ ap (sets l at) (sym (little_bytes_split k k x))

-- ---- bits

bits-same : (k : ℕ) (f g : ℕ → Bool) → ((j : ℕ) → j < k → f j ≡ g j) → bits k f ≡ bits k g
unfolding bits
bits-same zero f g h = refl
bits-same (suc k) f g h =
    ap₂ (λ (t : Bool) (n : ℕ). bit t + 2 * n) (h 0 (omega arith)) (bits-same k (λ j. f (suc j)) (λ j. g (suc j)) (λ j l. h (suc j) (omega arith)))

bit_of-digit : (n k : ℕ) → bit (bit_of n k) ≡ digit n k
bit_of-digit n k = split (bit_of n k) (λ e. ap bit e ∙ sym (one_bit n k e)) (λ e. ap bit e ∙ sym (none-bit n k e))

bit-suc : (n k : ℕ) → bit_of n (suc k) ≡ bit_of (n / 2) k
unfolding bit_of
bit-suc n k = ap (λ (d : ℕ). eqb d 1) (digit-suc n k)

bit-above : (n k j : ℕ) → bit_of n (k + j) ≡ bit_of (n / 2 ^ k) j
unfolding bit_of digit
bit-above n k j = ap (λ (x : ℕ). eqb (x % 2) 1) (sym (shr-shr n k j))

-- the k lowest bits of x
bits_of : (k x : ℕ) → bits k (bit_of x) ≡ x % 2 ^ k
unfolding bits
bits_of zero x = omega arith
bits_of (suc k) x =
    let low : bit (bit_of x 0) ≡ x % 2 = bit_of-digit x 0 ∙ digit-zero x in
    let rest : bits k (λ j. bit_of x (suc j)) ≡ x / 2 % 2 ^ k =
    bits-same k (λ j. bit_of x (suc j)) (bit_of (x / 2)) (λ j l. bit-suc x j) ∙ bits_of k (x / 2) in
    omega (arith, mod-pow-add x k 1, ap (λ (m : ℕ). x % 2 ^ m) (add-one k))

-- ---- sets

pub set_bytes-same : (k : ℕ) (f g : ℕ → Bool) → ((b : ℕ) → b < 8 * k → f b ≡ g b) → set_bytes k f ≡ set_bytes k g
unfolding set_bytes
set_bytes-same zero f g h = refl
set_bytes-same (suc k) f g h =
    ap₂ (λ (b : ℕ) (l : List ℕ). b ∷ l) (bits-same 8 f g (λ j l. h j (omega arith)))
    (set_bytes-same k (λ b. f (8 + b)) (λ b. g (8 + b)) (λ b l. h (8 + b) (omega arith)))

pub set_bytes_join : (j k : ℕ) (f : ℕ → Bool) → set_bytes (j + k) f ≡ set_bytes j f ++ set_bytes k (λ b. f (8 * j + b))
unfolding set_bytes
set_bytes_join zero k f =
    ap (λ (n : ℕ). set_bytes n f) (zero-add k) ∙ set_bytes-same k f (λ b. f (8 * zero + b)) (λ b l. let here : b ≡ 8 * zero + b = omega arith in ap f here)
set_bytes_join (suc j) k f =
    ap (λ (n : ℕ). set_bytes n f) (suc-add j k)
    ∙ ap (λ (l : List ℕ). bits 8 f ∷ l)
    (set_bytes_join j k (λ b. f (8 + b))
    ∙ ap (λ (l : List ℕ). set_bytes j (λ b. f (8 + b)) ++ l)
    (set_bytes-same k (λ b. f (8 + (8 * j + b))) (λ b. f (8 * suc j + b))
    (λ b l. let place : 8 + (8 * j + b) ≡ 8 * suc j + b = omega arith in ap f place)))

-- the bits of a word are its bytes
pub set_bytes_word : (k x : ℕ) → set_bytes k (bit_of x) ≡ little_bytes k x
unfolding set_bytes little_bytes
set_bytes_word zero x = refl
set_bytes_word (suc k) x =
    ap₂ (λ (b : ℕ) (l : List ℕ). b ∷ l) (bits_of 8 x)
    (set_bytes-same k (λ b. bit_of x (8 + b)) (bit_of (x / 256)) (λ b l. bit-above x 8 b) ∙ set_bytes_word k (x / 256))

-- ---- what was read from bytes, as bytes again

module _ (s : List ℕ) (bytes : Bytes s) where
  pub little-read : (k at : ℕ) → Stands s at (little_bytes k (little k s at))
  unfolding little little_bytes
  little-read zero at = λ j h. absurd (omega arith)
  little-read (suc k) at =
      subst (Stands s at) (sym (little_bytes_cons k (get_or s at 0) (little k s (at + 1)) (bytes at)))
      (stands_cons s at (get_or s at 0) (little_bytes k (little k s (at + 1))) refl (little-read k (at + 1)))

  first_byte : (at : ℕ) → get_or s at 0 ≡ bits 8 (has_byte s at)
  unfolding has_byte
  first_byte at =
      let small : get_or s at 0 % 2 ^ 8 ≡ get_or s at 0 = omega (arith, bytes at) in
      sym (bits-same 8 (has_byte s at) (bit_of (get_or s at 0))
      (λ j l. ap₂ (λ (p i : ℕ). bit_of (get_or s p 0) i) (omega arith) (omega arith))
      ∙ bits_of 8 (get_or s at 0) ∙ small)

  next_bytes : (at b : ℕ) → has_byte s at (8 + b) ≡ has_byte s (at + 1) b
  unfolding has_byte
  next_bytes at b = ap₂ (λ (p i : ℕ). bit_of (get_or s p 0) i) (omega arith) (omega arith)

  pub set-read : (k at : ℕ) → Stands s at (set_bytes k (has_byte s at))
  unfolding set_bytes
  set-read zero at = λ j h. absurd (omega arith)
  set-read (suc k) at =
      subst (λ (l : List ℕ). Stands s at (bits 8 (has_byte s at) ∷ l))
      (sym (set_bytes-same k (λ b. has_byte s at (8 + b)) (has_byte s (at + 1)) (λ b l. next_bytes at b)))
      (stands_cons s at (bits 8 (has_byte s at)) (set_bytes k (has_byte s (at + 1))) (first_byte at) (set-read k (at + 1)))

-- ---- a row stored, word by word

-- the bytes of i words, and of one more
row_more : (row : List ℕ) (i : ℕ) → set_bytes (8 * (i + 1)) (has row) ≡ set_bytes (8 * i) (has row) ++ little_bytes 8 (get_or row i 0)
row_more row i =
    let more : 8 * (i + 1) ≡ 8 * i + 8 = omega arith in
    ap (λ (n : ℕ). set_bytes n (has row)) more
    ∙ set_bytes_join (8 * i) 8 (has row)
    ∙ ap (λ (l : List ℕ). set_bytes (8 * i) (has row) ++ l)
    (set_bytes-same 8 (λ b. has row (8 * (8 * i) + b)) (bit_of (get_or row i 0))
    (λ b l. let place : 8 * (8 * i) + b ≡ i * 64 + b = omega arith in ap (has row) place ∙ has_word row i b l)
    ∙ set_bytes_word 8 (get_or row i 0))

pub row-none : (row s : List ℕ) (at : ℕ) → s ≡ sets s at (set_bytes (8 * 0) (has row))
unfolding set_bytes
row-none row s at = refl

pub row_stored : (row s l m : List ℕ) (at i : ℕ) → l ≡ sets s at (set_bytes (8 * i) (has row)) → m ≡ sets l (at + 8 * i) (little_bytes 8 (get_or row i 0))
    → m ≡ sets s at (set_bytes (8 * (i + 1)) (has row))
row_stored row s l m at i e f =
    sets_then (set_bytes (8 * i) (has row)) (little_bytes 8 (get_or row i 0)) s l m at (at + 8 * i) e f
    (ap (λ (n : ℕ). at + n) (sym (length-set_bytes (8 * i) (has row))))
    ∙ ap (sets s at) (sym (row_more row i))
