-- Numbers and sets as bytes, at any width: read where their bytes stand, they are found again. Assumes nothing.
use mathlib.Core.Path.{◌≡◌, refl, ap, ap₂, ◌∙◌}
use mathlib.Core.Bool.{Bool, true, false}
use mathlib.Core.List.{List}
use Prim.Native.Nat.{ℕ, zero, suc, ◌+◌, ◌-◌, ◌*◌, ◌/◌, ◌%◌, ◌^◌, ◌<◌, ◌≤◌}
use native.Mathlib.Nat.{pow-succ'}
use native.Mathlib.Omega.{arith}
use native.Mathlib.Decide.{dec_lt}
use lib.Dec.{eqb}
use lib.ListN.{length, get_or}
use Rattle.rows.specs.Row.{digit, bit_of}
use Rattle.rows.specs.Octets.{little, has_byte}
use Rattle.rows.proofs.Digits.{digit-zero, digit-suc}
use Rattle.record.specs.Layout.{byte, zeros}
use Rattle.record.specs.Encode.{little_bytes, bit, bits, set_bytes}
use Rattle.rows.proofs.Tests.{and_both, and_left, and_right}
use borrow.Author.Tests.{eq-eqb, eqb-true}
use Rattle.record.proofs.StoresLaws.{Stands, stands_head, stands_tail, Bytes, bytes_nil, bytes_cons}

-- ---- numbers

pub length-little : (k x : ℕ) → length (little_bytes k x) ≡ k
unfolding little_bytes
length-little zero x = refl
length-little (suc k) x = ap suc (length-little k (x / 256))

pub bytes_little : (k x : ℕ) → Bytes (little_bytes k x)
unfolding little_bytes
bytes_little zero x = bytes_nil
bytes_little (suc k) x = bytes_cons (x % 256) (little_bytes k (x / 256)) (omega arith) (bytes_little k (x / 256))

pub little-stands : (k x : ℕ) (s : List ℕ) (at : ℕ) → x < 256 ^ k → Stands s at (little_bytes k x) → little k s at ≡ x
unfolding little little_bytes
little-stands zero x s at h f = omega arith
little-stands (suc k) x s at h f =
    omega (
      arith,
      stands_head s at (x % 256) (little_bytes k (x / 256)) f,
      little-stands k (x / 256) s (at + 1) (omega (arith, pow-succ' 256 k)) (stands_tail s at (x % 256) (little_bytes k (x / 256)) f),
    )

-- numbers of bytes that agree
pub little-same : (k : ℕ) (s t : List ℕ) (at : ℕ) → ((j : ℕ) → j < k → get_or s (at + j) 0 ≡ get_or t (at + j) 0) → little k s at ≡ little k t at
unfolding little
little-same zero s t at h = refl
little-same (suc k) s t at h =
    ap₂ (λ (x y : ℕ). x + 256 * y)
    (let here : at ≡ at + 0 = omega arith in rw here (h 0 (omega arith)))
    (little-same k s t (at + 1) (λ j l. let next : at + 1 + j ≡ at + suc j = omega arith in rw next (h (suc j) (omega arith))))

pub zeros_stand : (k : ℕ) (s : List ℕ) (at : ℕ) → ((j : ℕ) → j < k → get_or s (at + j) 0 ≡ 0) → zeros k s at ≡ true
unfolding zeros
zeros_stand zero s at h = refl
zeros_stand (suc k) s at h =
    and_both (eqb (byte s at) 0) (zeros k s (at + 1))
    (eq-eqb (byte s at) 0 (let here : at ≡ at + 0 = omega arith in rw here (h 0 (omega arith))))
    (zeros_stand k s (at + 1) (λ j l. let next : at + 1 + j ≡ at + suc j = omega arith in rw next (h (suc j) (omega arith))))

-- and zero bytes are found
pub zeros-byte : (k : ℕ) (s : List ℕ) (at j : ℕ) → zeros k s at ≡ true → j < k → get_or s (at + j) 0 ≡ 0
unfolding zeros
zeros-byte zero s at j h l = absurd (omega arith)
zeros-byte (suc k) s at zero h l =
    let here : at + zero ≡ at = omega arith in rw here (eqb-true (byte s at) 0 (and_left (eqb (byte s at) 0) (zeros k s (at + 1)) h))
zeros-byte (suc k) s at (suc j) h l =
    let next : at + suc j ≡ at + 1 + j = omega arith in
    rw next (zeros-byte k s (at + 1) j (and_right (eqb (byte s at) 0) (zeros k s (at + 1)) h) (omega arith))

-- ---- sets

pub bit_le : (t : Bool) → bit t ≤ 1
bit_le true = omega arith
bit_le false = omega arith

pub bit_is : (t : Bool) → eqb (bit t) 1 ≡ t
bit_is true = refl
bit_is false = refl

bits_lt : (k : ℕ) (f : ℕ → Bool) → bits k f < 2 ^ k
unfolding bits
bits_lt zero f = omega arith
bits_lt (suc k) f = omega (arith, pow-succ' 2 k, bit_le (f 0), bits_lt k (λ j. f (suc j)))

digit-bits : (k j : ℕ) (f : ℕ → Bool) → j < k → digit (bits k f) j ≡ bit (f j)
unfolding bits
digit-bits zero j f h = absurd (omega arith)
digit-bits (suc k) zero f h = digit-zero (bits (suc k) f) ∙ omega (arith, bit_le (f 0))
digit-bits (suc k) (suc j) f h =
    let half : bits (suc k) f / 2 ≡ bits k (λ i. f (suc i)) = omega (arith, bit_le (f 0)) in
    digit-suc (bits (suc k) f) j ∙ ap (λ (x : ℕ). digit x j) half ∙ digit-bits k j (λ i. f (suc i)) (omega arith)

bit-bits : (k j : ℕ) (f : ℕ → Bool) → j < k → bit_of (bits k f) j ≡ f j
unfolding bit_of
bit-bits k j f h = ap (λ (d : ℕ). eqb d 1) (digit-bits k j f h) ∙ bit_is (f j)

pub length-set_bytes : (k : ℕ) (f : ℕ → Bool) → length (set_bytes k f) ≡ k
unfolding set_bytes
length-set_bytes zero f = refl
length-set_bytes (suc k) f = ap suc (length-set_bytes k (λ b. f (8 + b)))

pub bytes_set_bytes : (k : ℕ) (f : ℕ → Bool) → Bytes (set_bytes k f)
unfolding set_bytes
bytes_set_bytes zero f = bytes_nil
bytes_set_bytes (suc k) f = bytes_cons (bits 8 f) (set_bytes k (λ b. f (8 + b))) (omega (arith, bits_lt 8 f)) (bytes_set_bytes k (λ b. f (8 + b)))

-- number b is in the first byte, or b - 8 is in the rest
pub set-stands : (k : ℕ) (f : ℕ → Bool) (s : List ℕ) (at b : ℕ) → b < 8 * k → Stands s at (set_bytes k f) → has_byte s at b ≡ f b
unfolding set_bytes has_byte
set-stands zero f s at b h st = absurd (omega arith)
set-stands (suc k) f s at b h st = elim (dec_lt b 8) [
  | yes l ↦
      let place : at + b / 8 ≡ at = omega arith in
      let same : b % 8 ≡ b = omega arith in
      ap₂ (λ (x i : ℕ). bit_of x i)
      (ap (λ (p : ℕ). get_or s p 0) place ∙ stands_head s at (bits 8 f) (set_bytes k (λ c. f (8 + c))) st)
      same
      ∙ bit-bits 8 b f l
  | no g ↦
      let whole : 8 + (b - 8) ≡ b = omega arith in
      let place : at + b / 8 ≡ at + 1 + (b - 8) / 8 = omega arith in
      let rest : b % 8 ≡ (b - 8) % 8 = omega arith in
      ap₂ (λ (p i : ℕ). bit_of (get_or s p 0) i) place rest
      ∙ set-stands k (λ c. f (8 + c)) s (at + 1) (b - 8) (omega arith)
      (stands_tail s at (bits 8 f) (set_bytes k (λ c. f (8 + c))) st)
      ∙ ap f whole
]
