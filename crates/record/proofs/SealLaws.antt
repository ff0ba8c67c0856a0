-- Laws of block checks: writing them changes no other byte, and then every block's check is right. Assumes nothing.
use mathlib.Core.Path.{◌≡◌, refl, sym, ap, ap₂, ◌∙◌}
use mathlib.Core.Bool.{Bool, true, ◌&&◌}
use mathlib.Core.List.{List, ◌++◌}
use Prim.Native.Nat.{ℕ, zero, suc, ◌+◌, ◌*◌, ◌-◌, ◌%◌, ◌^◌, ◌<◌, ◌≤◌}
use native.Mathlib.Nat.{le_refl}
use native.Mathlib.Numerals.{add-one}
use native.Mathlib.Omega.{arith}
use native.Mathlib.Decide.{dec_lt}
use lib.Dec.{eqb}
use lib.ListN.{length, get_or, length-append, get_or-append}
use lib.Seq.{sets, length-sets}
use borrow.Author.Tests.{eq-eqb, eqb-true}
use Rattle.rows.specs.Octets.{little}
use Rattle.rows.proofs.Tests.{and_both, and_left, and_right}
use Rattle.record.specs.Blocks.{sum_a, sum_b, block_right}
use Rattle.record.specs.Encode.{little_bytes, seal, sealed}
use Rattle.record.proofs.StoresLaws.{Stands, Outside, get_d_sets-outside, get_d_sets-inside, sets-front, sets_again, stands-front, stands-back, stands-append, Bytes, bytes_append, bytes_sets}
use Rattle.record.proofs.NumberBytes.{length-little, little-stands, little-same, bytes_little}
use Rattle.record.proofs.WordBytes.{little-then, little-read}

-- ---- the sums look at the first 508 bytes of their block

module _ (s t : List ℕ) (k : ℕ) (same : (i : ℕ) → i < 508 → get_or s (512 * k + i) 0 ≡ get_or t (512 * k + i) 0) where
  word_same : (i : ℕ) → i < 254 → little 2 s (512 * k + 2 * i) ≡ little 2 t (512 * k + 2 * i)
  word_same i h = little-same 2 s t (512 * k + 2 * i)
      (λ j l. let place : 512 * k + 2 * i + j ≡ 512 * k + (2 * i + j) = omega arith in rw place (same (2 * i + j) (omega arith)))

  sum_a-same : (i : ℕ) → i ≤ 254 → sum_a i s k ≡ sum_a i t k
  unfolding sum_a
  sum_a-same zero h = refl
  sum_a-same (suc i) h = ap₂ (λ (x y : ℕ). (x + y) % 65521) (sum_a-same i (omega arith)) (word_same i (omega arith))

  sum_b-same : (i : ℕ) → i ≤ 254 → sum_b i s k ≡ sum_b i t k
  unfolding sum_b
  sum_b-same zero h = refl
  sum_b-same (suc i) h = ap₂ (λ (x y : ℕ). (x + y) % 65521) (sum_b-same i (omega arith)) (sum_a-same (suc i) h)

-- two bytes hold a sum
pub sum_a_lt : (i : ℕ) (s : List ℕ) (k : ℕ) → sum_a (suc i) s k < 256 ^ 2
unfolding sum_a
sum_a_lt i s k = omega arith

pub sum_b_lt : (i : ℕ) (s : List ℕ) (k : ℕ) → sum_b (suc i) s k < 256 ^ 2
unfolding sum_b
sum_b_lt i s k = omega arith

-- ---- one check

abbrev check_bytes : List ℕ → ℕ → List ℕ
check_bytes s k = little_bytes 2 (sum_a 254 s k) ++ little_bytes 2 (sum_b 254 s k)

length_check : (s : List ℕ) (k : ℕ) → length (check_bytes s k) ≡ 4
length_check s k =
    omega (
      arith,
      length-append (little_bytes 2 (sum_a 254 s k)) (little_bytes 2 (sum_b 254 s k)),
      length-little 2 (sum_a 254 s k),
      length-little 2 (sum_b 254 s k),
    )

pub seal-outside : (s : List ℕ) (k p : ℕ) → Outside p (512 * k + 508) 4 → get_or (seal s k) p 0 ≡ get_or s p 0
seal-outside s k p h = get_d_sets-outside (check_bytes s k) s (512 * k + 508) p (rw length_check h)

-- a block whose bytes are as another list's is right where the other is
right-same : (s t : List ℕ) (k : ℕ) → ((i : ℕ) → i < 512 → get_or s (512 * k + i) 0 ≡ get_or t (512 * k + i) 0) → block_right s k ≡ block_right t k
unfolding block_right
right-same s t k same =
    ap₂ ◌&&◌
    (ap₂ eqb (part 508 (omega arith)) (sum_a-same s t k (λ i h. same i (omega arith)) 254 (omega arith)))
    (ap₂ eqb (part 510 (omega arith)) (sum_b-same s t k (λ i h. same i (omega arith)) 254 (omega arith)))
  where
    part : (at : ℕ) → at + 2 ≤ 512 → little 2 s (512 * k + at) ≡ little 2 t (512 * k + at)
    part at h = little-same 2 s t (512 * k + at)
        (λ j l. let place : 512 * k + at + j ≡ 512 * k + (at + j) = omega arith in rw place (same (at + j) (omega arith)))

seal-right : (s : List ℕ) (k : ℕ) → 512 * suc k ≤ length s → block_right (seal s k) k ≡ true
unfolding block_right
seal-right s k h =
    let st : Stands (seal s k) (512 * k + 508) (check_bytes s k) = get_d_sets-inside (check_bytes s k) s (512 * k + 508) (omega (arith, length_check s k)) in
    let a : List ℕ = little_bytes 2 (sum_a 254 s k) in
    let b : List ℕ = little_bytes 2 (sum_b 254 s k) in
    let second : 512 * k + 508 + 2 ≡ 512 * k + 510 = omega arith in
    let before : (i : ℕ) → i < 508 → get_or (seal s k) (512 * k + i) 0 ≡ get_or s (512 * k + i) 0 = λ i l. seal-outside s k (512 * k + i) (λ x y. omega arith) in
    and_both (eqb (little 2 (seal s k) (512 * k + 508)) (sum_a 254 (seal s k) k)) (eqb (little 2 (seal s k) (512 * k + 510)) (sum_b 254 (seal s k) k))
    (eq-eqb (little 2 (seal s k) (512 * k + 508)) (sum_a 254 (seal s k) k)
    (little-stands 2 (sum_a 254 s k) (seal s k) (512 * k + 508) (sum_a_lt 253 s k) (stands-front (seal s k) (512 * k + 508) a b st)
    ∙ sym (sum_a-same (seal s k) s k before 254 (le_refl 254))))
    (eq-eqb (little 2 (seal s k) (512 * k + 510)) (sum_b 254 (seal s k) k)
    (ap (little 2 (seal s k)) (sym second)
    ∙ little-stands 2 (sum_b 254 s k) (seal s k) (512 * k + 508 + 2) (sum_b_lt 253 s k)
    (stands-back (seal s k) (512 * k + 508) a b 2 (length-little 2 (sum_a 254 s k)) st)
    ∙ sym (sum_b-same (seal s k) s k before 254 (le_refl 254))))

-- ---- the checks of the first n blocks

pub length-sealed : (n : ℕ) (s : List ℕ) → length (sealed n s) ≡ length s
unfolding sealed
length-sealed zero s = refl
length-sealed (suc n) s = length-sets (sealed n s) (512 * n + 508) (check_bytes (sealed n s) n) ∙ length-sealed n s

pub sealed-outside : (n : ℕ) (s : List ℕ) (p : ℕ) → p % 512 < 508 → get_or (sealed n s) p 0 ≡ get_or s p 0
unfolding sealed
sealed-outside zero s p h = refl
sealed-outside (suc n) s p h = seal-outside (sealed n s) n p (λ x y. omega arith) ∙ sealed-outside n s p h

pub sealed-right : (n : ℕ) (s : List ℕ) → 512 * n ≤ length s → (k : ℕ) → k < n → block_right (sealed n s) k ≡ true
unfolding sealed
sealed-right zero s h k l = absurd (omega arith)
sealed-right (suc n) s h k l = elim (dec_lt k n) [
  | yes below ↦
      right-same (seal (sealed n s) n) (sealed n s) k (λ i q. seal-outside (sealed n s) n (512 * k + i) (λ x y. omega arith))
      ∙ sealed-right n s (omega arith) k below
  | no last ↦
      let here : k ≡ n = omega arith in
      rw here (seal-right (sealed n s) n (omega (arith, length-sealed n s)))
]

pub bytes_sealed : (n : ℕ) (s : List ℕ) → Bytes s → Bytes (sealed n s)
unfolding sealed
bytes_sealed zero s h = h
bytes_sealed (suc n) s h =
    bytes_sets (check_bytes (sealed n s) n) (sealed n s) (512 * n + 508) (bytes_sealed n s h)
    (bytes_append (little_bytes 2 (sum_a 254 (sealed n s) n)) (little_bytes 2 (sum_b 254 (sealed n s) n))
    (bytes_little 2 (sum_a 254 (sealed n s) n)) (bytes_little 2 (sum_b 254 (sealed n s) n)))

-- ---- written by a loop: the next check, as two numbers

pub sealed-none : (s : List ℕ) → s ≡ sealed 0 s
unfolding sealed
sealed-none s = refl

pub sealed-more : (s l m r : List ℕ) (k a b : ℕ) → l ≡ sealed k s → a ≡ sum_a 254 l k → b ≡ sum_b 254 l k
    → m ≡ sets l (512 * k + 508) (little_bytes 2 a) → r ≡ sets m (512 * k + 510) (little_bytes 2 b) → r ≡ sealed (k + 1) s
unfolding sealed
sealed-more s l m r k a b e p q f g =
    little-then 2 a (little_bytes 2 b) l m r (512 * k + 508) (512 * k + 510) f g (omega arith)
    ∙ ap₂ (λ (x y : ℕ). sets l (512 * k + 508) (little_bytes 2 x ++ little_bytes 2 y)) p q
    ∙ ap (λ (t : List ℕ). seal t k) e
    ∙ ap (λ (n : ℕ). sealed n s) (sym (add-one k))

-- ---- in the front of a longer list: the sums look at their block only

seal-front : (p q : List ℕ) (k : ℕ) → 512 * suc k ≤ length p → seal (p ++ q) k ≡ seal p k ++ q
seal-front p q k h =
    let same : (i : ℕ) → i < 508 → get_or (p ++ q) (512 * k + i) 0 ≡ get_or p (512 * k + i) 0 = λ i l. get_or-append p q 0 (512 * k + i) (omega arith) in
    ap₂ (λ (a b : ℕ). sets (p ++ q) (512 * k + 508) (little_bytes 2 a ++ little_bytes 2 b))
    (sum_a-same (p ++ q) p k same 254 (le_refl 254)) (sum_b-same (p ++ q) p k same 254 (le_refl 254))
    ∙ sets-front (check_bytes p k) p q (512 * k + 508) (omega (arith, length_check p k))

pub sealed-front : (n : ℕ) (p q : List ℕ) → 512 * n ≤ length p → sealed n (p ++ q) ≡ sealed n p ++ q
unfolding sealed
sealed-front zero p q h = refl
sealed-front (suc n) p q h =
    ap (λ (l : List ℕ). seal l n) (sealed-front n p q (omega arith)) ∙ seal-front (sealed n p) q n (omega (arith, length-sealed n p))

-- ---- checks that are right, written again

right-stands : (s : List ℕ) (k : ℕ) → Bytes s → block_right s k ≡ true → Stands s (512 * k + 508) (check_bytes s k)
unfolding block_right
right-stands s k bytes right =
    let first : Bool = eqb (little 2 s (512 * k + 508)) (sum_a 254 s k) in
    let second : Bool = eqb (little 2 s (512 * k + 510)) (sum_b 254 s k) in
    let a : little 2 s (512 * k + 508) ≡ sum_a 254 s k = eqb-true (little 2 s (512 * k + 508)) (sum_a 254 s k) (and_left first second right) in
    let b : little 2 s (512 * k + 510) ≡ sum_b 254 s k = eqb-true (little 2 s (512 * k + 510)) (sum_b 254 s k) (and_right first second right) in
    let next : 512 * k + 508 + 2 ≡ 512 * k + 510 = omega arith in
    stands-append s (512 * k + 508) (little_bytes 2 (sum_a 254 s k)) (little_bytes 2 (sum_b 254 s k)) 2 (length-little 2 (sum_a 254 s k))
    (rw (← a) (little-read s bytes 2 (512 * k + 508)))
    (rw (next, ← b) (little-read s bytes 2 (512 * k + 510)))

pub sealed_again : (n : ℕ) (s : List ℕ) → Bytes s → ((k : ℕ) → k < n → block_right s k ≡ true) → sealed n s ≡ s
unfolding sealed
sealed_again zero s bytes right = refl
sealed_again (suc n) s bytes right =
    ap (λ (l : List ℕ). seal l n) (sealed_again n s bytes (λ k l. right k (omega arith)))
    ∙ sets_again (check_bytes s n) s (512 * n + 508) (right-stands s n bytes (right n (omega arith)))

-- lists that agree but for the checks agree once they have them
pub sealed-same : (n : ℕ) (s t : List ℕ) → 512 * n ≤ length s → 512 * n ≤ length t → ((p : ℕ) → p < 512 * n → p % 512 < 508 → get_or s p 0 ≡ get_or t p 0)
    → (p : ℕ) → p < 512 * n → get_or (sealed n s) p 0 ≡ get_or (sealed n t) p 0
unfolding sealed
sealed-same zero s t long-s long-t same p l = absurd (omega arith)
sealed-same (suc n) s t long-s long-t same p l = elim (dec_lt p (512 * n)) [
  | yes below ↦
      seal-outside (sealed n s) n p (λ x y. omega arith)
      ∙ sealed-same n s t (omega arith) (omega arith) (λ i m. same i (omega arith)) p below
      ∙ sym (seal-outside (sealed n t) n p (λ x y. omega arith))
  | no g ↦ elim (dec_lt (p % 512) 508) [
    | yes free ↦ sealed-outside (suc n) s p free ∙ same p l free ∙ sym (sealed-outside (suc n) t p free)
    | no check ↦
        let j : ℕ = p - (512 * n + 508) in
        let here : p ≡ 512 * n + 508 + j = omega arith in
        let block : (i : ℕ) → i < 508 → get_or (sealed n s) (512 * n + i) 0 ≡ get_or (sealed n t) (512 * n + i) 0 =
        λ i m. sealed-outside n s (512 * n + i) (omega arith) ∙ same (512 * n + i) (omega arith) (omega arith) ∙ sym (sealed-outside n t (512 * n + i) (omega arith)) in
        let sums : check_bytes (sealed n s) n ≡ check_bytes (sealed n t) n =
        ap₂ (λ (a b : ℕ). little_bytes 2 a ++ little_bytes 2 b)
        (sum_a-same (sealed n s) (sealed n t) n block 254 (le_refl 254)) (sum_b-same (sealed n s) (sealed n t) n block 254 (le_refl 254)) in
        rw here (written s long-s j (omega arith) ∙ ap (λ (l : List ℕ). get_or l j 0) sums ∙ sym (written t long-t j (omega arith)))
  ]
]
  where
    written : (s : List ℕ) → 512 * suc n ≤ length s → (j : ℕ) → j < 4 → get_or (seal (sealed n s) n) (512 * n + 508 + j) 0 ≡ get_or (check_bytes (sealed n s) n) j 0
    written s long j l =
        get_d_sets-inside (check_bytes (sealed n s) n) (sealed n s) (512 * n + 508) (omega (arith, length_check (sealed n s) n, length-sealed n s)) j
        (omega (arith, length_check (sealed n s) n))
