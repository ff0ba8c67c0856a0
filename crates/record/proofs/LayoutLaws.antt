-- Laws of bytes that are zero, and of the four letters that begin a record. Assumes nothing.
use mathlib.Core.Path.{◌≡◌, refl, sym, ap, ap₂, ◌∙◌}
use mathlib.Core.Bool.{Bool, true, false, ◌&&◌, and-true, and_assoc, true≢false}
use mathlib.Core.List.{List, [], ◌∷◌}
use Prim.Native.Nat.{ℕ, zero, suc, ◌+◌, ◌-◌, ◌/◌, ◌%◌, min, ◌<◌, ◌≤◌}
use native.Mathlib.Omega.{arith}
use borrow.Author.Tests.{eqb-true, ne_eqb}
use lib.Bits.{bit_or, or_zero_l, or_add_and, and_le_r}
use lib.Dec.{eqb}
use lib.Pointwise.{pointwise}
use lib.ListN.{length, take, drop, length-take}
use Rattle.std.specs.List.{fold}
use Rattle.std.proofs.lemmas.List.{drop_more}
use Rattle.std.proofs.lemmas.Grind.{div_ceil_times}
use Rattle.std.proofs.Math.Nat.{div-eq_of_lt-le}
use Rattle.rows.proofs.Tests.{never, and_left, and_right}
use Rattle.record.specs.Layout.{EditionName, GCR1, GCR2, GCR3, edition, gcr1, gcr2, gcr3, named_by, edition_of, byte, zeros, same}

-- ---- bytes put together

-- numbers put together are 0 where both are
or-none : (a b : ℕ) → eqb (bit_or a b) 0 ≡ eqb a 0 && eqb b 0
or-none zero b = ap (λ (x : ℕ). eqb x 0) (or_zero_l b)
or-none (suc a) b =
    ne_eqb (bit_or (suc a) b) 0 (λ e. omega (arith, or_add_and (suc a) b, and_le_r (suc a) b))
    ∙ ap (λ (t : Bool). t && eqb b 0) (sym (ne_eqb (suc a) 0 (λ e. omega arith)))

-- the k bytes from `at` on, and a number before them
put : (k : ℕ) (s : List ℕ) (at a : ℕ) → at + k ≤ length s → eqb (fold bit_or a (take k (drop at s))) 0 ≡ eqb a 0 && zeros k s at
unfolding zeros
put zero s at a h = sym (and-true (eqb a 0))
put (suc k) s at a h =
    rw (drop_more s at 0 (omega arith)) (put k s (at + 1) (bit_or a (byte s at)) (omega arith) ∙ rw (or-none, and_assoc))

pub zeros_put : (k : ℕ) (s : List ℕ) (at : ℕ) → at + k ≤ length s → eqb (fold bit_or 0 (take k (drop at s))) 0 ≡ zeros k s at
zeros_put k s at h = put k s at 0 h

-- ---- a quotient rounded up

pub rounded_up : (n d : ℕ) → 0 < d → n / d + min 1 (n % d) ≡ (n + (d - 1)) / d
rounded_up n d h =
    let b = div_ceil_times n d h in
    sym (div-eq_of_lt-le {k = n / d + min 1 (n % d)} d {m = n + (d - 1)} (omega (arith, b.1)) (omega (arith, b.0)))

-- ---- the letters

-- as the code compares slices
pub same_slices : (l m : List ℕ) → pointwise eqb l m ≡ same l m
unfolding same
same_slices [] [] = refl
same_slices [] (y ∷ m) = refl
same_slices (x ∷ l) [] = refl
same_slices (x ∷ l) (y ∷ m) = ap (λ (t : Bool). eqb x y && t) (same_slices l m)

-- two lists that are the same to a test are one
pub same-one : (l m : List ℕ) → same l m ≡ true → l ≡ m
unfolding same
same-one [] [] e = refl
same-one [] (y ∷ m) e = absurd (true≢false (sym e))
same-one (x ∷ l) [] e = absurd (true≢false (sym e))
same-one (x ∷ l) (y ∷ m) e =
    ap₂ (λ (a : ℕ) (r : List ℕ). a ∷ r) (eqb-true x y (and_left (eqb x y) (same l m) e)) (same-one l m (and_right (eqb x y) (same l m) e))

-- ---- which edition a record is of

-- each edition's letters name it
named_back : (e : EditionName) → named_by (edition e).letters ≡ e
unfolding same
named_back GCR1 = refl
named_back GCR2 = refl
named_back GCR3 = refl

pub letters-name : (e : EditionName) (s : List ℕ) → same (take 4 s) (edition e).letters ≡ true → edition_of s ≡ edition e
letters-name e s t = ap (λ (l : List ℕ). edition (named_by l)) (same-one (take 4 s) (edition e).letters t) ∙ ap edition (named_back e)

-- records that begin with the same letters are of one edition
pub same-letters : (s t : List ℕ) → take 4 s ≡ take 4 t → edition_of s ≡ edition_of t
same-letters s t q = ap (λ (l : List ℕ). edition (named_by l)) q

-- fewer than four letters name none
pub short-letters : (s letters : List ℕ) → length s < 4 → length letters ≡ 4 → same (take 4 s) letters ≡ false
short-letters s letters h k = never (same (take 4 s) letters) (λ t. omega (arith, ap length (same-one (take 4 s) letters t), length-take 4 s))

-- where the letters are no other's it is a `GCR1`
pub edition-first : (s : List ℕ) → same (take 4 s) gcr3.letters ≡ false → same (take 4 s) gcr2.letters ≡ false → edition_of s ≡ gcr1
edition-first s t u = rw (t, u)
