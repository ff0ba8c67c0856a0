-- Bytes after stores: what is stored stands where it was stored, and every other byte is as it was. Assumes nothing.
use mathlib.Core.Path.{◌≡◌, refl, sym, ap, ◌∙◌}
use mathlib.Core.List.{List, [], ◌∷◌, ◌++◌}
use Prim.Native.Nat.{ℕ, zero, suc, ◌+◌, ◌-◌, ◌<◌, ◌≤◌}
use native.Mathlib.Nat.{add-zero, add-suc, suc-add}
use native.Mathlib.Omega.{arith}
use native.Mathlib.Decide.{dec_lt}
use lib.ListN.{length, get_or, set, replicate, length-set, length-append, get_or-append}
use lib.Seq.{sets, get_or-set_same, get_or-set_other, get_or-append-add, set-append_left}

-- the numbers vs stand in s from `at` on
abbrev pub Stands : List ℕ → ℕ → List ℕ → Type 0
Stands s at vs = (j : ℕ) → j < length vs → get_or s (at + j) 0 ≡ get_or vs j 0

-- place p is none of the k places from `at` on
abbrev pub Outside : ℕ → ℕ → ℕ → Type 0
Outside p at k = at ≤ p → p < at + k → ⊥

-- ---- after a run of stores

pub get_d_sets-outside : (vs l : List ℕ) (at p : ℕ) → Outside p at (length vs) → get_or (sets l at vs) p 0 ≡ get_or l p 0
get_d_sets-outside [] l at p h = refl
get_d_sets-outside (a ∷ vs) l at p h =
    get_d_sets-outside vs (set l at a) (suc at) p (λ x y. h (omega arith) (omega arith))
    ∙ get_or-set_other l at p a 0 (λ e. h (omega arith) (omega arith))

pub get_d_sets-inside : (vs l : List ℕ) (at : ℕ) → at + length vs ≤ length l → Stands (sets l at vs) at vs
get_d_sets-inside [] l at h j k = absurd (omega arith)
get_d_sets-inside (a ∷ vs) l at h zero k =
    let here : at + 0 ≡ at = omega arith in
    rw here (get_d_sets-outside vs (set l at a) (suc at) at (λ x y. omega arith) ∙ get_or-set_same l at a 0 (omega arith))
get_d_sets-inside (a ∷ vs) l at h (suc j) k =
    let next : at + suc j ≡ suc at + j = omega arith in
    rw next (get_d_sets-inside vs (set l at a) (suc at) (omega (arith, length-set l at a)) j (omega arith))

-- ---- two runs of stores in a row are one

pub sets-append : (a b l : List ℕ) (at : ℕ) → sets (sets l at a) (at + length a) b ≡ sets l at (a ++ b)
sets-append [] b l at = rw add-zero
sets-append (x ∷ a) b l at =
    ap (λ (p : ℕ). sets (sets (set l at x) (suc at) a) p b) (add-suc at (length a) ∙ sym (suc-add at (length a)))
    ∙ sets-append a b (set l at x) (suc at)

-- the same of the lists that two calls leave
pub sets_then : (a b l m r : List ℕ) (at next : ℕ) → m ≡ sets l at a → r ≡ sets m next b → next ≡ at + length a → r ≡ sets l at (a ++ b)
sets_then a b l m r at next e f p = f ∙ rw (e, p) (sets-append a b l at)

-- stores into the front of a list leave the rest alone
pub sets-front : (vs p q : List ℕ) (at : ℕ) → at + length vs ≤ length p → sets (p ++ q) at vs ≡ sets p at vs ++ q
sets-front [] p q at h = refl
sets-front (a ∷ vs) p q at h =
    ap (λ (l : List ℕ). sets l (suc at) vs) (set-append_left p q at a (omega arith))
    ∙ sets-front vs (set p at a) q (suc at) (omega (arith, length-set p at a))

-- ---- what stands, stored again, changes nothing

set_again : (l : List ℕ) (at a : ℕ) → get_or l at 0 ≡ a → set l at a ≡ l
set_again [] at a e = refl
set_again (x ∷ l) zero a e = ap (λ (y : ℕ). y ∷ l) (sym e)
set_again (x ∷ l) (suc at) a e = ap (λ (m : List ℕ). x ∷ m) (set_again l at a e)

pub sets_again : (vs l : List ℕ) (at : ℕ) → Stands l at vs → sets l at vs ≡ l
sets_again [] l at h = refl
sets_again (a ∷ vs) l at h =
    let here : at ≡ at + 0 = omega arith in
    ap (λ (m : List ℕ). sets m (suc at) vs) (set_again l at a (rw here (h 0 (omega arith))))
    ∙ sets_again vs l (suc at) (λ j k. let next : suc at + j ≡ at + suc j = omega arith in rw next (h (suc j) (omega arith)))

-- ---- parts of what stands

pub stands-front : (s : List ℕ) (at : ℕ) (a b : List ℕ) → Stands s at (a ++ b) → Stands s at a
stands-front s at a b h j k = h j (omega (arith, length-append a b)) ∙ get_or-append a b 0 j k

pub stands-back : (s : List ℕ) (at : ℕ) (a b : List ℕ) (off : ℕ) → length a ≡ off → Stands s at (a ++ b) → Stands s (at + off) b
stands-back s at a b off e h j k =
    let place : at + off + j ≡ at + (length a + j) = omega arith in
    rw place (h (length a + j) (omega (arith, length-append a b)) ∙ get_or-append-add a b j 0)

pub stands_head : (s : List ℕ) (at x : ℕ) (l : List ℕ) → Stands s at (x ∷ l) → get_or s at 0 ≡ x
stands_head s at x l h = let here : at ≡ at + 0 = omega arith in rw here (h 0 (omega arith))

pub stands_tail : (s : List ℕ) (at x : ℕ) (l : List ℕ) → Stands s at (x ∷ l) → Stands s (at + 1) l
stands_tail s at x l h = stands-back s at (x ∷ []) l 1 refl h

-- what stands, put together
pub stands-append : (s : List ℕ) (at : ℕ) (a b : List ℕ) (off : ℕ) → length a ≡ off → Stands s at a → Stands s (at + off) b → Stands s at (a ++ b)
stands-append s at a b off e f g j k = elim (dec_lt j (length a)) [
  | yes l ↦ f j l ∙ sym (get_or-append a b 0 j l)
  | no m ↦
      let i : ℕ = j - length a in
      let split : j ≡ length a + i = omega arith in
      let place : at + j ≡ at + off + i = omega arith in
      ap (λ (p : ℕ). get_or s p 0) place ∙ g i (omega (arith, length-append a b)) ∙ sym (get_or-append-add a b i 0)
      ∙ ap (λ (p : ℕ). get_or (a ++ b) p 0) (sym split)
]

pub stands_cons : (s : List ℕ) (at x : ℕ) (l : List ℕ) → get_or s at 0 ≡ x → Stands s (at + 1) l → Stands s at (x ∷ l)
stands_cons s at x l e f = stands-append s at (x ∷ []) l 1 refl first f
  where
    first : Stands s at (x ∷ [])
    first zero k = let here : at + 0 ≡ at = omega arith in rw here e
    first (suc j) k = absurd (omega arith)

-- a list of zeros
pub zero-at : (n p : ℕ) → get_or {A = ℕ} (replicate n 0) p 0 ≡ 0
zero-at zero p = refl
zero-at (suc n) zero = refl
zero-at (suc n) (suc p) = zero-at n p

-- ---- numbers below 256

abbrev pub Bytes : List ℕ → Type 0
Bytes s = (i : ℕ) → get_or s i 0 < 256

pub bytes_nil : Bytes []
bytes_nil i = omega arith

pub bytes_cons : (x : ℕ) (l : List ℕ) → x < 256 → Bytes l → Bytes (x ∷ l)
bytes_cons x l h k zero = h
bytes_cons x l h k (suc i) = k i

pub bytes_append : (a b : List ℕ) → Bytes a → Bytes b → Bytes (a ++ b)
bytes_append [] b h k = k
bytes_append (x ∷ a) b h k = bytes_cons x (a ++ b) (h 0) (bytes_append a b (λ i. h (suc i)) k)

pub bytes_zero : (n : ℕ) → Bytes (replicate n 0)
bytes_zero zero = bytes_nil
bytes_zero (suc n) = bytes_cons 0 (replicate n 0) (omega arith) (bytes_zero n)

bytes_set : (l : List ℕ) (i a : ℕ) → Bytes l → a < 256 → Bytes (set l i a)
bytes_set [] i a h k = h
bytes_set (x ∷ l) zero a h k = bytes_cons a l k (λ j. h (suc j))
bytes_set (x ∷ l) (suc i) a h k = bytes_cons x (set l i a) (h 0) (bytes_set l i a (λ j. h (suc j)) k)

pub bytes_sets : (vs l : List ℕ) (at : ℕ) → Bytes l → Bytes vs → Bytes (sets l at vs)
bytes_sets [] l at h k = h
bytes_sets (a ∷ vs) l at h k = bytes_sets vs (set l at a) (suc at) (bytes_set l at a h (k 0)) (λ j. k (suc j))
