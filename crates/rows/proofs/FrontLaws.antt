-- Laws of a slice that a loop writes from the front: `p ++ drop i l` is the list l with its first i numbers replaced by p. Assumes nothing.
use mathlib.Core.Path.{◌≡◌, sym, ap, ap₂, ◌∙◌}
use mathlib.Core.List.{List, [], ◌∷◌, ◌++◌, append-nil}
use Prim.Native.Nat.{ℕ, suc, ◌+◌, ◌≤◌, ◌<◌}
use native.Mathlib.Numerals.{add-one}
use lib.ListN.{length, get_or, set, take, drop, replicate, drop_of_length-le, replicate-append-replicate}
use lib.Seq.{set_at, drop-cons, append_snoc, take-suc}

-- one more number: q is p with x after it
pub front-more : (p : List ℕ) {q : List ℕ} (l : List ℕ) {d : List ℕ} (i x : ℕ) → d ≡ p ++ drop i l → q ≡ p ++ (x ∷ []) → length p ≡ i → i < length l → set d i x ≡ q ++ drop (i + 1) l
front-more p l i x e f h k =
    ap (λ (r : List ℕ). set r i x) (e ∙ ap (λ (r : List ℕ). p ++ r) (drop-cons l i 0 k))
    ∙ set_at p (get_or l i 0) (drop (suc i) l) x i h
    ∙ sym (append_snoc p x (drop (suc i) l))
    ∙ ap₂ (λ (r : List ℕ) (j : ℕ). r ++ drop j l) (sym f) (sym (add-one i))

pub front_all : (p l : List ℕ) {d : List ℕ} (i : ℕ) → d ≡ p ++ drop i l → length l ≤ i → d ≡ p
front_all p l i e h = e ∙ ap (λ (r : List ℕ). p ++ r) (drop_of_length-le l h) ∙ append-nil p

-- what is written: one number everywhere, or another list
pub replicate_more : (i v : ℕ) → replicate (i + 1) v ≡ replicate i v ++ (v ∷ [])
replicate_more i v = sym (replicate-append-replicate i 1 v)

pub take_more : (s : List ℕ) (i : ℕ) → i < length s → take (i + 1) s ≡ take i s ++ (get_or s i 0 ∷ [])
take_more s i h = rw add-one (take-suc s i 0 h)
