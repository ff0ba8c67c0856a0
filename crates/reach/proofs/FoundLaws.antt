-- Laws of a number that is found, or is not there. Assumes nothing.
use mathlib.Core.Path.{◌≡◌, refl, sym, ap, ◌∙◌}
use mathlib.Core.Bool.{Bool, true, false}
use mathlib.Core.List.{List}
use Prim.Native.Nat.{ℕ, ◌*◌, ◌<◌}
use native.Mathlib.Nat.{le_refl}
use native.Mathlib.Omega.{arith}
use lib.ListN.{length}
use Rattle.std.specs.Prelude.{Some, None}
use Rattle.rows.specs.Lowest.{lowest, highest, found, found_last}
use Rattle.rows.specs.Row.{has, only_first}
use Rattle.rows.proofs.FoundLaws.{below-some, below-none, some-below, none-below}
use Rattle.rows.proofs.LowestLaws.{lowest_low, lowest_hit, lowest-none, highest-at, highest_past}
use Rattle.rows.proofs.RowLaws.{has_within, none_within, only_below, only-lowest}

-- ---- where a loop found it, or found none

pub found_hit : (n : ℕ) (f : ℕ → Bool) (a : ℕ) → a < n → ((k : ℕ) → k < a → f k ≡ false) → f a ≡ true → Some a ≡ found n f
found_hit n f a h b e = rw (lowest_hit n f a h b e) (sym (some-below n a h))

pub found-nowhere : (n : ℕ) (f : ℕ → Bool) → ((k : ℕ) → k < n → f k ≡ false) → None ≡ found n f
found-nowhere n f b = rw (lowest-none n f b) (sym (none-below n n (le_refl n)))

-- ---- the lowest member of a row l that m lacks, or none

pub none-lacking : (l m : List ℕ) → found (64 * length l) (only_first l m) ≡ None → (x : ℕ) → has l x ≡ true → has m x ≡ true
none-lacking l m e x t =
    let n : ℕ = 64 * length l in
    only_below l m n (lowest n (only_first l m)) refl x (omega (arith, below-none n (lowest n (only_first l m)) e, has_within l x t)) t

pub lacking-member : (l m : List ℕ) (a : ℕ) → found (64 * length l) (only_first l m) ≡ Some a → has l a ≡ true
lacking-member l m a e =
    let n : ℕ = 64 * length l in
    let p = below-some n (lowest n (only_first l m)) a e in
    (only-lowest l m n a p.0 (omega (arith, p.0, p.1))).0

-- ---- the member that is taken first

pub lowest-picked : (l : List ℕ) (a : ℕ) → Some a ≡ found (64 * length l) (has l) → has l a ≡ true
lowest-picked l a e =
    let p = below-some (64 * length l) (lowest (64 * length l) (has l)) a (sym e) in
    ap (has l) p.0 ∙ (lowest_low (64 * length l) (has l)).at p.1

pub lowest-left : (l : List ℕ) (x : ℕ) → None ≡ found (64 * length l) (has l) → has l x ≡ false
lowest-left l x e =
    none_within l (λ x k. (lowest_low (64 * length l) (has l)).below x (omega (arith, below-none (64 * length l) (lowest (64 * length l) (has l)) (sym e)))) x

pub highest-picked : (l : List ℕ) (a : ℕ) → Some a ≡ found_last (64 * length l) (has l) → has l a ≡ true
highest-picked l a e =
    let p = below-some (64 * length l) (highest (64 * length l) (has l)) a (sym e) in
    highest-at (64 * length l) (has l) a p.0 (omega (arith, p.0, p.1))

pub highest-left : (l : List ℕ) (x : ℕ) → None ≡ found_last (64 * length l) (has l) → has l x ≡ false
highest-left l x e =
    let h : ℕ = highest (64 * length l) (has l) in
    none_within l (highest_past (64 * length l) (has l) h refl (below-none (64 * length l) h (sym e))) x
