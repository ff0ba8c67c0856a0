-- Laws of a table with one place changed, and of the numbers below a successor. Assumes nothing.
use mathlib.Core.Path.{◌≡◌, refl, ap, ◌∙◌, fun_ext}
use mathlib.Core.Bool.{Bool, true, false, cond}
use Prim.Native.Nat.{ℕ, suc, ◌<◌, ◌≤◌}
use native.Mathlib.Omega.{arith}
use lib.Dec.{ltb, eqb}
use borrow.Author.Tests.{ltb-true, ltb-false, eqb-true, eqb-false}
use Rattle.rows.proofs.Tests.{split}
use Rattle.store.specs.Store.{upd}

-- what holds of x where j is i, and of f j elsewhere, holds of the changed f at j
pub upd_elim : {A : Type 0} (P : A → Type 0) (f : ℕ → A) (i : ℕ) (x : A) (j : ℕ) → (j ≡ i → P x) → ((j ≡ i → ⊥) → P (f j)) → P (upd f i x j)
upd_elim {A} P f i x j here there = go (eqb j i) refl
  where
    go : (t : Bool) → eqb j i ≡ t → P (cond t x (f j))
    go true e = here (eqb-true j i e)
    go false e = there (eqb-false j i e)

pub upd_same : {A : Type 0} (f : ℕ → A) (i : ℕ) (x : A) → upd f i x i ≡ x
upd_same {A} f i x = upd_elim (λ (y : A). y ≡ x) f i x i (λ q. refl) (λ q. absurd (q refl))

pub upd-below : {A : Type 0} (f : ℕ → A) (i : ℕ) (x : A) (j : ℕ) → j < i → upd f i x j ≡ f j
upd-below {A} f i x j l = upd_elim (λ (y : A). y ≡ f j) f i x j (λ q. absurd (omega arith)) (λ q. refl)

-- storing what is there changes nothing
pub upd-there : {A : Type 0} (f : ℕ → A) (i : ℕ) (x : A) → f i ≡ x → f ≡ upd f i x
upd-there {A} f i x e = fun_ext (λ j. upd_elim (λ (y : A). f j ≡ y) f i x j (λ q. ap f q ∙ e) (λ q. refl))

-- raising the count at j lowers none
pub raise_le : (f : ℕ → ℕ) (j i : ℕ) → f i ≤ upd f j (suc (f j)) i
raise_le f j i = upd_elim (λ (y : ℕ). f i ≤ y) f j (suc (f j)) i (λ q. rw q (omega arith)) (λ q. omega arith)

-- a number below suc k is below k or is k
pub lt_suc_elim : {C : Type 0} (e k : ℕ) → e < suc k → (e < k → C) → (e ≡ k → C) → C
lt_suc_elim e k h f g = split (ltb e k) (λ t. f (ltb-true e k t)) (λ t. g (omega (arith, ltb-false e k t)))
