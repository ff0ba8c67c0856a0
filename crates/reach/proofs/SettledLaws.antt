-- Laws of settled rows: an event whose row has settled members only reaches itself no more than they do. Assumes nothing.
use mathlib.Core.Path.{◌≡◌, sym, ◌∙◌, subst}
use mathlib.Core.Bool.{true, false}
use mathlib.Core.List.{List}
use Prim.Native.Nat.{ℕ, ◌/◌, ◌<◌}
use lib.Dec.{eqb}
use lib.ListN.{length, replicate}
use Rattle.rows.specs.Row.{has, insert, row_at}
use Rattle.rows.specs.Relation.{reaches, related}
use Rattle.reach.specs.Walks.{Settled}
use Rattle.rows.proofs.Tests.{tell, never, or_right}
use Rattle.rows.proofs.RowLaws.{has-insert, insert_elim, has_cleared}
use Rattle.rows.proofs.ReachLaws.{steps_back, reaches-sound}

pub settled_none : (g : List ℕ) (n w k : ℕ) → Settled g n w (replicate k 0)
settled_none g n w k = record {
  below = λ b e. absurd (tell (has (replicate k 0) b) e (has_cleared k b));
  closed = λ b x e. absurd (tell (has (replicate k 0) b) e (has_cleared k b));
  ringless = λ b e. absurd (tell (has (replicate k 0) b) e (has_cleared k b));
}

module _ {g : List ℕ} {n w : ℕ} {l : List ℕ} (s : Settled g n w l) (b : ℕ) (inside : (x : ℕ) → has (row_at g w b) x ≡ true → has l x ≡ true) where
  -- a chain that ends in b starts in a member
  pub settled_start : (a : ℕ) → reaches n (related g w) a b ≡ true → has l a ≡ true
  settled_start a e = steps_back (λ x. has l x ≡ true) (reaches-sound n (related g w) a b e) inside (λ x y t m. s.closed y x m t)

  -- so b reaches itself only if it was settled before, and then it does not
  pub settled_ringless : reaches n (related g w) b b ≡ false
  settled_ringless = never (reaches n (related g w) b b) (λ e. tell (reaches n (related g w) b b) e (s.ringless b (settled_start b e)))

  pub settled_more : {m : List ℕ} → m ≡ insert l b → b < n → b / 64 < length l → Settled g n w m
  settled_more p h k = rw p (record {
    below = λ c e. insert_elim l b c k e (λ q. subst (λ (y : ℕ). y < n) q h) (s.below c);
    closed = λ c x e t.
        has-insert l b x k ∙ or_right (eqb b x) (has l x)
        (insert_elim l b c k e (λ q. inside x (subst (λ (y : ℕ). has (row_at g w y) x ≡ true) (sym q) t)) (λ q. s.closed c x q t));
    ringless = λ c e.
        insert_elim l b c k e (λ q. subst (λ (y : ℕ). reaches n (related g w) y y ≡ false) q settled_ringless) (s.ringless c);
  })
