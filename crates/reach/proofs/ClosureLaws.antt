-- Laws of closing a table in place: round k adds the steps over event k to each row. Assumes nothing.
use mathlib.Core.Path.{◌≡◌, refl, sym, ap, ap₂, ◌∙◌}
use mathlib.Core.Bool.{Bool, true, false, ◌&&◌, ◌||◌, and_comm, or-false}
use mathlib.Core.List.{List}
use Prim.Native.Nat.{ℕ, ◌+◌, ◌*◌, ◌≤◌, ◌<◌}
use native.Mathlib.Numerals.{add-one}
use native.Mathlib.Omega.{arith}
use borrow.Author.Tests.{ltb-true, ltb-false}
use lib.Dec.{ltb}
use lib.ListN.{length}
use Rattle.rows.specs.Row.{has, or_part, row_at}
use Rattle.rows.specs.Relation.{via, reaches, related}
use Rattle.reach.specs.Walks.{Closure}
use Rattle.rows.proofs.Tests.{split}
use Rattle.rows.proofs.RowLaws.{has-or}
use Rattle.rows.proofs.TableLaws.{length-row, length-or_part, row-or-same, row-or-other}

-- ---- one round: a row that has k takes in m, the row of k

-- the rows below b are through, and the others as they were
pub record Taken (g₀ : List ℕ) (k : ℕ) (m : List ℕ) (b : ℕ) (g : List ℕ) : Type 0 where
  pub size : length g ≡ length g₀
  pub done : (c x : ℕ) → c < b → has (row_at g (length m) c) x ≡ has (row_at g₀ (length m) c) x || has (row_at g₀ (length m) c) k && has m x
  pub left : (c : ℕ) → b ≤ c → row_at g (length m) c ≡ row_at g₀ (length m) c

pub taken_none : (g : List ℕ) (k : ℕ) (m : List ℕ) → Taken g k m 0 g
taken_none g k m = record { size = refl; done = λ c x h. absurd (omega arith); left = λ c h. refl }

module _ (g₀ : List ℕ) (k : ℕ) (m : List ℕ) (b : ℕ) (g : List ℕ) (i : Taken g₀ k m b g) where
  -- row b follows, and no other changes
  taken_next : (g' : List ℕ) → length g' ≡ length g
      → ((x : ℕ) → has (row_at g' (length m) b) x ≡ has (row_at g (length m) b) x || has (row_at g (length m) b) k && has m x)
      → ((c : ℕ) → (c ≡ b → ⊥) → row_at g' (length m) c ≡ row_at g (length m) c) → Taken g₀ k m (b + 1) g'
  taken_next g' l here there = record {
    size = l ∙ i.size;
    done = λ c x h. split (ltb c b)
        (λ t. let q : c < b = ltb-true c b t in ap (λ (r : List ℕ). has r x) (there c (λ e. omega arith)) ∙ i.done c x q)
        (λ t. let q : c ≡ b = omega (arith, ltb-false c b t) in
        rw q (here x ∙ ap (λ (r : List ℕ). has r x || has r k && has m x) (i.left b (omega arith))));
    left = λ c h. there c (λ e. omega arith) ∙ i.left c (omega arith);
  }

  pub taken_in : (g' : List ℕ) → b * length m + length m ≤ length g → g' ≡ or_part g (b * length m) m → has (row_at g (length m) b) k ≡ true → Taken g₀ k m (b + 1) g'
  taken_in g' room e t = rw e (taken_next (or_part g (b * length m) m) (length-or_part g (length m) b m refl room)
      (λ x.
      ap (λ (r : List ℕ). has r x) (row-or-same g (length m) b m refl room)
      ∙ has-or (row_at g (length m) b) m x (omega (arith, length-row g (length m) b room))
      ∙ ap (λ (u : Bool). has (row_at g (length m) b) x || u && has m x) (sym t))
      (row-or-other g (length m) b m refl room))

  pub taken_skip : (g' : List ℕ) → g' ≡ g → has (row_at g (length m) b) k ≡ false → Taken g₀ k m (b + 1) g'
  taken_skip g' e t = rw e (taken_next g refl
      (λ x. sym (ap (λ (u : Bool). has (row_at g (length m) b) x || u && has m x) t ∙ or-false (has (row_at g (length m) b) x)))
      (λ c ne. refl))

-- ---- all rounds

-- after k rounds row b has the events from which steps over events below k lead to b
abbrev pub Rounds : ℕ → ℕ → List ℕ → ℕ → List ℕ → Type 0
Rounds n w g₀ k g = (b x : ℕ) → b < n → has (row_at g w b) x ≡ via (related g₀ w) k x b

pub rounds_none : (n w : ℕ) (g : List ℕ) → Rounds n w g 0 g
unfolding via
rounds_none n w g b x h = refl

module _ (n w : ℕ) (g₀ : List ℕ) (k : ℕ) (g : List ℕ) (i : Rounds n w g₀ k g) where
  pub rounds_more : (m g' : List ℕ) → k < n → m ≡ row_at g w k
      → ((b x : ℕ) → b < n → has (row_at g' w b) x ≡ has (row_at g w b) x || has (row_at g w b) k && has m x) → Rounds n w g₀ (k + 1) g'
  unfolding via
  rounds_more m g' h e taken b x l = rw add-one
      (taken b x l
      ∙ ap (λ (r : List ℕ). has (row_at g w b) x || has (row_at g w b) k && has r x) e
      ∙ ap₂ (λ (s t : Bool). s || t && has (row_at g w k) x) (i b x l) (i b k l)
      ∙ ap (λ (t : Bool). via (related g₀ w) k x b || via (related g₀ w) k k b && t) (i k x h)
      ∙ ap (λ (t : Bool). via (related g₀ w) k x b || t) (and_comm (via (related g₀ w) k k b) (via (related g₀ w) k x k)))

  -- at the end the table is closed
  pub rounds_all : k ≡ n → Closure n w g₀ g
  unfolding reaches
  rounds_all e b x h = i b x h ∙ ap (λ (j : ℕ). via (related g₀ w) j x b) e
