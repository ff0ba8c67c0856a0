-- Laws of tables that are closed row by row: an event whose row has settled members only, whose rows are closed, is settled next. Assumes nothing.
use mathlib.Core.Path.{◌≡◌, refl, sym, ap, ◌∙◌}
use mathlib.Core.Bool.{Bool, true, false, ◌&&◌, ◌||◌, or_comm}
use mathlib.Core.List.{List}
use Prim.Native.Nat.{ℕ, ◌/◌, ◌<◌}
use native.Mathlib.Omega.{arith}
use borrow.Author.Tests.{eq-eqb, ne_eqb}
use lib.Dec.{eqb}
use lib.ListN.{length, replicate}
use Rattle.rows.specs.Lowest.{lowest, some}
use Rattle.rows.specs.Row.{has, insert, row_at}
use Rattle.rows.specs.Relation.{reaches, related, Between, Graph}
use Rattle.reach.specs.Walks.{two_steps, Nested, Closed, Closure, Settles, Onward}
use Rattle.rows.proofs.Tests.{split, tell, never, or_elim, or_left, or_right, and_right}
use Rattle.rows.proofs.LowestLaws.{same_some, some_at}
use Rattle.rows.proofs.RowLaws.{has-insert, insert_elim, has_cleared}
use Rattle.rows.proofs.ReachLaws.{steps_back, reaches-sound, reaches_step, reaches_join, reaches-last, between_reaches}

pub closed_none : (n w k : ℕ) (g : List ℕ) → Closed n w g g (replicate k 0)
closed_none n w k g = record {
  below = λ b e. absurd (tell (has (replicate k 0) b) e (has_cleared k b));
  inside = λ b x e. absurd (tell (has (replicate k 0) b) e (has_cleared k b));
  closed = λ b x e. absurd (tell (has (replicate k 0) b) e (has_cleared k b));
  left = λ b x h e. refl;
}

module _ {n w : ℕ} {g₀ g l : List ℕ} (s : Closed n w g₀ g l) where
  pub closed_between : Between n (related g₀ w) (related g w)
  closed_between = record {
    kept = λ a b h e. split (has l b) (λ t. s.closed b a t ∙ reaches_step n (related g₀ w) a b e) (λ t. s.left b a h t ∙ e);
    sound = λ a b h e. split (has l b) (λ t. sym (s.closed b a t) ∙ e) (λ t. reaches_step n (related g₀ w) a b (sym (s.left b a h t) ∙ e));
  }

  -- closed rows are closed in their own table, and what is closed there is closed
  pub closed_again : Closed n w g g l
  closed_again = record {
    below = s.below;
    inside = s.inside;
    closed = λ b x e. s.closed b x e ∙ sym (between_reaches closed_between x b (s.below b e));
    left = λ b x h e. refl;
  }

  pub closed-then : {h m : List ℕ} → Closed n w g h m → ((x : ℕ) → has l x ≡ true → has m x ≡ true) → Closed n w g₀ h m
  closed-then {h} {m} t more = record {
    below = t.below;
    inside = t.inside;
    closed = λ b x e. t.closed b x e ∙ between_reaches closed_between x b (t.below b e);
    left = λ b x k e. t.left b x k e ∙ s.left b x k (never (has l b) (λ u. tell (has m b) (more b u) e));
  }

  pub closed_all : ((b : ℕ) → b < n → has l b ≡ true) → Closure n w g₀ g
  closed_all all b x h = s.closed b x (all b h)

-- what closes a table between g and its closure closes g
pub between_closure : {n : ℕ} (w : ℕ) (g m h : List ℕ) → Between n (related g w) (related m w) → Closure n w m h → Closure n w g h
between_closure w g m h i c b x k = c b x k ∙ between_reaches i x b k

-- a table by another name
pub closure_is : (n w : ℕ) (g h : List ℕ) {k : List ℕ} → k ≡ h → Closure n w g h → Closure n w g k
closure_is n w g h e c = rw e c

-- ---- one more row, all of whose members are settled

module _ {n w : ℕ} {g l : List ℕ} (s : Closed n w g g l) (b : ℕ) (inside : (x : ℕ) → related g w x b ≡ true → has l x ≡ true) where
  pub closed-nested : Nested g n w (row_at g w b)
  closed-nested = record {
    below = λ a e. s.below a (inside a e);
    nested = λ a c x e f t.
        let p = inside a e in
        let q = s.inside a c p f in
        s.closed a x p ∙ reaches_join n (related g w) x c a (s.below c q) (sym (s.closed c x q) ∙ t) (sym (s.closed a c p) ∙ f);
  }

  -- with the rows of its members it is closed
  row-closed : (x : ℕ) → two_steps n (related g w) x b || related g w x b ≡ reaches n (related g w) x b
  row-closed x =
      or_comm (two_steps n (related g w) x b) (related g w x b)
      ∙ ap (λ (t : Bool). related g w x b || t) (same_some n (λ a. related g w a b && related g w x a) (λ a. related g w a b && reaches n (related g w) x a) (λ a h.
      split (related g w a b) (λ t. ap (λ (u : Bool). related g w a b && u) (s.closed a x (inside a t))) (λ t. rw t)))
      ∙ sym (reaches-last n (related g w) x b)

  -- a chain that ends in b starts in a member
  start : (x : ℕ) → reaches n (related g w) x b ≡ true → has l x ≡ true
  start x e = steps_back (λ y. has l y ≡ true) (reaches-sound n (related g w) x b e) inside (λ y z t m. s.inside z y m t)

  module _ (h : List ℕ) (after : (c x : ℕ) → related h w x c ≡ eqb b c && two_steps n (related g w) x b || related g w x c) (new : has l b ≡ false) where
    here : (x : ℕ) → related h w x b ≡ reaches n (related g w) x b
    here x = after b x ∙ ap (λ (t : Bool). t && two_steps n (related g w) x b || related g w x b) (eq-eqb b b refl) ∙ row-closed x

    other : (c x : ℕ) → (b ≡ c → ⊥) → related h w x c ≡ related g w x c
    other c x ne = after c x ∙ ap (λ (t : Bool). t && two_steps n (related g w) x b || related g w x c) (ne_eqb b c ne)

    apart : (c : ℕ) → has l c ≡ true → b ≡ c → ⊥
    apart c e q = tell (has l b) (rw q e) new

    pub closed-more : {m : List ℕ} → m ≡ insert l b → b < n → b / 64 < length l → Closed n w g h m
    closed-more p k wide = rw p (record {
      below = λ c e. insert_elim l b c wide e (λ q. rw (sym q) k) (s.below c);
      inside = λ c x e t. has-insert l b x wide ∙ or_right (eqb b x) (has l x)
          (insert_elim l b c wide e (λ q. start x (sym (here x) ∙ rw q t)) (λ u. s.inside c x u (sym (other c x (apart c u)) ∙ t)));
      closed = λ c x e. insert_elim l b c wide e (λ q. rw (sym q) (here x)) (λ u. other c x (apart c u) ∙ s.closed c x u);
      left = λ c x q e. other c x (λ r. tell (has (insert l b) c) (has-insert l b c wide ∙ or_left (eqb b c) (has l c) (eq-eqb b c r)) e);
    })

-- a table whose row b is joined with those of its members has members below n, as it had
pub graph_joined : {g : List ℕ} {n w : ℕ} (b : ℕ) (h : List ℕ) → Graph g n w → length h ≡ length g
    → ((c x : ℕ) → related h w x c ≡ eqb b c && two_steps n (related g w) x b || related g w x c) → Graph h n w
graph_joined {g} {n} {w} b h m size after = record {
  size = omega (arith, m.size);
  wide = m.wide;
  fits = m.fits;
  inside = λ c x k e. or_elim (eqb b c && two_steps n (related g w) x b) (related g w x c) (sym (after c x) ∙ e)
      (λ t.
      let f : ℕ → Bool = λ a. related g w a b && related g w x a in
      let p = some_at n f (and_right (eqb b c) (some n f) t) in
      m.inside (lowest n f) x p.0 (and_right (related g w (lowest n f) b) (related g w x (lowest n f)) p.1))
      (m.inside c x k);
}

-- ---- what is settled further on

pub onward : {n w : ℕ} {g l h m : List ℕ} → Settles n w g l h m → Onward n w g l h m
onward {n} {w} s = record {
  sound = record { graph = s.graph; size = refl; closed = closed_again s.closed; more = λ x e. e };
  more = s.more;
  on = λ g₀ l₀ t. record {
    graph = s.graph;
    size = s.size ∙ t.size;
    closed = closed-then t.closed s.closed s.more;
    more = λ x e. s.more x (t.more x e);
  };
}
