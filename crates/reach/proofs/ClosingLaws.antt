-- Laws of the search backwards from an event b: `found` grows by the rows of its members, and `done` has those whose rows are in. Assumes nothing.
use mathlib.Core.Path.{◌≡◌, sym, ap, ◌∙◌}
use mathlib.Core.Bool.{Bool, true, ◌||◌}
use mathlib.Core.List.{List}
use Prim.Native.Nat.{ℕ, ◌-◌, ◌*◌, ◌^◌, ◌<◌}
use native.Mathlib.Omega.{arith}
use borrow.Author.Tests.{eqb-true}
use lib.Dec.{eqb}
use lib.ListN.{length, get_or, replicate, length-replicate}
use Rattle.std.specs.Prelude.{Some, None}
use Rattle.rows.specs.Lowest.{lowest}
use Rattle.rows.specs.Lowest as rows
use Rattle.rows.specs.Row.{has, insert, or_row, count_row, only_first, row_at, Row}
use Rattle.rows.specs.Relation.{reaches, Steps, one, more, related, Graph}
use Rattle.rows.proofs.Tests.{tell, or_elim, or_left, or_right}
use Rattle.rows.proofs.FoundLaws.{below-some}
use Rattle.rows.proofs.FreshLaws.{Fresh, fresh, has-fresh, fresh_falls}
use Rattle.rows.proofs.RowLaws.{has-or, has_cleared, length-insert, length-or, row_of}
use Rattle.rows.proofs.TableLaws.{length-row_le}
use Rattle.rows.proofs.ReachLaws.{steps_back, reaches-sound, reaches_complete}
use Rattle.reach.proofs.FoundLaws.{none-lacking}

pub record Closing (g : List ℕ) (n w b : ℕ) (found done : List ℕ) : Type 0 where
  pub wide : length found ≡ w
  pub deep : length done ≡ w
  pub sound : (x : ℕ) → has found x ≡ true → (x < n) × Steps n (related g w) x b
  pub base : (x : ℕ) → has (row_at g w b) x ≡ true → has found x ≡ true
  pub closed : (a x : ℕ) → has done a ≡ true → has (row_at g w a) x ≡ true → has found x ≡ true

-- what a row has with row a in it
with_row : (g : List ℕ) (w : ℕ) (l : List ℕ) (a x : ℕ) → length l ≡ w → has (or_row l (row_at g w a)) x ≡ has l x || has (row_at g w a) x
with_row g w l a x e = has-or l (row_at g w a) x (omega (arith, length-row_le g w a))

-- ---- it begins with b's own row

begun : {g : List ℕ} {n w : ℕ} (b : ℕ) → Graph g n w → b < n → Closing g n w b (or_row (replicate w 0) (row_at g w b)) (replicate w 0)
begun {g} {n} {w} b graph h = record {
  wide = length-or (replicate w 0) (row_at g w b) ∙ length-replicate w 0;
  deep = length-replicate w 0;
  sound = λ x e. let s : has (row_at g w b) x ≡ true = sym (same x) ∙ e in (graph.inside b x h s, one s);
  base = λ x s. same x ∙ s;
  closed = λ a x e s. absurd (tell (has (replicate w 0) a) e (has_cleared w a));
}
  where
    same : (x : ℕ) → has (or_row (replicate w 0) (row_at g w b)) x ≡ has (row_at g w b) x
    same x = with_row g w (replicate w 0) b x (length-replicate w 0) ∙ ap (λ (t : Bool). t || has (row_at g w b) x) (has_cleared w x)

pub closing_begin : {g : List ℕ} {n w b : ℕ} {z m found done : List ℕ} → Graph g n w → b < n
    → z ≡ replicate w 0 → m ≡ row_at g w b → found ≡ or_row z m → done ≡ replicate w 0 → Closing g n w b found done
closing_begin {b} graph h e p q r = rw (q, e, p, r) (begun b graph h)

-- ---- a turn takes in the row of an event that is found and not done

module _ {g : List ℕ} {n w b : ℕ} {found done : List ℕ} (i : Closing g n w b found done) where
  pub closing-next : {x : ℕ} → rows.found (64 * length found) (only_first found done) ≡ Some x → Fresh n found done x
  closing-next {x} e =
      let p = below-some (64 * length found) (lowest (64 * length found) (only_first found done)) x e in
      fresh (λ x t. (i.sound x t).0) i.wide p.0 (omega (arith, p.0, p.1, i.wide))

  grown : {a : ℕ} → Graph g n w → Fresh n found done a → Closing g n w b (or_row found (row_at g w a)) (insert done a)
  grown {a} graph p = record {
    wide = length-or found (row_at g w a) ∙ i.wide;
    deep = length-insert done a ∙ i.deep;
    sound = λ x e. or_elim (has found x) (has (row_at g w a) x) (sym (with_row g w found a x i.wide) ∙ e)
        (λ t. i.sound x t)
        (λ t. (graph.inside a x p.below t, more t p.below (i.sound a p.member).1));
    base = λ x s. kept x (i.base x s);
    closed = λ y x e s. or_elim (eqb a y) (has done y) (sym (has-fresh p i.wide i.deep y) ∙ e)
        (λ t. with_row g w found a x i.wide ∙ or_right (has found x) (has (row_at g w a) x) (rw (eqb-true a y t) s))
        (λ t. kept x (i.closed y x t s));
  }
    where
      kept : (x : ℕ) → has found x ≡ true → has (or_row found (row_at g w a)) x ≡ true
      kept x t = with_row g w found a x i.wide ∙ or_left (has found x) (has (row_at g w a) x) t

  pub closing_turn : {found' done' m : List ℕ} {a : ℕ} → Graph g n w → Fresh n found done a
      → m ≡ row_at g w a → found' ≡ or_row found m → done' ≡ insert done a → Closing g n w b found' done'
  closing_turn graph p f e q = rw (e, f, q) (grown graph p)

  -- and brings the measure down
  pub closing_falls : {done' : List ℕ} {a : ℕ} → Fresh n found done a → ((k : ℕ) → get_or done' k 0 < 2 ^ 64) → done' ≡ insert done a
      → 64 * w - count_row done' < 64 * w - count_row done
  closing_falls p words q = fresh_falls p i.wide i.deep words q

  -- ---- it ends where there is none

  pub closing_end : rows.found (64 * length found) (only_first found done) ≡ None → Row n (λ a. reaches n (related g w) a b) found
  closing_end e = row_of n (λ a. reaches n (related g w) a b) found
      (λ y e. let p = i.sound y e in (p.0, reaches_complete n (related g w) p.1))
      (λ y l t. steps_back (λ a. has found a ≡ true) (reaches-sound n (related g w) y b t) i.base (λ a c s m. i.closed c a (none-lacking found done e c m) s))
