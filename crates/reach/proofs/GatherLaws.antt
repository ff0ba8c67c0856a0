-- Laws of joining the rows of the members of l to a row, one after the other: `rest` has those that are left. Assumes nothing.
use mathlib.Core.Path.{◌≡◌, refl, sym, ap, ◌∙◌}
use mathlib.Core.Bool.{Bool, true, false, not, ◌&&◌, ◌||◌}
use mathlib.Core.List.{List}
use Prim.Native.Nat.{ℕ, ◌+◌, ◌*◌, ◌/◌, ◌^◌, ◌≤◌, ◌<◌}
use native.Mathlib.Omega.{arith}
use borrow.Author.Tests.{eq-eqb, eqb-true}
use lib.Dec.{eqb}
use lib.ListN.{length, get_or, replicate}
use Rattle.rows.specs.Lowest.{lowest, some}
use Rattle.rows.specs.Row.{has, insert, or_row, or_part, minus_row, row_at}
use Rattle.rows.specs.Relation.{related}
use Rattle.reach.specs.Walks.{two_steps, Nested}
use Rattle.rows.proofs.Tests.{split, tell, same_test, or_elim, or_left, or_right, and_both, and_left, and_right}
use Rattle.rows.proofs.LowestLaws.{some_of, some_at}
use Rattle.rows.specs.Count.{how_many}
use Rattle.rows.proofs.CountLaws.{many_less}
use Rattle.rows.proofs.RowLaws.{has-or, has-insert, insert-words, has_minus, has_within, has_cleared}
use Rattle.rows.proofs.TableLaws.{length-row_le, has-row-or}

-- ---- row a joins a row, and a leaves `rest` with the members of row a

module _ (g : List ℕ) (w a : ℕ) where
  pub row-taken : (row : List ℕ) {row' m : List ℕ} → length row ≡ w → m ≡ row_at g w a → row' ≡ or_row row m → (x : ℕ) → has row' x ≡ has row x || related g w x a
  row-taken row wide p e x = rw (e, p) (has-or row (row_at g w a) x (omega (arith, length-row_le g w a)))

  pub rest-taken : (rest : List ℕ) {rest' m : List ℕ} → m ≡ row_at g w a → ((k : ℕ) → get_or m k 0 < 2 ^ 64) → a / 64 < length m
      → rest' ≡ minus_row rest (insert m a) → (x : ℕ) → has rest' x ≡ (not (eqb a x) && has rest x) && not (related g w x a)
  rest-taken rest {rest'} {m} p words inside q x = rw q
      (has_minus rest (insert m a) x (insert-words m a inside words)
      ∙ ap (λ (t : Bool). has rest x && not t) (has-insert m a x inside ∙ ap (λ (l : List ℕ). eqb a x || has l x) p)
      ∙ apart (eqb a x) (has rest x) (related g w x a))
    where
      apart : (s t u : Bool) → t && not (s || u) ≡ (not s && t) && not u
      apart true true u = refl
      apart true false u = refl
      apart false t u = refl

-- ---- one after the other

-- what the rows of the members of l have
abbrev pub rows_have : List ℕ → ℕ → ℕ → List ℕ → ℕ → Bool
rows_have g n w l x = some n (λ a. has l a && related g w x a)

pub record Gathering (g : List ℕ) (n w : ℕ) (l m rest row : List ℕ) : Type 0 where
  pub wide : length row ≡ w
  pub deep : length rest ≡ w
  pub inside : (a : ℕ) → has rest a ≡ true → has l a ≡ true
  pub sound : (x : ℕ) → has row x ≡ true → has m x || rows_have g n w l x ≡ true
  pub kept : (x : ℕ) → has m x ≡ true → has row x ≡ true
  pub taken : (a x : ℕ) → has l a ≡ true → has rest a ≡ false → related g w x a ≡ true → has row x ≡ true

module _ {g : List ℕ} {n w : ℕ} {l m rest row : List ℕ} (i : Gathering g n w l m rest row) where
  -- a turn takes in the row of a member a
  module _ (a : ℕ) (member : has rest a ≡ true) (rest' : List ℕ)
      (less : (x : ℕ) → has rest' x ≡ (not (eqb a x) && has rest x) && not (related g w x a)) where
    still : (x : ℕ) → has rest' x ≡ true → has rest x ≡ true
    still x e = and_right (not (eqb a x)) (has rest x) (and_left (not (eqb a x) && has rest x) (not (related g w x a)) (sym (less x) ∙ e))

    -- what went without being a is in the row of a
    gone : (c : ℕ) → has rest c ≡ true → eqb a c ≡ false → has rest' c ≡ false → related g w c a ≡ true
    gone c u v f = split (related g w c a) (λ t. t) (λ t. absurd (tell (has rest' c) (less c ∙ rw (u, v, t)) f))

    pub gather_turn : Nested g n w l → (row' : List ℕ) → ((x : ℕ) → has row' x ≡ has row x || related g w x a) → length row' ≡ length row → length rest' ≡ length rest
        → Gathering g n w l m rest' row'
    gather_turn s row' joined p q = record {
      wide = p ∙ i.wide;
      deep = q ∙ i.deep;
      inside = λ x e. i.inside x (still x e);
      sound = λ x e. or_elim (has row x) (related g w x a) (sym (joined x) ∙ e) (i.sound x)
          (λ t. or_right (has m x) (rows_have g n w l x) (some_of n (λ c. has l c && related g w x c) a (s.below a (i.inside a member))
          (and_both (has l a) (related g w x a) (i.inside a member) t)));
      kept = λ x e. joined x ∙ or_left (has row x) (related g w x a) (i.kept x e);
      taken = λ c x e f t. joined x ∙ split (has rest c)
          (λ u. or_right (has row x) (related g w x a) (split (eqb a c)
          (λ v. rw (eqb-true a c v) t)
          (λ v. s.nested a c x (i.inside a member) (gone c u v f) t)))
          (λ u. or_left (has row x) (related g w x a) (i.taken c x e u t));
    }

    -- and leaves fewer
    pub gather_less : how_many (64 * w) (has rest') < how_many (64 * w) (has rest)
    gather_less = many_less (64 * w) (has rest) (has rest') (λ x l. still x) a (omega (arith, has_within rest a member, i.deep)) member
        (less a ∙ ap (λ (t : Bool). (not t && has rest a) && not (related g w a a)) (eq-eqb a a refl))

  -- it ends where none is left
  pub gather_end : ((x : ℕ) → has rest x ≡ false) → (x : ℕ) → has row x ≡ has m x || rows_have g n w l x
  gather_end none x = same_test (has row x) (has m x || rows_have g n w l x) (i.sound x) (λ e.
      or_elim (has m x) (rows_have g n w l x) e (i.kept x) (λ t.
      let p = some_at n (λ c. has l c && related g w x c) t in
      let c = lowest n (λ c. has l c && related g w x c) in
      i.taken c x (and_left (has l c) (related g w x c) p.1) (none c) (and_right (has l c) (related g w x c) p.1)))

-- ---- a row b that is joined with the rows of its members, which were gathered in a cleared row

pub row_joined : (g : List ℕ) (n w b : ℕ) (rest z row h : List ℕ) → length row ≡ w → b * w + w ≤ length g → rest ≡ row_at g w b → z ≡ replicate w 0
    → ((x : ℕ) → has row x ≡ has z x || rows_have g n w rest x) → h ≡ or_part g (b * w) row
    → (c x : ℕ) → related h w x c ≡ eqb b c && two_steps n (related g w) x b || related g w x c
row_joined g n w b rest z row h wide room e q f p c x = rw p
    (has-row-or g w b row wide room c x
    ∙ ap (λ (t : Bool). eqb b c && t || related g w x c)
    (f x
    ∙ ap (λ (t : Bool). t || rows_have g n w rest x) (ap (λ (y : List ℕ). has y x) q ∙ has_cleared w x)
    ∙ ap (λ (y : List ℕ). rows_have g n w y x) e))
