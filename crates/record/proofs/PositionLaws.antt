-- Laws of question 8: the row of the positions that events passed have taken. Assumes nothing.
use mathlib.Core.Path.{◌≡◌, sym, ap, ap₂, ◌∙◌}
use mathlib.Core.Bool.{Bool, true, false, ◌||◌, or_comm}
use mathlib.Core.List.{List}
use Prim.Native.Nat.{ℕ, ◌+◌, ◌/◌, ◌<◌, ◌≤◌}
use native.Mathlib.Numerals.{add-one}
use native.Mathlib.Omega.{arith}
use native.Mathlib.Decide.{dec_lt}
use borrow.Author.Tests.{le-leb, lt-leb, leb-false, eq-eqb}
use lib.Dec.{eqb, leb}
use lib.ListN.{length, replicate}
use Rattle.rows.specs.Lowest.{some}
use Rattle.rows.specs.Row.{has, insert}
use Rattle.rows.proofs.Tests.{tell, never, or_left, or_right}
use Rattle.rows.proofs.LowestLaws.{some_of, none-some, some_more}
use Rattle.rows.proofs.RowLaws.{has-insert, has_cleared}
use Rattle.record.specs.History.{History}
use Rattle.record.specs.Questions.{wrong_position}

-- the row has the positions of the events below e
abbrev pub Taken : History → ℕ → List ℕ → Type 0
Taken h e l = (x : ℕ) → has l x ≡ some e (λ d. eqb (h.position d) x)

pub taken_none : (h : History) (w : ℕ) (l : List ℕ) → l ≡ replicate w 0 → Taken h 0 l
taken_none h w l q x =
    ap (λ (r : List ℕ). has r x) q ∙ has_cleared w x ∙ sym (none-some 0 (λ d. eqb (h.position d) x) (λ k l. absurd (omega arith)))

module _ (h : History) (e p : ℕ) (l : List ℕ) (taken : Taken h e l) (here : p ≡ h.position e) where
  -- what is asked of event e, by its position p
  by_row : wrong_position h e ≡ leb h.count p || has l p
  unfolding wrong_position
  by_row = rw here (ap (λ (t : Bool). leb h.count (h.position e) || t) (sym (taken (h.position e))))

  pub position_large : h.count ≤ p → wrong_position h e ≡ true
  position_large k = by_row ∙ or_left (leb h.count p) (has l p) (le-leb h.count p k)

  pub position-taken : has l p ≡ true → wrong_position h e ≡ true
  position-taken t = by_row ∙ or_right (leb h.count p) (has l p) t

  pub position_free : p < h.count → has l p ≡ false → wrong_position h e ≡ false
  position_free k t = by_row ∙ ap₂ ◌||◌ (lt-leb h.count p k) t

  pub taken_more : (m : List ℕ) → m ≡ insert l p → p / 64 < length l → Taken h (e + 1) m
  taken_more m q k x =
      ap (λ (r : List ℕ). has r x) q ∙ has-insert l p x k ∙ ap₂ (λ (y : ℕ) (t : Bool). eqb y x || t) here (taken x)
      ∙ or_comm (eqb (h.position e) x) (some e (λ d. eqb (h.position d) x))
      ∙ sym (ap (λ (k : ℕ). some k (λ d. eqb (h.position d) x)) (add-one e) ∙ some_more e (λ d. eqb (h.position d) x))

-- an event whose position is right: below the count, and no lower event's
pub position-says : (h : History) (e : ℕ) → wrong_position h e ≡ false → (h.position e < h.count) × ((d : ℕ) → d < e → h.position d ≡ h.position e → ⊥)
unfolding wrong_position
position-says h e f =
    let small : Bool = leb h.count (h.position e) in
    let before : Bool = some e (λ d. eqb (h.position d) (h.position e)) in
    let none : small || before ≡ true → ⊥ = λ t. tell (small || before) t f in (
      leb-false h.count (h.position e) (never small (λ t. none (or_left small before t))),
      λ d l q. none (or_right small before (some_of e (λ d. eqb (h.position d) (h.position e)) d l (eq-eqb (h.position d) (h.position e) q))),
    )

-- so positions that are all right are distinct
pub positions-distinct : (h : History) → ((e : ℕ) → e < h.count → wrong_position h e ≡ false) → (d e : ℕ) → d < h.count → e < h.count → h.position d ≡ h.position e → d ≡ e
positions-distinct h right d e k l q = elim (dec_lt d e) [
  | yes x ↦ absurd ((position-says h e (right e l)).1 d x q)
  | no x ↦ elim (dec_lt e d) [
    | yes y ↦ absurd ((position-says h d (right d k)).1 e y (sym q))
    | no y ↦ omega arith
  ]
]
