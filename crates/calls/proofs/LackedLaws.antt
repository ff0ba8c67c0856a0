-- The puts that every site knows, as a row, and the lowest of the others. Assumes nothing.
use mathlib.Core.Path.{◌≡◌, refl, sym, ap, ◌∙◌}
use mathlib.Core.Bool.{Bool, true, false, not, ◌&&◌, ◌||◌, and-true}
use mathlib.Core.List.{List}
use Prim.Native.Nat.{ℕ, ◌+◌, ◌*◌}
use native.Mathlib.Numerals.{add-one}
use native.Mathlib.Omega.{arith}
use lib.ListN.{length}
use Rattle.std.specs.Prelude.{Option}
use Rattle.rows.specs.Lowest.{some, if_below, found}
use Rattle.rows.specs.Row.{has, and_row, only_first}
use Rattle.rows.proofs.LowestLaws.{same-lowest, none-some, some_more}
use Rattle.rows.proofs.RowLaws.{length-and, has-and}
use Rattle.record.specs.Layout.{most_events, row_words}
use Rattle.calls.specs.Lent.{row_in}

-- all is the row of the puts that the first s sites know
abbrev pub KnownByAll : List ℕ → List (List ℕ) → ℕ → List ℕ → Type 0
KnownByAll puts known s all = (length all ≡ row_words) × ((x : ℕ) → has all x ≡ (has puts x && not (some s (λ t. not (has (row_in known t) x)))))

module _ (puts : List ℕ) (known : List (List ℕ)) where
  pub all_none : length puts ≡ row_words → KnownByAll puts known 0 puts
  all_none four =
      (four, λ x. sym (ap (λ (t : Bool). has puts x && not t) (none-some 0 (λ t. not (has (row_in known t) x)) (λ k h. absurd (omega arith))) ∙ and-true (has puts x)))

  pub all_more : (s : ℕ) (all all' : List ℕ) → length (row_in known s) ≡ row_words → KnownByAll puts known s all → all' ≡ and_row all (row_in known s) → KnownByAll puts known (s + 1) all'
  all_more s all all' room h made = (
    ap length made ∙ length-and all (row_in known s) ∙ h.0,
    λ x. ap (λ (l : List ℕ). has l x) made
        ∙ has-and all (row_in known s) x (omega (arith, h.0, room))
        ∙ ap (λ (t : Bool). t && has (row_in known s) x) (h.1 x)
        ∙ joined (has puts x) (some s (λ t. not (has (row_in known t) x))) (has (row_in known s) x)
        ∙ rw add-one (ap (λ (t : Bool). has puts x && not t) (sym (some_more s (λ t. not (has (row_in known t) x))))),
  )
    where
      joined : (p s k : Bool) → (p && not s) && k ≡ p && not (s || not k)
      joined true true k = refl
      joined true false true = refl
      joined true false false = refl
      joined false s k = refl

  pub all_lowest : (n : ℕ) (all : List ℕ) (r : Option ℕ) → KnownByAll puts known n all → length puts ≡ row_words → r ≡ found (64 * length puts) (only_first puts all)
      → r ≡ found most_events (λ x. has puts x && some n (λ s. not (has (row_in known s) x)))
  all_lowest n all r h four e =
      e
      ∙ ap (λ (k : ℕ). found (64 * k) (only_first puts all)) four
      ∙ ap (if_below most_events)
      (same-lowest most_events (only_first puts all) (λ x. has puts x && some n (λ s. not (has (row_in known s) x)))
      (λ x l. ap (λ (t : Bool). has puts x && not t) (h.1 x) ∙ others (has puts x) (some n (λ t. not (has (row_in known t) x)))))
    where
      others : (p s : Bool) → p && not (p && not s) ≡ p && s
      others true true = refl
      others true false = refl
      others false s = refl
