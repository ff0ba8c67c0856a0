-- 'Models': the table of models to their predicates, and the first broken predicate of a list.
use Rattle.std.specs.Prelude.{Bool, false, ◌||◌, List, [], ◌∷◌, ℕ, ◌-◌, get_or, Option, Some, None}
use Rattle.record.specs.History.{History}
use Rattle.consistency.specs.FirstPair.{Verdict}
use Rattle.consistency.specs.Predicates.{numbered, by_clocks, verdict}
use Rattle.consistency.specs.declared.Break.{Break}

-- 1 linearizable, 2 regular, 3 sequential, 4 causal, 5 real-time causal, 6 processor, 7 per-object sequential, 8 Pram,
-- 9–12 predicates 5–8, 13 slow memory
abbrev pub models : List (List ℕ)
models =
    (2 ∷ 3 ∷ 1 ∷ [])
    ∷ (2 ∷ 4 ∷ 1 ∷ [])
    ∷ (2 ∷ 9 ∷ 1 ∷ [])
    ∷ (10 ∷ 11 ∷ 1 ∷ [])
    ∷ (10 ∷ 11 ∷ 3 ∷ 1 ∷ [])
    ∷ (13 ∷ 9 ∷ 1 ∷ [])
    ∷ (13 ∷ 12 ∷ 1 ∷ [])
    ∷ (9 ∷ [])
    ∷ (5 ∷ [])
    ∷ (6 ∷ [])
    ∷ (7 ∷ [])
    ∷ (8 ∷ [])
    ∷ (12 ∷ [])
    ∷ []

-- the predicates of model m, counted from 1
abbrev pub list_of : ℕ → List ℕ
list_of m = get_or models (m - 1) []

-- whether a list has a predicate that is judged by clocks, as those of models 1, 2 and 5 have
abbrev pub timed : List ℕ → Bool
timed [] = false
timed (p ∷ ps) = by_clocks (numbered p) || timed ps

-- the first broken predicate of a list, with its pair, if any is broken
abbrev pub Outcome : Type 0
Outcome = Option Break

abbrev pub broken_at : ℕ → ℕ × ℕ → Outcome
broken_at p x = Some (record { predicate = p; first = x.0; second = x.1 })

-- a predicate's break, or what comes after it
abbrev pub or_else : ℕ → Verdict → Outcome → Outcome
or_else p None next = next
or_else p (Some x) next = broken_at p x

unfoldable pub first_broken : List ℕ → History → Outcome
first_broken [] h = None
first_broken (p ∷ ps) h = or_else p (verdict (numbered p) h) (first_broken ps h)
