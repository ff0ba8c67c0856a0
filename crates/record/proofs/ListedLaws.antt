-- A history written event by event, without openings and with difference 0, is well formed where tests that compute say so: its record then passes every check. Assumes nothing.
use mathlib.Core.Path.{◌≡◌, refl}
use mathlib.Core.Bool.{Bool, true, false, not, ◌&&◌, ◌||◌}
use mathlib.Core.List.{List, [], ◌∷◌}
use Prim.Native.Nat.{ℕ, zero, suc, ◌^◌, ◌<◌}
use native.Mathlib.Omega.{arith}
use borrow.Author.Tests.{ltb-true, leb-true, eqb-true, not-true, not-false}
use lib.Dec.{ltb, leb, eqb}
use lib.ListN.{length, get_or}
use Rattle.rows.specs.Lowest.{some}
use Rattle.rows.specs.Relation.{reaches}
use Rattle.rows.proofs.LowestLaws.{some-none}
use Rattle.rows.proofs.Tests.{tell, or_elim, and_left, and_right}
use Rattle.record.specs.Layout.{gcr2, object_count}
use Rattle.record.specs.History.{History, vis}
use Rattle.record.specs.Questions.{wrong_position}
use Rattle.record.specs.WellFormed.{WellFormedEvent, WellFormedTerms, WellFormed}
use Rattle.record.specs.Listed.{Noted, nothing, member, history_of_events}
use Rattle.record.proofs.PositionLaws.{position-says, positions-distinct}

-- ---- tests in a list

abbrev pub all_true : List Bool → Bool
all_true [] = true
all_true (t ∷ ts) = t && all_true ts

-- each of them holds
pub nth_true : (ts : List Bool) → all_true ts ≡ true → (k : ℕ) → get_or ts k true ≡ true
nth_true [] e k = refl
nth_true (t ∷ ts) e zero = and_left t (all_true ts) e
nth_true (t ∷ ts) e (suc k) = nth_true ts (and_right t (all_true ts) e) k

implied : (x y : Bool) → not x || y ≡ true → x ≡ true → y ≡ true
implied true y e f = e
implied false y e f = absurd (tell false f refl)

otherwise : (x y : Bool) → x || y ≡ true → x ≡ false → y ≡ true
otherwise true y e f = absurd (tell true refl f)
otherwise false y e f = e

-- ---- an event's fields

abbrev field_tests : ℕ → History → ℕ → List Bool
field_tests sites h e =
    ltb (h.site e) sites
    ∷ ltb (h.object e) object_count
    ∷ ltb (h.value e) (2 ^ 32)
    ∷ (h.is_present e || eqb (h.value e) 0)
    ∷ (not (h.is_write e) || h.is_present e)
    ∷ (h.is_write e || (not (h.is_pending e) || not (h.is_present e)))
    ∷ ltb (h.start e) (2 ^ 64)
    ∷ ltb (h.return e) (2 ^ 64)
    ∷ (not (h.is_pending e) || eqb (h.return e) 0)
    ∷ (h.is_pending e || leb (h.start e) (h.return e))
    ∷ []

well_formed_event : (sites : ℕ) (h : History) (e : ℕ) → all_true (field_tests sites h e) ≡ true → WellFormedEvent sites h e
well_formed_event sites h e right =
    let so : (k : ℕ) → get_or (field_tests sites h e) k true ≡ true = nth_true (field_tests sites h e) right in
    record {
      site = ltb-true (h.site e) sites (so 0);
      object = ltb-true (h.object e) object_count (so 1);
      value = ltb-true (h.value e) (2 ^ 32) (so 2);
      absent = λ t. eqb-true (h.value e) 0 (otherwise (h.is_present e) (eqb (h.value e) 0) (so 3) t);
      written = implied (h.is_write e) (h.is_present e) (so 4);
      unread = λ t u.
          not-true (h.is_present e)
          (implied (h.is_pending e) (not (h.is_present e)) (otherwise (h.is_write e) (not (h.is_pending e) || not (h.is_present e)) (so 5) t) u);
      start = ltb-true (h.start e) (2 ^ 64) (so 6);
      return = ltb-true (h.return e) (2 ^ 64) (so 7);
      pending = implied_zero (h.is_pending e) (h.return e) (so 8);
      returned = λ t. leb-true (h.start e) (h.return e) (otherwise (h.is_pending e) (leb (h.start e) (h.return e)) (so 9) t);
    }
  where
    implied_zero : (x : Bool) (n : ℕ) → not x || eqb n 0 ≡ true → x ≡ true → n ≡ 0
    implied_zero x n t u = eqb-true n 0 (implied x (eqb n 0) t u)

-- ---- an event among the others

-- all are below n
abbrev all_below : ℕ → List ℕ → Bool
all_below n [] = true
all_below n (x ∷ l) = ltb x n && all_below n l

below : (n : ℕ) (l : List ℕ) → all_below n l ≡ true → (b : ℕ) → member l b ≡ true → b < n
unfolding member
below n [] t b e = absurd (tell false e refl)
below n (x ∷ l) t b e =
    or_elim (eqb x b) (member l b) e
    (λ q. omega (arith, eqb-true x b q, ltb-true x n (and_left (ltb x n) (all_below n l) t)))
    (λ q. below n l (and_right (ltb x n) (all_below n l) t) b q)

abbrev event_tests : ℕ → List Noted → ℕ → List Bool
event_tests sites es e =
    all_true (field_tests sites (history_of_events es) e)
    ∷ not (wrong_position (history_of_events es) e)
    ∷ all_below (length es) (get_or es e nothing).sees
    ∷ not ((history_of_events es).sees e e)
    ∷ not (reaches (length es) (vis (history_of_events es)) e e)
    ∷ []

abbrev faulty : ℕ → List Noted → ℕ → Bool
faulty sites es e = not (all_true (event_tests sites es e))

-- ---- all of them

abbrev tests : ℕ → List Noted → List Bool
tests sites es = leb 1 sites ∷ leb sites 8 ∷ leb (length es) gcr2.events ∷ not (some (length es) (faulty sites es)) ∷ []

unfoldable pub listed_right : ℕ → List Noted → Bool
listed_right sites es = all_true (tests sites es)

module _ (sites : ℕ) (es : List Noted) where
  abbrev h : History
  h = history_of_events es

  terms_right_lem : WellFormedTerms gcr2 (history_of_events es).terms
  unfolding history_of_events
  terms_right_lem = record {
    even = λ e. refl;
    difference = omega arith;
    lacking = λ e o. refl;
    above = λ o k. refl;
    value = λ o. omega arith;
  }

  module _ (right : listed_right sites es ≡ true) where
    overall : (k : ℕ) → get_or (tests sites es) k true ≡ true
    unfolding listed_right
    overall = nth_true (tests sites es) right

    each : (e : ℕ) → e < length es → (k : ℕ) → get_or (event_tests sites es e) k true ≡ true
    each e i =
        nth_true (event_tests sites es e)
        (not-false (all_true (event_tests sites es e))
        (some-none (length es) (faulty sites es) (not-true (some (length es) (faulty sites es)) (overall 3)) e i))

    position-right : (e : ℕ) → e < length es → wrong_position h e ≡ false
    position-right e i = not-true (wrong_position h e) (each e i 1)

    pub listed_well_formed : WellFormed gcr2 sites (history_of_events es)
    unfolding history_of_events
    listed_well_formed = record {
      least = leb-true 1 sites (overall 0);
      most = leb-true sites 8 (overall 1);
      count = leb-true (length es) gcr2.events (overall 2);
      terms = terms_right_lem;
      event = λ e i. well_formed_event sites h e (each e i 0);
      position = λ e i. (position-says h e (position-right e i)).0;
      distinct = positions-distinct h position-right;
      inside = λ e b i t. below (length es) (get_or es e nothing).sees (each e i 2) b t;
      not_itself = λ e i. not-true (h.sees e e) (each e i 3);
      ringless = λ e i. not-true (reaches (length es) (vis h) e e) (each e i 4);
    }
