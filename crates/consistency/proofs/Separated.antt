-- The eight records of the other side: each is well formed and meets exactly the models of its list, and wherever a second model does not follow from a first,
-- one of them meets the first and breaks the second. Tests of whole tables, which the checker computes. Assumes nothing.
use mathlib.Core.Path.{◌≡◌, refl, sym, ap, ◌∙◌, subst}
use mathlib.Core.Bool.{Bool, true, false, not, ◌||◌}
use Prim.Native.Nat.{ℕ, ◌+◌, ◌-◌, ◌<◌, ◌≤◌}
use native.Mathlib.Omega.{arith}
use borrow.Author.Tests.{not-true, not-false, ltb-true, eqb-true}
use lib.Dec.{ltb, eqb}
use Rattle.std.specs.Prelude.{Some, None}
use Rattle.rows.specs.Lowest.{search_from, lowest, some}
use Rattle.rows.specs.Relation.{via, reaches}
use Rattle.rows.proofs.LowestLaws.{some-none, lowest_low}
use Rattle.rows.proofs.Tests.{or_elim, and_left, and_right, not_of}
use Rattle.record.specs.History.{vis}
use Rattle.record.specs.Questions.{wrong_position}
use Rattle.record.specs.Listed.{member, history_of_events}
use Rattle.record.proofs.ListedLaws.{listed_right}
use Rattle.consistency.specs.FirstPair.{first_left, first}
use Rattle.consistency.specs.Relations.{ss, ob, rb, so, ar, step, hb, through}
use Rattle.consistency.specs.Reads.{candidate, last_below, last_write, expected, wrong_read, wrong}
use Rattle.consistency.specs.Predicates.{rule, differ, breaks, verdict, numbered}
use Rattle.consistency.specs.Models.{list_of, first_broken, Outcome}
use Rattle.consistency.specs.Lattice.{listed, follows}
use Rattle.consistency.specs.Separating.{numbered_record, separating_history, tells, separator}
use Rattle.consistency.proofs.BrokenIff.{differ_same}
use Rattle.consistency.proofs.ChainLaws.{chain, follows-chain}

abbrev pub is_met : Outcome → Bool
is_met None = true
is_met (Some x) = false

-- a test of the first n numbers from 1 on
abbrev pub every : ℕ → (ℕ → Bool) → Bool
every n f = not (some n (λ k. not (f (k + 1))))

-- record k meets model m exactly if its list has it
abbrev as_listed : ℕ → ℕ → Bool
as_listed k m = not (differ (is_met (first_broken (list_of m) (separating_history k))) (member (numbered_record k).meets m))

-- one model; or a record tells them apart, or the second follows from the first, and not both
abbrev tested : ℕ → ℕ → Bool
tested i j = eqb i j || differ (ltb (separator i j) 9) (chain 3 i j)

-- ---- the tables

all_right_lem : every 8 (λ k. listed_right 2 (numbered_record k).events) ≡ true
unfolding search_from lowest some via reaches member history_of_events vis wrong_position listed_right numbered_record
all_right_lem = refl

all_meet : every 8 (λ k. every 13 (as_listed k)) ≡ true
unfolding search_from lowest some via reaches member history_of_events vis first_left first ss ob rb so ar step hb through candidate last_below last_write expected wrong_read wrong rule breaks verdict numbered first_broken numbered_record
all_meet = refl

all_apart : every 13 (λ i. every 13 (tested i)) ≡ true
unfolding search_from lowest some member listed chain numbered_record separator
all_apart = refl

-- ---- each entry

pub every-at : (n : ℕ) (f : ℕ → Bool) → every n f ≡ true → (k : ℕ) → 1 ≤ k → k ≤ n → f k ≡ true
every-at n f e k l m =
    let off : ℕ → Bool = λ j. not (f (j + 1)) in
    let on : k - 1 + 1 ≡ k = omega arith in
    subst (λ (x : ℕ). f x ≡ true) on (not-false (f (k - 1 + 1)) (some-none n off (not-true (some n off) e) (k - 1) (omega arith)))

differ-not : (x y : Bool) → differ x y ≡ true → x ≡ not y
differ-not true y e = sym e
differ-not false y e = sym (ap not e)

pub record_right : (k : ℕ) → 1 ≤ k → k ≤ 8 → listed_right 2 (numbered_record k).events ≡ true
record_right = every-at 8 (λ k. listed_right 2 (numbered_record k).events) all_right_lem

-- record k meets exactly the models of its list
pub meets-listed : (k m : ℕ) → 1 ≤ k → k ≤ 8 → 1 ≤ m → m ≤ 13 → is_met (first_broken (list_of m) (separating_history k)) ≡ member (numbered_record k).meets m
meets-listed k m i j l o =
    let met : Bool = is_met (first_broken (list_of m) (separating_history k)) in
    let said : Bool = member (numbered_record k).meets m in
    differ_same met said
    (not-true (differ met said) (every-at 13 (as_listed k) (every-at 8 (λ k. every 13 (as_listed k)) all_meet k i j) m l o))

-- record k meets model i and breaks model j
pub record Apart (k i j : ℕ) : Type 0 where
  pub least : 1 ≤ k
  pub most : k ≤ 8
  pub meets : is_met (first_broken (list_of i) (separating_history k)) ≡ true
  pub breaks : is_met (first_broken (list_of j) (separating_history k)) ≡ false

module _ (i j : ℕ) (l : 1 ≤ i) (m : i ≤ 13) (o : 1 ≤ j) (p : j ≤ 13) where
  told-apart : separator i j < 9 → Apart (separator i j) i j
  unfolding separator
  told-apart q =
      let k : ℕ = lowest 8 (λ k. tells (k + 1) i j) + 1 in
      let told : tells k i j ≡ true = (lowest_low 8 (λ k. tells (k + 1) i j)).at (omega arith) in
      record {
        least = omega arith;
        most = omega arith;
        meets = meets-listed k i (omega arith) (omega arith) l m ∙ and_left (member (numbered_record k).meets i) (not (member (numbered_record k).meets j)) told;
        breaks = meets-listed k j (omega arith) (omega arith) o p
            ∙ not-true (member (numbered_record k).meets j) (and_right (member (numbered_record k).meets i) (not (member (numbered_record k).meets j)) told);
      }

  -- of different models: a record tells them apart exactly if the second does not follow
  apart_unless : (i ≡ j → ⊥) → ltb (separator i j) 9 ≡ not (follows i j)
  apart_unless other =
      or_elim (eqb i j) (differ (ltb (separator i j) 9) (chain 3 i j))
      (every-at 13 (tested i) (every-at 13 (λ i. every 13 (tested i)) all_apart i l m) j o p)
      (λ e. absurd (other (eqb-true i j e)))
      (λ e. differ-not (ltb (separator i j) 9) (chain 3 i j) e ∙ ap not (sym (follows-chain i j)))

  pub separated : (i ≡ j → ⊥) → follows i j ≡ false → Apart (separator i j) i j
  separated other free = told-apart (ltb-true (separator i j) 9 (apart_unless other ∙ not_of (follows i j) free))
