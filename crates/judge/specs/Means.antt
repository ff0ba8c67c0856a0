-- The second demand, in one place: what each answer of a judging call says of the record, and that an answer is given exactly if that is so.
use Rattle.std.specs.Prelude.{◌≡◌, ◌↔◌, true, false, List, ℕ, ◌<◌, ◌≤◌, Some, None, Ok, Err}
use Rattle.rows.specs.Relation.{Steps}
use Rattle.record.specs.Layout.{Layout, edition_of, count_in, work_words}
use Rattle.record.specs.History.{history_of, vis}
use Rattle.record.specs.Questions.{on_ring}
use Rattle.record.specs.Answers.{Passes, Tells}
use Rattle.record.specs.declared.Refusal.{Refusal}
use Rattle.record.specs.declared.Refusal.TheVariants.{ShortWork}
use Rattle.consistency.specs.Relations.{hb, Chain}
use Rattle.consistency.specs.ReturnsBefore.{ByCases}
use Rattle.consistency.specs.Breaks.{FirstBreak, AllHold, FirstNot}
use Rattle.judge.specs.Judgments.{Judgment, is_number}
use Rattle.judge.specs.declared.Unjudged.TheVariants.{NoSuchNumber, Refused}

-- questions 1 and 2 get a yes
pub record Admitted (words number : ℕ) : Type 0 where
  pub work : work_words ≤ words
  pub in_range : is_number number ≡ true

-- 1 got a no; or 1 and 2 got a yes, and of 3 to 10 the one that r names got the first no, at its place
pub data RefusedBy (L : Layout) (words number : ℕ) (s : List ℕ) : Refusal → Type 0 where
  short : words < work_words → RefusedBy L words number s ShortWork
  named : {r : Refusal} → Admitted words number → Tells L s (Err r) → RefusedBy L words number s r

-- what an answer says, of a list ps of predicates and a record s
abbrev pub Means : Layout → ℕ → ℕ → List ℕ → List ℕ → Judgment → Type 0
-- met: the record passes, and each predicate of the list holds of its history
Means L words number ps s (Ok None) = Admitted words number × Passes L s × AllHold ps (history_of L s)
-- broken: it passes, the break's predicate is the first of the list that does not hold, and its two events are the first pair that breaks that
Means L words number ps s (Ok (Some x)) =
    Admitted words number × Passes L s × FirstNot (history_of L s) ps x.predicate × FirstBreak x.predicate (history_of L s) x.first x.second
-- 2 got the first no
Means L words number ps s (Err NoSuchNumber) = (work_words ≤ words) × (is_number number ≡ false)
Means L words number ps s (Err (Refused r)) = RefusedBy L words number s r

-- an answer is given exactly if what it says is so; rb, of which predicates 3 and 4 speak and the relation so is made, is as its three cases say; hb, of
-- which predicates 10 and 11 speak, is one or more steps, each so or vis; and an event is on a ring, of which question 10 speaks, where one or more
-- steps of vis lead from it to itself
pub record Exact (L : Layout) (words number : ℕ) (ps s : List ℕ) (j : Judgment) : Type 0 where
  pub exactly : (k : Judgment) → (j ≡ k) ↔ Means L words number ps s k
  pub returns : (a b : ℕ) → ByCases (history_of L s) a b
  pub chains : (a b : ℕ) → (hb (history_of L s) a b ≡ true) ↔ Chain (history_of L s) a b
  pub rings : (e : ℕ) → (on_ring (count_in s) (vis (history_of L s)) e ≡ true) ↔ Steps (count_in s) (vis (history_of L s)) e e

-- the same of a record's bytes alone, whose letters say the edition
abbrev pub ExactOf : ℕ → ℕ → List ℕ → List ℕ → Judgment → Type 0
ExactOf words number ps s j = Exact (edition_of s) words number ps s j
