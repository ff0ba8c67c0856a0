-- 'Which guarantee covers which', of the answers that a customer gets: where the answer about one model tells that about another.
use Rattle.std.specs.Prelude.{◌≡◌, true, List, ℕ, ◌/◌, Some, None, Ok}
use Rattle.packed.specs.Packed.{broken_from}
use Rattle.record.specs.Layout.{work_words}
use Rattle.consistency.specs.Lattice.{follows}
use Rattle.consistency.specs.declared.Break.{Break}
use Rattle.judge.specs.Judgments.{Judgment, model_judgment_of, packed_judgment}

-- an answer that is broken, at whatever pair
pub data IsBroken : Judgment → Type 0 where
  broken-at : {x : Break} → IsBroken (Ok (Some x))

-- the judge's answer about model m of a record, of whatever edition, over as many words as question 1 asks for
abbrev pub answer : List ℕ → ℕ → Judgment
answer s m = model_judgment_of work_words m s

-- model i covers model j: every record that passes questions 3 to 10 and meets i meets j
abbrev pub Covers : ℕ → ℕ → Type 0
Covers i j = (s : List ℕ) → answer s i ≡ Ok None → answer s j ≡ Ok None

-- a record that passes them, meets i and breaks j
pub record Separates (s : List ℕ) (i j : ℕ) : Type 0 where
  pub meets : answer s i ≡ Ok None
  pub breaks : IsBroken (answer s j)

-- what the answer about model m of a record tells of other models
pub record TellsOthers (words m : ℕ) (s : List ℕ) (told : Judgment) : Type 0 where
  -- met: so is every model that follows from m
  pub met : told ≡ Ok None → (j : ℕ) → follows m j ≡ true → model_judgment_of words j s ≡ Ok None
  -- broken: so is every model from which m follows
  pub broken : IsBroken told → (i : ℕ) → follows i m ≡ true → IsBroken (model_judgment_of words i s)

-- the same of the host's numbers: 0 is met, and a break's number divided by 1,048,576 is 1
pub record TellsHosts (m : ℕ) (s : List ℕ) (number : ℕ) : Type 0 where
  pub met : number ≡ 0 → (j : ℕ) → follows m j ≡ true → packed_judgment (answer s j) ≡ 0
  pub broken : number / broken_from ≡ 1 → (i : ℕ) → follows i m ≡ true → packed_judgment (answer s i) / broken_from ≡ 1
