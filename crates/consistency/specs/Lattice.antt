-- 'Which guarantee covers which': the eighteen pairs of models of which the first gives the second, and what follows by chaining them.
use Rattle.std.specs.Prelude.{false, not, ◌&&◌, ◌||◌, List, [], ◌∷◌, ℕ, ◌+◌, eqb}
use Rattle.rows.specs.Count.{sum, how_many}
use Rattle.rows.specs.Relation.{Rel, reaches}

-- the models' numbers, by name
abbrev pub linearizable : ℕ
linearizable = 1

abbrev pub regular : ℕ
regular = 2

abbrev pub sequential : ℕ
sequential = 3

abbrev pub causal : ℕ
causal = 4

abbrev pub real_time_causal : ℕ
real_time_causal = 5

abbrev pub processor : ℕ
processor = 6

abbrev pub per_object_sequential : ℕ
per_object_sequential = 7

abbrev pub pram : ℕ
pram = 8

abbrev pub monotonic_reads : ℕ
monotonic_reads = 9

abbrev pub read_your_writes : ℕ
read_your_writes = 10

abbrev pub monotonic_writes : ℕ
monotonic_writes = 11

abbrev pub writes_follow_reads : ℕ
writes_follow_reads = 12

abbrev pub slow_memory : ℕ
slow_memory = 13

pub data Implication : Type 0 where
  ◌gives◌ : (first second : ℕ) → Implication

infix 4 ◌gives◌
abbrev pub implications : List Implication
implications =
    (linearizable gives regular)
    ∷ (linearizable gives sequential)
    ∷ (linearizable gives real_time_causal)
    ∷ (real_time_causal gives causal)
    ∷ (sequential gives causal)
    ∷ (sequential gives processor)
    ∷ (processor gives pram)
    ∷ (processor gives per_object_sequential)
    ∷ (causal gives pram)
    ∷ (causal gives monotonic_reads)
    ∷ (causal gives read_your_writes)
    ∷ (causal gives monotonic_writes)
    ∷ (causal gives writes_follow_reads)
    ∷ (pram gives read_your_writes)
    ∷ (pram gives slow_memory)
    ∷ (per_object_sequential gives slow_memory)
    ∷ (regular gives read_your_writes)
    ∷ (regular gives monotonic_writes)
    ∷ []

-- the pair i, j stands in a list
unfoldable pub listed : List Implication → Rel
listed [] i j = false
listed ((m gives n) ∷ l) i j = eqb m i && eqb n j || listed l i j

-- j follows from i: a chain of one or more of them leads there
unfoldable pub follows : Rel
follows = reaches 14 (listed implications)

-- how many ordered pairs of different models a relation has
unfoldable pub pairs_of : Rel → ℕ
pairs_of r = sum 13 (λ i. how_many 13 (λ j. not (eqb i j) && r (i + 1) (j + 1)))
