-- 'Telling an operator what happened': the events after a, b last, by which the first pair (a, b) came to break a predicate.
use Rattle.std.specs.Prelude.{◌≡◌, true, ◌&&◌, List, [], ◌∷◌, ℕ, ◌<◌, ◌≤◌}
use Rattle.rows.specs.Lowest.{lowest}
use Rattle.rows.specs.Shortest.{shortest_chain, Shortest}
use Rattle.record.specs.History.{History, vis}
use Rattle.consistency.specs.Relations.{so, step, read}
use Rattle.consistency.specs.declared.Predicate.{Predicate}
use Rattle.consistency.specs.declared.Predicate.TheVariants.{RVal, SingleOrder, RealTime, RealTimeWrites, MonotonicReads, ReadYourWrites, MonotonicWrites, WritesFollowReads, Pram, CausalVisibility, CausalArbitration, PerObjectPram, PerObjectSingleOrder}
use Rattle.consistency.specs.declared.Telling.{Telling}
use Rattle.consistency.specs.declared.Telling.TheVariants.{ByChain, ByMiddle, ByPair}

-- 10 and 11 are told by a chain, 5 and 8 by a middle event, the others by their pair
abbrev pub telling : Predicate → Telling
telling RVal = ByPair
telling SingleOrder = ByPair
telling RealTime = ByPair
telling RealTimeWrites = ByPair
telling MonotonicReads = ByMiddle
telling ReadYourWrites = ByPair
telling MonotonicWrites = ByPair
telling WritesFollowReads = ByMiddle
telling Pram = ByPair
telling CausalVisibility = ByChain
telling CausalArbitration = ByChain
telling PerObjectPram = ByPair
telling PerObjectSingleOrder = ByPair

-- ---- how the events are found

-- the lowest middle event, a read that sees a and is so before b
unfoldable pub middle_of : History → ℕ → ℕ → ℕ
middle_of h a b = lowest h.count (λ m. vis h a m && (read h m && so h m b))

unfoldable pub told_by : Telling → History → ℕ → ℕ → List ℕ
-- a shortest chain of so or vis steps from a to b, and among equally short ones each next event in turn the lowest possible
told_by ByChain h a b = shortest_chain h.count (step h) a b
told_by ByMiddle h a b = middle_of h a b ∷ b ∷ []
told_by ByPair h a b = b ∷ []

abbrev pub explained : Predicate → History → ℕ → ℕ → List ℕ
explained p h a b = told_by (telling p) h a b

-- ---- what they mean

-- m is a middle event between a and b
pub record Middle (h : History) (a b m : ℕ) : Type 0 where
  pub event : m < h.count
  pub sees : vis h a m ≡ true
  pub reads : read h m ≡ true
  pub before : so h m b ≡ true

-- the lowest, and then b
pub data LowestMiddle (h : History) (a b : ℕ) : List ℕ → Type 0 where
  lowest-middle : (m : ℕ) → Middle h a b m → ((x : ℕ) → Middle h a b x → m ≤ x) → LowestMiddle h a b (m ∷ b ∷ [])

unfoldable pub Tells : Telling → History → ℕ → ℕ → List ℕ → Type 0
Tells ByChain h a b l = Shortest h.count (step h) a b l
Tells ByMiddle h a b l = LowestMiddle h a b l
Tells ByPair h a b l = l ≡ b ∷ []

-- l tells how (a, b) came to break predicate p
abbrev pub Explains : Predicate → History → ℕ → ℕ → List ℕ → Type 0
Explains p h a b l = Tells (telling p) h a b l
