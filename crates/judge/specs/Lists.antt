-- Lists of predicates as the code keeps them; and the numbers of verdicts. Contracts of inner functions and the table of edges cite this.
use Rattle.std.specs.Prelude.{List, [], ◌∷◌, ◌++◌, ℕ, zero, suc, ◌+◌, map, Some, None}
use Rattle.packed.specs.Packed.{packed_break}
use Rattle.record.specs.History.{History}
use Rattle.consistency.specs.FirstPair.{Verdict}
use Rattle.consistency.specs.Predicates.{numbered, verdict}
use Rattle.consistency.specs.declared.Predicate.{Predicate}
use Rattle.consistency.specs.declared.Predicate.TheVariants.{RVal, SingleOrder, RealTime, RealTimeWrites, MonotonicReads, ReadYourWrites, MonotonicWrites, WritesFollowReads, Pram, CausalVisibility, CausalArbitration, PerObjectPram, PerObjectSingleOrder}

-- a predicate's number, and those of a list
abbrev pub predicate_number : Predicate → ℕ
predicate_number RVal = 1
predicate_number SingleOrder = 2
predicate_number RealTime = 3
predicate_number RealTimeWrites = 4
predicate_number MonotonicReads = 5
predicate_number ReadYourWrites = 6
predicate_number MonotonicWrites = 7
predicate_number WritesFollowReads = 8
predicate_number Pram = 9
predicate_number CausalVisibility = 10
predicate_number CausalArbitration = 11
predicate_number PerObjectPram = 12
predicate_number PerObjectSingleOrder = 13

abbrev pub numbers_of : List Predicate → List ℕ
numbers_of ps = map predicate_number ps

-- a verdict as a host's number, and those of the first k predicates
abbrev pub packed_verdict : Verdict → ℕ
packed_verdict None = 0
packed_verdict (Some x) = packed_break x.0 x.1

unfoldable pub packed_verdicts : ℕ → History → List ℕ
packed_verdicts zero h = []
packed_verdicts (suc k) h = packed_verdicts k h ++ (packed_verdict (verdict (numbered (k + 1)) h) ∷ [])
