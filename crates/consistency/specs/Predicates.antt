-- The thirteen predicates: each a rule of one of three kinds, the pairs that break it, and its verdict.
use Rattle.std.specs.Prelude.{Bool, true, false, not, ◌&&◌, List, [], ◌∷◌, ℕ, ◌-◌, get_or}
use Rattle.rows.specs.Lowest.{some}
use Rattle.rows.specs.Relation.{Rel}
use Rattle.record.specs.History.{History, vis}
use Rattle.consistency.specs.FirstPair.{Verdict, first}
use Rattle.consistency.specs.Relations.{rb, ob, so, ar, hb, write, read, from, to, both, through}
use Rattle.consistency.specs.Reads.{wrong}
use Rattle.consistency.specs.declared.Predicate.{Predicate}
use Rattle.consistency.specs.declared.Predicate.TheVariants.{RVal, SingleOrder, RealTime, RealTimeWrites, MonotonicReads, ReadYourWrites, MonotonicWrites, WritesFollowReads, Pram, CausalVisibility, CausalArbitration, PerObjectPram, PerObjectSingleOrder}

pub data Rule : Type 0 where
  -- each returned read holds the value of the last write on its object that it sees; where it sees no such write, the object's opening, or none if it has none
  last-value : Rule
  -- every pair of q is in r
  ◌within◌ : (q r : Rel) → Rule
  -- q is r without the pairs that begin in some set of pending events
  ◌fits◌ : (q r : Rel) → Rule

infix 4 ◌within◌
infix 4 ◌fits◌
unfoldable pub rule : Predicate → History → Rule
rule RVal h = last-value
rule SingleOrder h = vis h fits ar h
rule RealTime h = rb h within ar h
rule RealTimeWrites h = from (write h) (rb h) within ar h
rule MonotonicReads h = to (read h) (through h (read h) (vis h) (so h)) within vis h
rule ReadYourWrites h = from (write h) (to (read h) (so h)) within vis h
rule MonotonicWrites h = from (write h) (to (write h) (so h)) within ar h
rule WritesFollowReads h = from (write h) (to (write h) (through h (read h) (vis h) (so h))) within ar h
rule Pram h = so h within vis h
rule CausalVisibility h = hb h within vis h
rule CausalArbitration h = hb h within ar h
rule PerObjectPram h = both (so h) (ob h) within vis h
rule PerObjectSingleOrder h = both (vis h) (ob h) fits both (ar h) (ob h)

-- judged by the sites' clocks: 3 and 4
abbrev pub by_clocks : Predicate → Bool
by_clocks RVal = false
by_clocks SingleOrder = false
by_clocks RealTime = true
by_clocks RealTimeWrites = true
by_clocks MonotonicReads = false
by_clocks ReadYourWrites = false
by_clocks MonotonicWrites = false
by_clocks WritesFollowReads = false
by_clocks Pram = false
by_clocks CausalVisibility = false
by_clocks CausalArbitration = false
by_clocks PerObjectPram = false
by_clocks PerObjectSingleOrder = false

-- an inclusion breaks at a pair in the left side but not the right
abbrev pub outside : Rel → Rel → Rel
outside q r a b = q a b && not (r a b)

-- an event fits if its q pairs are its r pairs, or if it is pending and q relates it to nothing
abbrev pub excused : History → Rel → ℕ → Bool
excused h q a = h.is_pending a && not (some h.count (q a))

abbrev pub differ : Bool → Bool → Bool
differ true y = not y
differ false y = y

-- a fits neither way, and q and r differ on b for it
abbrev pub misfit : History → Rel → Rel → Rel
misfit h q r a b = not (excused h q a) && differ (q a b) (r a b)

-- the pairs that break a rule
unfoldable pub breaks : History → Rule → Rel
breaks h last-value = wrong h
breaks h (q within r) = outside q r
breaks h (q fits r) = misfit h q r

-- met, or broken at the first pair
unfoldable pub verdict : Predicate → History → Verdict
verdict p h = first h.count (breaks h (rule p h))

-- the paper's numbers, from 1 on
abbrev pub predicates : List Predicate
predicates =
    RVal ∷ SingleOrder ∷ RealTime ∷ RealTimeWrites ∷ MonotonicReads ∷ ReadYourWrites ∷ MonotonicWrites ∷ WritesFollowReads ∷ Pram
    ∷ CausalVisibility ∷ CausalArbitration ∷ PerObjectPram ∷ PerObjectSingleOrder ∷ []

unfoldable pub numbered : ℕ → Predicate
numbered k = get_or predicates (k - 1) RVal
