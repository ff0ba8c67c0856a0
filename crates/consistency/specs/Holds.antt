-- What it means that a predicate holds, for all events: the statements that a verdict decides.
use Rattle.std.specs.Prelude.{◌≡◌, Bool, true, false, not, ◌&&◌, ℕ, ◌<◌, ◌≤◌}
use Rattle.rows.specs.Relation.{Rel}
use Rattle.record.specs.Terms.{value}
use Rattle.record.specs.History.{History}
use Rattle.consistency.specs.Relations.{read}
use Rattle.consistency.specs.Reads.{candidate, held}
use Rattle.consistency.specs.Predicates.{Rule, last-value, ◌within◌, ◌fits◌, rule}
use Rattle.consistency.specs.declared.Predicate.{Predicate}

-- among n events, every pair of q is in r
abbrev pub Within : ℕ → Rel → Rel → Type 0
Within n q r = (a b : ℕ) → a < n → b < n → q a b ≡ true → r a b ≡ true

-- a set of pending events exists such that q is r without the pairs that begin in the set
pub record Fits (h : History) (q r : Rel) : Type 0 where
  pub set : ℕ → Bool
  pub pending : (a : ℕ) → a < h.count → set a ≡ true → h.is_pending a ≡ true
  pub pairs : (a b : ℕ) → a < h.count → b < h.count → q a b ≡ (r a b && not (set a))

-- w is the last in ar of the writes on e's object that are visible to e
pub record LastSeen (h : History) (e w : ℕ) : Type 0 where
  pub below : w < h.count
  pub seen : candidate h e w ≡ true
  pub last : (x : ℕ) → x < h.count → candidate h e x ≡ true → h.position x ≤ h.position w

-- a read holds that write's value; where it sees no such write, its object's opening figure, or none if it has none
pub data RightRead (h : History) (e : ℕ) : Type 0 where
  sees-none : ((w : ℕ) → w < h.count → candidate h e w ≡ false) → held h e ≡ h.terms.opening (h.object e) → RightRead h e
  sees-last : {w : ℕ} → LastSeen h e w → held h e ≡ value (h.value w) → RightRead h e

abbrev pub RightReads : History → Type 0
RightReads h = (e : ℕ) → e < h.count → read h e ≡ true → h.is_pending e ≡ false → RightRead h e

-- positions are distinct, as question 8 asks
abbrev pub DistinctPositions : History → Type 0
DistinctPositions h = (a b : ℕ) → a < h.count → b < h.count → h.position a ≡ h.position b → a ≡ b

unfoldable pub Obeys : History → Rule → Type 0
Obeys h last-value = RightReads h
Obeys h (q within r) = Within h.count q r
Obeys h (q fits r) = Fits h q r

unfoldable pub Holds : Predicate → History → Type 0
Holds p h = Obeys h (rule p h)
