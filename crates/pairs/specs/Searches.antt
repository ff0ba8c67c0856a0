-- What the searches for a first pair go by. Only contracts of inner functions cite this.
use Rattle.std.specs.Prelude.{◌≡◌, Bool, true, false, List, ℕ, ◌<◌, ◌≤◌, Option, Some, None}
use Rattle.rows.specs.Lowest.{some}
use Rattle.rows.specs.Row.{has, only_first, Row}
use Rattle.rows.specs.Relation.{Rel, related}
use Rattle.record.specs.History.{History, vis}
use Rattle.record.specs.Words.{history_from}
use Rattle.consistency.specs.Relations.{ob, ar, from, to, both}
use Rattle.consistency.specs.Reads.{Last}
use Rattle.consistency.specs.Predicates.{outside, differ, misfit}
use Rattle.events.specs.declared.Events.{Events}

-- what events with rows of w words say
abbrev pub history_given : (w : ℕ) → Events w → History
history_given w e = history_from e.count w e.heads.words.now e.seen.now

-- the pairs of q, from a member of starts to one of ends, that r lacks, as rows of w words have them
abbrev pub lacks : ℕ → List ℕ → List ℕ → List ℕ → List ℕ → Rel
lacks w q starts ends r = outside (from (has starts) (to (has ends) (related q w))) (related r w)

-- with `whole` all of n events are in ends
abbrev pub Whole : Bool → ℕ → List ℕ → Type 0
Whole whole n ends = whole ≡ true → (b : ℕ) → b < n → has ends b ≡ true

-- every pair
abbrev pub all_pairs : Rel
all_pairs a b = true

-- the pairs of q, all of them or only those on one object
abbrev pub cut_to : Bool → History → Rel → Rel
cut_to true h q = both q (ob h)
cut_to false h q = q

-- the pairs that break predicate 2, or with `cut` 13
abbrev pub misplaced : Bool → History → Rel
misplaced cut h = misfit h (cut_to cut h (vis h)) (cut_to cut h (ar h))

-- whether vis and ar differ on a pair, or with `cut` on one of one object
abbrev pub told_apart : Bool → History → Rel
told_apart cut h a b = differ (cut_to cut h (vis h) a b) (cut_to cut h (ar h) a b)

-- the events for which q and r differ on some event below k, and those that q relates to some event below k
pub record Compared (n k : ℕ) (q r : Rel) (differing visible : List ℕ) : Type 0 where
  pub differs : Row n (λ a. some k (λ b. differ (q a b) (r a b))) differing
  pub begins : Row n (λ a. some k (q a)) visible

-- so vis and ar were compared
abbrev pub Parted : Bool → History → List ℕ → List ℕ → Type 0
Parted cut h differing visible = Compared h.count h.count (cut_to cut h (vis h)) (cut_to cut h (ar h)) differing visible

-- an event that was found is below n
abbrev pub FoundBelow : ℕ → Last → Type 0
FoundBelow n None = Unit
FoundBelow n (Some w) = w < n

-- a member of s, where there is any
abbrev pub SomeMember : List ℕ → Option ℕ → Type 0
SomeMember s None = (y : ℕ) → has s y ≡ false
SomeMember s (Some x) = has s x ≡ true

-- a member of a that b lacks, where there is any
abbrev pub Picked : List ℕ → List ℕ → Option ℕ → Type 0
Picked a b None = (y : ℕ) → only_first a b y ≡ false
Picked a b (Some x) = only_first a b x ≡ true

-- an event that was found is the last of those in s, by their positions
abbrev pub Latest : (ℕ → ℕ) → List ℕ → Last → Type 0
Latest position s None = (x : ℕ) → has s x ≡ false
Latest position s (Some w) = (has s w ≡ true) × ((x : ℕ) → has s x ≡ true → position x ≤ position w)
