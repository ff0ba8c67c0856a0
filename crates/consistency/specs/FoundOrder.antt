-- 'Sites that log no order': of a record whose events have no positions, the order that is found, and the arbitrations that make the record causal.
use Rattle.std.specs.Prelude.{◌≡◌, Bool, true, false, not, cond, ◌&&◌, ◌||◌, ℕ, ◌<◌, eqb, Some, None}
use Rattle.rows.specs.Lowest.{lowest, some}
use Rattle.rows.specs.Relation.{Rel}
use Rattle.rows.specs.Shortest.{NotLater}
use Rattle.rows.specs.Placing.{all_placed, positions, Ringless, in_order}
use Rattle.record.specs.Terms.{value}
use Rattle.record.specs.History.{History, vis}
use Rattle.record.specs.Positioned.{Arbitration, positioned}
use Rattle.consistency.specs.Relations.{ob, hb, write, read}
use Rattle.consistency.specs.Reads.{candidate, held, same_held}
use Rattle.consistency.specs.FirstPair.{Verdict}
use Rattle.consistency.specs.Predicates.{verdict}
use Rattle.consistency.specs.Holds.{Holds}
use Rattle.consistency.specs.Breaks.{AllHold}
use Rattle.consistency.specs.Models.{list_of}
use Rattle.consistency.specs.Lattice.{causal}
use Rattle.consistency.specs.declared.Predicate.TheVariants.{CausalVisibility}

-- ---- 47: values that do not tell writes apart

-- v is a write of w's object with w's value
abbrev pub same_written : History → Rel
same_written h v w = write h v && (ob h v w && eqb (h.value v) (h.value w))

-- w is a write that has the value of a lower-numbered write of its object, or of its object's opening
unfoldable pub repeats : History → ℕ → Bool
repeats h w = write h w && (some w (λ v. same_written h v w) || same_held (h.terms.opening (h.object w)) (value (h.value w)))

-- the lowest such write, or the count
unfoldable pub first_repeat : History → ℕ
first_repeat h = lowest h.count (repeats h)

-- ---- how the order is found

-- e is a returned read
abbrev pub returned_read : History → ℕ → Bool
returned_read h e = read h e && not (h.is_pending e)

-- e sees the write w of its object, and holds its value
abbrev pub holds_of : History → ℕ → ℕ → Bool
holds_of h e w = candidate h e w && same_held (held h e) (value (h.value w))

-- e holds the value of a write of its object that it sees, or where it sees none the opening
unfoldable pub readable : History → ℕ → Bool
readable h e = cond (some h.count (candidate h e)) (some h.count (holds_of h e)) (same_held (held h e) (h.terms.opening (h.object e)))

-- a returned read that no order makes right
unfoldable pub unreadable : History → ℕ → Bool
unreadable h e = returned_read h e && not (readable h e)

-- a read's value puts a before b: it holds b's, and sees a, another write of its object
unfoldable pub value_puts : History → Rel
value_puts h a b = not (eqb a b) && some h.count (λ e. candidate h e a && (returned_read h e && holds_of h e b))

-- hb or a read's value puts a before b
unfoldable pub puts : History → Rel
puts h a b = hb h a b || value_puts h a b

-- the same where 10 is met, and hb is vis: what code goes by
unfoldable pub seen_puts : History → Rel
seen_puts h a b = vis h a b || value_puts h a b

abbrev pub met : Verdict → Bool
met None = true
met (Some x) = false

-- 10 is met, every returned read can be right, and every event is placed
unfoldable pub has_order : History → Bool
has_order h = met (verdict CausalVisibility h) && (not (some h.count (unreadable h)) && all_placed h.count (puts h))

-- each time the lowest-numbered event for which everything that hb or a read's value puts before it is placed
unfoldable pub found_positions : History → ℕ → ℕ
found_positions h = positions h.count (puts h)

-- ---- what it means

-- no two writes of an object have one value
abbrev pub Unambiguous : History → Type 0
Unambiguous h = (v w : ℕ) → v < h.count → w < h.count → write h v ≡ true → write h w ≡ true → h.object v ≡ h.object w → h.value v ≡ h.value w → v ≡ w

-- some order makes a read right: it sees no write and holds the opening, or holds the value of one that it sees
pub data Readable (h : History) (e : ℕ) : Type 0 where
  opening-held : ((w : ℕ) → w < h.count → candidate h e w ≡ false) → held h e ≡ h.terms.opening (h.object e) → Readable h e
  write-held : (w : ℕ) → w < h.count → candidate h e w ≡ true → held h e ≡ value (h.value w) → Readable h e

abbrev pub Readables : History → Type 0
Readables h = (e : ℕ) → e < h.count → read h e ≡ true → h.is_pending e ≡ false → Readable h e

-- what it takes: hb is within vis, each returned read can be right, and nothing is put before itself in any number of steps
pub record Orderable (h : History) : Type 0 where
  pub visibility : Holds CausalVisibility h
  pub reads : Readables h
  pub ringless : Ringless h.count (puts h)

-- p is an arbitration with which h is causal: 10, 11 and 1 hold
pub record MakesCausal (h : History) (p : ℕ → ℕ) : Type 0 where
  pub arbitration : Arbitration h.count p
  pub holds : AllHold (list_of causal) (positioned p h)

-- the first of all arbitrations that do: the one with the lower event where it first differs from another
pub record FirstCausal (h : History) (p : ℕ → ℕ) : Type 0 where
  pub causal : MakesCausal h p
  pub first : (o : ℕ → ℕ) → MakesCausal h o → NotLater (in_order h.count p) (in_order h.count o)
