-- A record moved to another edition ('Moving records between editions', Change 9): its sites, its events with all their fields, and its terms, in that edition's
-- bytes.
use Rattle.std.specs.Prelude.{◌≡◌, Bool, false, not, cond, ◌&&◌, ◌||◌, List, ℕ, ◌*◌, ◌≤◌, eqb, leb, take}
use Rattle.rows.specs.Lowest.{some}
use Rattle.record.specs.Layout.{Layout, EditionName, GCR1, GCR2, GCR3, edition, named_by, count_in, sites_in}
use Rattle.record.specs.Terms.{none, is_value, Terms}
use Rattle.record.specs.History.{History, history_of}
use Rattle.record.specs.Encode.{blocks_for, record_bytes}

-- ---- editions by number: 1 to 3

abbrev pub is_edition : ℕ → Bool
is_edition k = leb 1 k && leb k 3

abbrev pub edition_number : EditionName → ℕ
edition_number GCR1 = 1
edition_number GCR2 = 2
edition_number GCR3 = 3

abbrev pub named : ℕ → EditionName
named k = cond (eqb k 1) GCR1 (cond (eqb k 2) GCR2 GCR3)

-- the layout of edition k
abbrev pub numbered : ℕ → Layout
numbered k = edition (named k)

-- the number of a record's own edition, by its letters
abbrev pub edition_number_of : List ℕ → ℕ
edition_number_of s = edition_number (named_by (take 4 s))

-- ---- what can stand in an edition

-- no difference, and no opening of objects 0 to 31
abbrev pub says_none : Terms → Bool
says_none t = eqb t.difference 0 && not (some 32 (λ o. is_value (t.opening o)))

-- what h says can stand in edition L: its events, and its terms or that it has none
unfoldable pub can_stand : Layout → History → Bool
can_stand L h = leb h.count L.events && (L.terms || says_none h.terms)

-- the same as facts
pub record StandsIn (L : Layout) (h : History) : Type 0 where
  pub count : h.count ≤ L.events
  pub even : L.terms ≡ false → h.terms.difference ≡ 0
  pub lacking : L.terms ≡ false → (o : ℕ) → h.terms.opening o ≡ none

-- ---- the record

-- s, of edition L, as a record of edition M
abbrev pub converted : Layout → Layout → List ℕ → List ℕ
converted L M s = record_bytes M (sites_in s) (history_of L s)

-- its bytes
abbrev pub length_in : Layout → List ℕ → ℕ
length_in M s = 512 * blocks_for M (count_in s)
