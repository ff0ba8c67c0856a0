-- A history whose record passes every check: what questions 5 and 7 to 10 ask, said of the history.
use Rattle.std.specs.Prelude.{◌≡◌, true, false, ℕ, ◌^◌, ◌<◌, ◌≤◌}
use Rattle.rows.specs.Relation.{reaches}
use Rattle.record.specs.Layout.{Layout, object_count}
use Rattle.record.specs.Terms.{none, value_or0, Terms}
use Rattle.record.specs.History.{History, vis}

-- the fields of event e
pub record WellFormedEvent (sites : ℕ) (h : History) (e : ℕ) : Type 0 where
  pub site : h.site e < sites
  pub object : h.object e < object_count
  pub value : h.value e < 2 ^ 32
  pub absent : h.is_present e ≡ false → h.value e ≡ 0
  pub written : h.is_write e ≡ true → h.is_present e ≡ true
  pub unread : h.is_write e ≡ false → h.is_pending e ≡ true → h.is_present e ≡ false
  pub start : h.start e < 2 ^ 64
  pub return : h.return e < 2 ^ 64
  pub pending : h.is_pending e ≡ true → h.return e ≡ 0
  pub returned : h.is_pending e ≡ false → h.start e ≤ h.return e

-- a difference and openings only in an edition that has them, each of 32 bits, and openings only of objects 0 to 31
pub record WellFormedTerms (L : Layout) (t : Terms) : Type 0 where
  pub even : L.terms ≡ false → t.difference ≡ 0
  pub difference : t.difference < 2 ^ 32
  pub lacking : L.terms ≡ false → (o : ℕ) → t.opening o ≡ none
  pub above : (o : ℕ) → 32 ≤ o → t.opening o ≡ none
  pub value : (o : ℕ) → value_or0 (t.opening o) < 2 ^ 32

pub record WellFormed (L : Layout) (sites : ℕ) (h : History) : Type 0 where
  pub least : 1 ≤ sites
  pub most : sites ≤ 8
  pub count : h.count ≤ L.events
  pub terms : WellFormedTerms L h.terms
  pub event : (e : ℕ) → e < h.count → WellFormedEvent sites h e
  pub position : (e : ℕ) → e < h.count → h.position e < h.count
  pub distinct : (d e : ℕ) → d < h.count → e < h.count → h.position d ≡ h.position e → d ≡ e
  pub inside : (e b : ℕ) → e < h.count → h.sees e b ≡ true → b < h.count
  pub not_itself : (e : ℕ) → e < h.count → h.sees e e ≡ false
  pub ringless : (e : ℕ) → e < h.count → reaches h.count (vis h) e e ≡ false
