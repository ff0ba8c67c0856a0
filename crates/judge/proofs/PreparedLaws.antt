-- Laws of the tables that predicates are judged from: what filling leaves, and the relations that an inclusion is about. Assumes nothing.
use mathlib.Core.Path.{◌≡◌, refl, ◌∙◌}
use mathlib.Core.Bool.{Bool}
use mathlib.Core.List.{List}
use Prim.Native.Nat.{ℕ, ◌*◌, ◌≤◌}
use native.Mathlib.Omega.{arith}
use lib.ListN.{length, drop, length-take, length-drop}
use Rattle.rows.specs.Row.{row_at, Row}
use Rattle.rows.specs.Relation.{Rel, Table}
use Rattle.record.specs.Layout.{row_words}
use Rattle.record.specs.Terms.{Terms}
use Rattle.record.specs.History.{History, under, vis}
use Rattle.record.specs.Words.{history_from}
use Rattle.consistency.specs.Relations.{ar, from, to}
use Rattle.consistency.specs.FirstPair.{Verdict, first}
use Rattle.consistency.specs.Predicates.{outside, verdict}
use Rattle.consistency.specs.declared.Predicate.{Predicate}
use Rattle.events.specs.Given.{Given, fields_of}
use Rattle.events.proofs.GivenLaws.{seen-table}
use Rattle.tables.specs.Tables.{part, Prepared}
use Rattle.pairs.specs.Searches.{lacks}
use Rattle.pairs.proofs.InclusionLaws.{lacks-first}

module _ (n : ℕ) (l v : List ℕ) (q : Terms) where
  abbrev h : History
  h = under q (history_from n row_words l v)

  -- ar is a matter of the fields alone
  pub ars_fields : (ars : List ℕ) → Table n row_words (ar h) ars → Table n row_words (ar (fields_of l)) ars
  unfolding ar history_from
  ars_fields ars t = t

  pub fields_ars : (ars : List ℕ) → Table n row_words (ar (fields_of l)) ars → Table n row_words (ar h) ars
  unfolding ar history_from
  fields_ars ars t = t

-- ---- groups that are lent as rows of their slice

-- what a search finds is what the relations say
pub lent-rows : (n a b : ℕ) (g p r : List ℕ) {q starts ends : List ℕ} → q ≡ p → starts ≡ row_at g row_words a → ends ≡ row_at g row_words b
    → first n (lacks row_words q starts ends r) ≡ first n (lacks row_words p (row_at g row_words a) (row_at g row_words b) r)
lent-rows n a b g p r e f j = rw (e, f, j) refl

-- ---- what is judged from the tables

module _ (n : ℕ) (l v t : List ℕ) (q : Terms) (filled : Prepared n row_words (under q (history_from n row_words l v)) t) where
  -- ar as it is lent, as a matter of the fields
  pub ars-lent : {ars : List ℕ} → ars ≡ part n row_words 5 t → Table n row_words (ar (fields_of l)) ars × (n * row_words ≤ length ars)
  ars-lent e = rw e (
    ars_fields n l v q (part n row_words 5 t) filled.ars,
    omega (arith, filled.size, length-take (n * row_words) (drop (5 * (n * row_words)) t), length-drop (5 * (n * row_words)) t),
  )

  -- and vis
  pub seen-lent : Given n row_words l v → Table n row_words (vis (under q (history_from n row_words l v))) v
  unfolding vis history_from
  seen-lent g = seen-table n row_words l v g

-- the pairs of x, from an event of f to one of g, that y lacks, as a predicate's verdict has them
pub rows-judged : (p : Predicate) (k : History) (x y : Rel) (f g : ℕ → Bool) (q starts ends r : List ℕ) {v : Verdict}
    → Table k.count row_words x q → Table k.count row_words y r → Row k.count f starts → Row k.count g ends
    → v ≡ first k.count (lacks row_words q starts ends r) → first k.count (outside (from f (to g x)) y) ≡ verdict p k → v ≡ verdict p k
rows-judged p k x y f g q starts ends r left right from_row to_row e same =
    e ∙ lacks-first k.count row_words q starts ends r x y f g left right from_row to_row ∙ same
