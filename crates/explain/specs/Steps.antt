-- The steps of hb, and the events in the middle, as the judge's tables have them. Only contracts of inner functions cite this.
use Rattle.std.specs.Prelude.{Bool, ◌&&◌, ◌||◌, List, ℕ}
use Rattle.rows.specs.Row.{row_at, only_first}
use Rattle.rows.specs.Relation.{Rel, related}
use Rattle.record.specs.Layout.{row_words}
use Rattle.events.specs.Given.{writes_row}
use Rattle.tables.specs.Tables.{part}

-- a step leads from x to y: so, which is table 1 of t, or vis, which the rows of v are
abbrev pub step_in : ℕ → List ℕ → List ℕ → Rel
step_in n t v x y = related (part n row_words 1 t) row_words x y || related v row_words x y

-- m is so before b and no write, and sees a; groups have the writes
abbrev pub between : ℕ → List ℕ → List ℕ → List ℕ → ℕ → ℕ → ℕ → Bool
between n v groups t a b m = only_first (row_at (part n row_words 1 t) row_words b) (row_at groups row_words writes_row) m && related v row_words a m
