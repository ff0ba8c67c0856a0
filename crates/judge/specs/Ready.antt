-- A record that passed, as its predicates are judged: its words, groups of its events, and tables. Only contracts of inner functions cite this.
use Rattle.std.specs.Prelude.{◌≡◌, List, ℕ, ◌≤◌, length, take, Ok}
use Rattle.record.specs.Layout.{edition_of, row_words, work_words, terms_length}
use Rattle.record.specs.History.{History, under, Agree}
use Rattle.record.specs.Questions.{questions}
use Rattle.record.specs.Words.{visible_words, history_from, terms_from}
use Rattle.events.specs.Given.{Given, Groups}
use Rattle.tables.specs.Tables.{Prepared}
use Rattle.judge.specs.Judgments.{said_by}

-- the record s passed, and v begins with its visible sets
pub record ReadInto (s v : List ℕ) : Type 0 where
  pub passed : questions (edition_of s) s ≡ Ok tt
  pub visible : take work_words v ≡ visible_words (edition_of s) s

-- what words say: l and v, four of fields and a row of the work slice an event, of n events, and q of terms
abbrev pub history_in : ℕ → List ℕ → List ℕ → List ℕ → History
history_in n l v q = under (terms_from q) (history_from n row_words l v)

-- the words l and v have the n events of the record s, and q its terms; from these are groups and t
pub record Ready (s : List ℕ) (n : ℕ) (l v q groups t : List ℕ) : Type 0 where
  pub given : Given n row_words l v
  pub terms : terms_length ≤ length q
  pub agree : Agree (said_by s) (history_in n l v q)
  pub grouped : Groups n row_words l groups
  pub tables : Prepared n row_words (history_in n l v q) t
