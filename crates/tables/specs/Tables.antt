-- The tables from which predicates are judged: n rows of w words each, one table after the other in one slice. Row b of a table has the events related
-- to b. Only contracts of inner functions cite this.
use Rattle.std.specs.Prelude.{◌≡◌, List, ℕ, ◌*◌, ◌<◌, ◌≤◌, length, take, drop}
use Rattle.rows.specs.Relation.{Table, reaches, related}
use Rattle.record.specs.History.{History, vis}
use Rattle.consistency.specs.Relations.{rb, ob, so, ar, hb, read, both, through}
use Rattle.events.specs.Given.{fields_of}

-- table k of a slice
abbrev pub part : ℕ → ℕ → ℕ → List ℕ → List ℕ
part n w k t = take (n * w) (drop (k * (n * w)) t)

-- tables 0 to 3: rb, so, the pairs of predicates 5 and 8, a vis b, b so c for a read b, and so cut to one object
pub record Timed (n w : ℕ) (h : History) (t : List ℕ) : Type 0 where
  pub rbs : Table n w (rb h) (part n w 0 t)
  pub sos : Table n w (so h) (part n w 1 t)
  pub middles : Table n w (through h (read h) (vis h) (so h)) (part n w 2 t)
  pub objects : Table n w (both (so h) (ob h)) (part n w 3 t)

-- all six: those, hb and ar
pub record Prepared (n w : ℕ) (h : History) (t : List ℕ) : Type 0 where
  pub size : 6 * (n * w) ≤ length t
  pub timed : Timed n w h t
  pub hbs : Table n w (hb h) (part n w 4 t)
  pub ars : Table n w (ar h) (part n w 5 t)

-- from `old` to `new` table 4 is closed, and table 5 is filled with ar by the fields l; the others stay, and so does what comes after them
pub record Finished (n w : ℕ) (l old new : List ℕ) : Type 0 where
  pub size : length new ≡ length old
  pub kept : (k : ℕ) → k < 4 → part n w k new ≡ part n w k old
  pub closed : Table n w (reaches n (related (part n w 4 old) w)) (part n w 4 new)
  pub placed : Table n w (ar (fields_of l)) (part n w 5 new)
  pub rest : drop (6 * (n * w)) new ≡ drop (6 * (n * w)) old
