-- What the words of events say, in the terms in which code reads them. Assumes nothing.
use mathlib.Core.Path.{◌≡◌, refl}
use mathlib.Core.Bool.{Bool, true, false, ◌&&◌}
use mathlib.Core.List.{List}
use Prim.Native.Nat.{ℕ, ◌+◌}
use lib.Dec.{ltb}
use Rattle.std.specs.Prelude.{Some, None}
use Rattle.std.specs.Option.{unwrap_or}
use Rattle.rows.specs.Row.{has}
use Rattle.record.specs.Terms.{none, value, Terms}
use Rattle.record.specs.History.{under}
use Rattle.record.specs.Words.{history_from, figure_in, opening_from}
use Rattle.consistency.specs.Reads.{Last, held, same_held, left_by, last_or}
use Rattle.events.specs.Given.{fields_of}

module _ (n w : ℕ) (l v : List ℕ) where
  -- the fields and the terms are all that these read
  pub held_test : (T : Terms) (e : ℕ) (x : Last) (t : Bool) → t ≡ same_held (held (fields_of l) e) (left_by (under T (fields_of l)) e x)
      → t ≡ same_held (held (under T (history_from n w l v)) e) (left_by (under T (history_from n w l v)) e x)
  unfolding history_from
  held_test T e None t q = q
  held_test T e (Some x) t q = q

-- the last write, or the read itself
pub or_itself : (e : ℕ) (x : Last) → unwrap_or x e ≡ last_or e x
or_itself e None = refl
or_itself e (Some w) = refl

-- ---- object o's opening in the words of terms

pub no_opening : (q : List ℕ) (o : ℕ) → ltb o 32 && has q (32 + o) ≡ false → opening_from q o ≡ none
unfolding opening_from
no_opening q o e = rw e

pub an_opening : (q : List ℕ) (o : ℕ) → ltb o 32 && has q (32 + o) ≡ true → opening_from q o ≡ value (figure_in q o)
unfolding opening_from
an_opening q o e = rw e
