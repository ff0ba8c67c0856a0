-- `reader::sets::load_row` meets its contract: a word of the set where it has one, and else zero. Assumes nothing.
use mathlib.Core.List.{List, ◌++◌}
use Prim.Native.Nat.{ℕ, ◌-◌}
use lib.ListN.{length, get_or, replicate}
use Rattle.rows.specs.Octets.{words}
use Rattle.rows.proofs.StoredLaws.{Stored}
use Rattle.reader.proofs.sets.load_row.Given as goal

-- the row as it is to be
abbrev pub loaded : List ℕ → List ℕ → ℕ → ℕ → List ℕ
loaded row s at k = words k s at ++ replicate (length row - k) 0

abbrev pub invariant-loop-i : goal.invariant-loop-i
invariant-loop-i l = Stored (λ j. get_or (loaded l.initial.row l.s l.at l.k) j 0) l.initial.row l.row l.i
