-- `rows::meet` meets its contract: the words passed are those of what all three have. Assumes nothing.
use mathlib.Core.List.{List}
use Prim.Native.Nat.{ℕ}
use lib.ListN.{get_or}
use Rattle.rows.specs.Row.{and_row}
use Rattle.rows.proofs.StoredLaws.{Stored}
use Rattle.rows.proofs.meet.Given as goal

abbrev pub met : List ℕ → List ℕ → List ℕ → List ℕ
met a b c = and_row (and_row a b) c

abbrev pub invariant-loop-i : goal.invariant-loop-i
invariant-loop-i l = Stored (λ j. get_or (met l.a l.b l.c) j 0) l.initial.dst l.dst l.i
