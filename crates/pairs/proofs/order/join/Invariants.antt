-- `pairs::order::join` meets its contract. The invariant: the words passed have what is to join, and the others are as they were. Assumes nothing.
use Rattle.std.proofs.Common.{◌&&◌, Bool, List, ℕ}
use Rattle.rows.specs.Row.{has}
use Rattle.rows.proofs.JoinLaws.{Joining}
use Rattle.consistency.specs.Predicates.{differ}
use Rattle.pairs.proofs.order.join.Given as goal

-- exactly one of a and b has x, and m has it
abbrev pub one_has : List ℕ → List ℕ → List ℕ → ℕ → Bool
one_has a b m x = differ (has a x) (has b x) && has m x

abbrev pub both_have : List ℕ → List ℕ → ℕ → Bool
both_have a m x = has a x && has m x

abbrev pub invariant-loop-i : goal.invariant-loop-i
invariant-loop-i l =
    Joining (one_has l.seen l.before l.mates) l.initial.differing l.i l.differing × Joining (both_have l.seen l.mates) l.initial.visible l.i l.visible
