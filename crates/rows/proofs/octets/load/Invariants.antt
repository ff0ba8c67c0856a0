-- `rows::octets::load` meets its contract: the first i words are loaded, and the rest as they were. Assumes nothing.
use mathlib.Core.Path.{◌≡◌}
use mathlib.Core.List.{◌++◌}
use lib.ListN.{drop}
use Rattle.rows.specs.Octets.{words}
use Rattle.rows.proofs.octets.load.Given as goal

abbrev pub invariant-loop-i : goal.invariant-loop-i
invariant-loop-i l = l.row ≡ words l.i l.s l.at ++ drop l.i l.initial.row
