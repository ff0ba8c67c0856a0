-- `judge::lists::by_number` meets its contract: the code's list is the specification's. Assumes nothing.
use mathlib.Core.Path.{refl}
use Rattle.consistency.specs.Predicates.{numbered}
use Rattle.judge.proofs.lists.by_number.Goals as goal

pub returns : goal.returns
unfolding numbered
returns c = refl
