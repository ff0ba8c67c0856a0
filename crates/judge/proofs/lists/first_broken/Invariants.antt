-- `judge::lists::first_broken` meets its contract. The invariant: the outcome of the list is that of what is left of it. Assumes nothing.
use mathlib.Core.Path.{◌≡◌}
use lib.ListN.{drop}
use Rattle.consistency.specs.Models.{first_broken}
use Rattle.judge.specs.Judgments.{said_by}
use Rattle.judge.specs.Lists.{numbers_of}
use Rattle.judge.proofs.lists.first_broken.Given as goal

abbrev pub invariant-loop-p : goal.invariant-loop-p
invariant-loop-p l = first_broken (numbers_of l.list) (said_by l.passed.record.now) ≡ first_broken (numbers_of (drop l.p-index l.list)) (said_by l.passed.record.now)
