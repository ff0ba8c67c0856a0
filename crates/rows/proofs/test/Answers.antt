-- `rows::test` meets its contract: the digit that `>>` and `& 1` leave is the one that `has` reads. Assumes nothing.
use Rattle.rows.specs.Row.{has}
use Rattle.rows.proofs.Digits.{and_one}
use Rattle.rows.proofs.test.Goals as goal

pub returns : goal.returns
unfolding has
returns c = rw and_one
