-- `rows::octets::test` meets its contract: the digit that `>>` and `& 1` leave is the one that `has_byte` reads. Assumes nothing.
use Rattle.rows.specs.Octets.{has_byte}
use Rattle.rows.proofs.Digits.{and_one}
use Rattle.rows.proofs.octets.test.Goals as goal

pub returns : goal.returns
unfolding has_byte
returns c = rw and_one
