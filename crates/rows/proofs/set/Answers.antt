-- `rows::set` meets its contract: `1 << k` is the power of two that `insert` puts in. Assumes nothing.
use Prim.Native.Nat.{◌%◌}
use native.Mathlib.Omega.{arith}
use Rattle.rows.specs.Row.{insert}
use Rattle.rows.proofs.Digits.{shl_one}
use Rattle.rows.proofs.set.Goals as goal

pub returns : goal.returns
unfolding insert
returns c = rw (shl_one 64 (c.args.b % 64) (omega arith))
