-- `rows::remove` meets its contract: `!(1 << k)` is the mask of `erase`. Assumes nothing.
use Prim.Native.Nat.{◌%◌}
use native.Mathlib.Omega.{arith}
use Rattle.rows.specs.Row.{erase}
use Rattle.rows.proofs.Digits.{shl_one}
use Rattle.rows.proofs.remove.Goals as goal

pub returns : goal.returns
unfolding erase
returns c = rw (shl_one 64 (c.args.b % 64) (omega arith))
