-- `writer::octets_of` meets its contract: a mask of eight bits leaves a number's lowest byte, and the highest needs none. Assumes nothing.
use mathlib.Core.Path.{◌≡◌}
use Prim.Native.Nat.{◌/◌, ◌%◌, ◌^◌}
use native.Mathlib.Omega.{arith}
use lib.Bits.{and_mask}
use Rattle.writer.proofs.BytesLaws.{le_bytes}
use Rattle.writer.proofs.octets_of.Goals as goal

pub returns : goal.returns
returns c =
    let x = c.args.word in
    let top : x / 2 ^ 56 % 256 ≡ x / 2 ^ 56 = omega arith in
    rw (and_mask x 8, and_mask (x / 2 ^ 8) 8, and_mask (x / 2 ^ 16) 8, and_mask (x / 2 ^ 24) 8, and_mask (x / 2 ^ 32) 8, and_mask (x / 2 ^ 40) 8, and_mask (x / 2 ^ 48) 8, ← top)
    (le_bytes 8 x)
