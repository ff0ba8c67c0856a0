-- `writer::put` meets its contract: the part that is lent becomes the bytes. Assumes nothing.
use mathlib.Core.Path.{◌≡◌, ap, ◌∙◌}
use Prim.Native.Nat.{◌+◌, ◌-◌}
use native.Mathlib.Omega.{arith}
use lib.ListN.{length, take, drop}
use Rattle.record.proofs.WrittenLaws.{part_stored, whole_copied}
use Rattle.writer.proofs.put.Goals as goal

pub returns : goal.returns
returns c =
    let a = c.args in
    let d = c.copy_from_slice.new.self in
    let k = a.at + length a.bytes.now - a.at in
    let long : length (take k (drop a.at a.s.now)) ≡ length a.bytes.now = omega (arith, ap length c.copy_from_slice.ensures.after, c.copy_from_slice.ensures.len) in
    part_stored a.bytes.now a.s.now d a.at k (omega arith) (omega arith) (c.copy_from_slice.ensures.after ∙ whole_copied a.bytes.now (take k (drop a.at a.s.now)) long)
