-- `writer::put_slot` meets its contract: the fields one after the other, and then the words of the row. Assumes nothing.
use mathlib.Core.List.{List, [], ◌∷◌, ◌++◌}
use Prim.Native.Nat.{ℕ, ◌+◌, ◌*◌}
use native.Mathlib.Omega.{arith}
use lib.ListN.{length, replicate}
use Rattle.rows.specs.Row.{has}
use Rattle.record.specs.Encode.{little_bytes, bit, set_bytes, slot_from}
use Rattle.record.proofs.StoresLaws.{sets_then}
use Rattle.writer.proofs.BytesLaws.{le-then, bool-bit}
use Rattle.writer.proofs.put_slot.Goals as goal

pub returns : goal.returns
unfolding slot_from
returns c =
    let x = c.args.x in
    let at = c.args.at in
    let set : List ℕ = set_bytes (8 * length c.args.row.now) (has c.args.row.now) in
    let last : List ℕ = little_bytes 8 x.returned ++ set in
    let times : List ℕ = little_bytes 8 x.start ++ last in
    let gap : List ℕ = replicate 4 0 ++ times in
    let place : List ℕ = little_bytes 2 x.position ++ gap in
    let held : List ℕ = bit x.present ∷ 0 ∷ place in
    let value : List ℕ = little_bytes 4 x.value ++ held in
    let e₇ = le-then 8 x.returned set _ _ _ (at + 24) (at + 32) c.put-7.ensures c.to_le_bytes-4.ensures c.put_row.ensures (omega arith) in
    let e₆ = le-then 8 x.start last _ _ _ (at + 16) (at + 24) c.put-6.ensures c.to_le_bytes-3.ensures e₇ (omega arith) in
    let e₅ = sets_then (replicate 4 0) times _ _ _ (at + 12) (at + 16) c.put-5.ensures e₆ (omega arith) in
    let e₄ = le-then 2 x.position gap _ _ _ (at + 10) (at + 12) c.put-4.ensures c.to_le_bytes-2.ensures e₅ (omega arith) in
    let e₃ = sets_then (bit x.present ∷ 0 ∷ []) place _ _ _ (at + 8) (at + 10) (rw (bool-bit x.present) at c.put-3.ensures) e₄ (omega arith) in
    let e₂ = le-then 4 x.value held _ _ _ (at + 4) (at + 8) c.put-2.ensures c.to_le_bytes.ensures e₃ (omega arith) in
    sets_then (bit x.write ∷ x.site ∷ x.object ∷ bit x.pending ∷ []) value _ _ _ at (at + 4) (rw (bool-bit x.write, bool-bit x.pending) at c.put.ensures) e₂ (omega arith)
