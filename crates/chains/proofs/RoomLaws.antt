-- Laws of rows by themselves and of the room for them. Assumes nothing.
use mathlib.Core.Path.{◌≡◌}
use mathlib.Core.List.{List}
use Prim.Native.Nat.{ℕ, ◌+◌, ◌*◌, ◌<◌, ◌≤◌}
use native.Mathlib.Omega.{arith}
use lib.ListN.{length}
use lib.Seq.{take_all}
use Rattle.rows.specs.Row.{row_at}
use Rattle.rows.proofs.TableLaws.{row_room}

-- a row by itself is row 0 of a table
pub row-alone : (l : List ℕ) (w : ℕ) → length l ≡ w → row_at l w 0 ≡ l
row-alone l w e = let none : 0 * w ≡ 0 = omega arith in rw none (take_all w l (omega arith))

-- there is room for one row more than events
pub near_room : (n w k m : ℕ) → k < n → n * w + w ≤ m → (k + 1) * w + w ≤ m
near_room n w k m h room = row_room (n + 1) w (k + 1) m (omega arith) (omega arith)
