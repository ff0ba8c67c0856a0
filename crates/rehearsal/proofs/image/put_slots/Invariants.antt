-- `rehearsal::image::put_slots` meets its contract: the loop has written the slots of the events passed. Assumes nothing.
use mathlib.Core.List.{List}
use mathlib.Core.Path.{◌≡◌}
use Prim.Native.Nat.{ℕ, ◌≤◌}
use lib.ListN.{length}
use Rattle.record.specs.Layout.{store_layout, slot_at}
use Rattle.record.specs.Terms.{Terms}
use Rattle.calls.specs.Lent.{with_counts, store_in}
use Rattle.rehearsal.proofs.ImageLaws.{Slotted}
use Rattle.rehearsal.proofs.image.put_slots.Given as goal

abbrev pub invariant-loop-k : goal.invariant-loop-k
invariant-loop-k l =
    let z = l.store in
    (l.k ≤ z.count) × ((length l.rec ≡ length l.initial.rec) × ((l.at ≡ slot_at store_layout l.k) × ((t : Terms) (held needs : List (List ℕ)) → Slotted (store_in t (with_counts z held needs)) l.initial.rec l.rec l.k)))
