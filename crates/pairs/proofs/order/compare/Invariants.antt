-- `pairs::order::compare` meets its contract. The invariant: the two rows say of each event what the events passed say. Assumes nothing.
use Rattle.std.proofs.Common.{◌≡◌, length}
use Rattle.record.specs.History.{vis}
use Rattle.consistency.specs.Relations.{ar}
use Rattle.pairs.specs.Searches.{history_given, cut_to, Compared}
use Rattle.pairs.proofs.order.compare.Given as goal

abbrev pub invariant-loop-b : goal.invariant-loop-b
invariant-loop-b g l =
    let h = history_given g.row.W l.order.events in
    (length l.differing ≡ g.row.W) × (length l.visible ≡ g.row.W)
    × Compared h.count l.b (cut_to l.cut h (vis h)) (cut_to l.cut h (ar h)) l.differing l.visible
