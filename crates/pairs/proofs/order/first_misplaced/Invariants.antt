-- `pairs::order::first_misplaced` meets its contract. The invariants: each event passed fits, and vis and ar agree on a and each b passed. Assumes nothing.
use Rattle.std.proofs.Common.{◌≡◌, false, not, ◌&&◌, ℕ, ◌<◌}
use Rattle.rows.specs.Row.{has}
use Rattle.record.specs.Words.{is_pending_in}
use Rattle.pairs.specs.Searches.{history_given, told_apart}
use Rattle.pairs.proofs.order.first_misplaced.Given as goal

abbrev pub invariant-loop-b : goal.invariant-loop-b
invariant-loop-b g l = (y : ℕ) → y < l.b → told_apart l.cut (history_given g.row.W l.events) l.a y ≡ false

abbrev pub invariant-loop-a : goal.invariant-loop-a
invariant-loop-a g l = (x : ℕ) → x < l.a → has l.differing x && not (is_pending_in l.events.heads.words.now x && not (has l.visible x)) ≡ false
