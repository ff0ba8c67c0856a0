-- `tables::real_time::join_far` meets its contract: the rows of the starts that are through are joined. Assumes nothing.
use mathlib.Core.Path.{◌≡◌}
use Rattle.tables.proofs.RealTimeLaws.{Joining}
use Rattle.tables.proofs.real_time.join_far.Given as goal

abbrev pub invariant-loop-start : goal.invariant-loop-start
invariant-loop-start l =
    (l.returned.heads ≡ l.heads) × (l.returned.order.now ≡ l.returns)
    × Joining l.heads.words.now l.n l.w l.difference l.starts l.returns l.initial.t l.returned.passed l.start-index l.far l.t
