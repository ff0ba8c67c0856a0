-- `calls::sites::with_held` meets its contract: the loop has raised the counts passed, one of them by one. Assumes nothing.
use Prim.Native.Nat.{◌-◌, ◌≤◌}
use Rattle.rows.proofs.StoredLaws.{Stored}
use Rattle.calls.proofs.KeptLaws.{raised}
use Rattle.calls.proofs.sites.with_held.Given as goal

abbrev pub invariant-loop-i : goal.invariant-loop-i
invariant-loop-i l = (l.i ≤ 8) × Stored (raised l.initial.all l.j) l.initial.all l.all l.i

abbrev pub decreases-loop-i : goal.decreases-loop-i
decreases-loop-i l = 8 - l.i
