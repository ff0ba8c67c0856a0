-- `rehearsal::run::run` meets its contract: after k calls the arrays stand for the store of those calls, and their answers are written. Assumes nothing.
use Prim.Native.Nat.{◌/◌, ◌≤◌}
use lib.ListN.{length}
use Rattle.record.specs.Terms.{Terms}
use Rattle.rehearsal.specs.Runs.{Fresh}
use Rattle.rehearsal.proofs.RunLaws.{Turned}
use Rattle.rehearsal.proofs.run.run.Given as goal

abbrev pub invariant-loop-k : goal.invariant-loop-k
invariant-loop-k l = (l.k ≤ length l.script / 8) × ((t : Terms) → Fresh t l.initial.store → Turned l.n t l.script l.initial.out l.out l.store l.k)
