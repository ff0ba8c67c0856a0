-- `calls::sites::reaches` meets its contract: the loop keeps whether the counts before i reach their needs. Assumes nothing.
use mathlib.Core.Path.{◌≡◌}
use Prim.Native.Nat.{ℕ, ◌≤◌, ◌-◌}
use lib.ListN.{get_or}
use Rattle.store.specs.Rules.{reached}
use Rattle.calls.proofs.sites.reaches.Given as goal

abbrev pub invariant-loop-i : goal.invariant-loop-i
invariant-loop-i l = (l.i ≤ 8) × (l.all ≡ reached l.i (λ (j : ℕ). get_or l.needs j 0) (λ (j : ℕ). get_or l.counts j 0))

abbrev pub decreases-loop-i : goal.decreases-loop-i
decreases-loop-i l = 8 - l.i
