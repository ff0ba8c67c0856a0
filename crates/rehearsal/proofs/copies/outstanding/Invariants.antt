-- `rehearsal::copies::outstanding` meets its contract: the loop has counted what the sites passed lack. Assumes nothing.
use mathlib.Core.Path.{◌≡◌}
use Prim.Native.Nat.{ℕ, ◌*◌, ◌≤◌}
use Rattle.rows.specs.Count.{sum, how_many}
use Rattle.rows.specs.Row.{only_first}
use Rattle.record.specs.Layout.{most_events}
use Rattle.calls.specs.Lent.{Lent, row_in}
use Rattle.rehearsal.proofs.copies.outstanding.Given as goal

-- how many puts site s lacks
abbrev pub lacked : Lent → ℕ → ℕ
lacked z s = how_many most_events (only_first z.puts (row_in z.known s))

abbrev pub invariant-loop-known : goal.invariant-loop-known
invariant-loop-known l = (l.all ≤ l.known-index * most_events) × (l.all ≡ sum l.known-index (lacked l.fn.store))
