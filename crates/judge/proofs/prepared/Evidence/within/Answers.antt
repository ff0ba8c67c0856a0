-- `judge::prepared::Evidence::within` meets its contract: the two groups are rows of their slice. Assumes nothing.
use mathlib.Core.Path.{◌≡◌, refl, ◌∙◌}
use mathlib.Core.Bool.{true}
use mathlib.Core.List.{List}
use Prim.Native.Nat.{ℕ, ◌<◌}
use borrow.Author.Tests.{lt-ltb}
use Rattle.rows.specs.Row.{has, Row}
use Rattle.judge.proofs.PreparedLaws.{lent-rows}
use Rattle.judge.proofs.prepared.Evidence.within.Goals as goal

-- every event is in the row of all
every_end : (n : ℕ) (row : List ℕ) → Row n (λ e. true) row → (b : ℕ) → b < n → has row b ≡ true
every_end n row r b h = r b ∙ rw (lt-ltb b n h) refl

pub first_outside_whole-requires-clause-whole : goal.first_outside_whole-requires-clause-whole
first_outside_whole-requires-clause-whole c = λ q b h.
    let e = c.args.self.now.events in
    rw (c.group-to.ensures, c.if-ends-eq-EVERY.true) (every_end e.count _ e.grouped.every b h)

pub returns-then-ends-eq-EVERY : goal.returns-then-ends-eq-EVERY
returns-then-ends-eq-EVERY c =
    let e = c.args.self.now in
    c.first_outside_whole.ensures ∙ lent-rows e.events.count c.args.starts c.args.ends e.events.groups.now _ c.args.r.now c.table-table.ensures c.group-from.ensures c.group-to.ensures

pub returns-else-ends-eq-EVERY : goal.returns-else-ends-eq-EVERY
returns-else-ends-eq-EVERY c =
    let e = c.args.self.now in
    c.first_outside.ensures ∙ lent-rows e.events.count c.args.starts c.args.ends e.events.groups.now _ c.args.r.now c.table-table.ensures c.group-from.ensures c.group-to.ensures
