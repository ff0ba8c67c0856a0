-- `reach::closure::settle_row` meets its contract: row b is closed where it has settled events only, and b joins those. Assumes nothing.
use mathlib.Core.Path.{◌≡◌, refl, sym, ◌∙◌}
use mathlib.Core.Bool.{true}
use Prim.Native.Nat.{ℕ, ◌*◌, ◌/◌, ◌<◌}
use native.Mathlib.Omega.{arith}
use borrow.Author.Tests.{eq-eqb}
use lib.Dec.{eqb}
use lib.ListN.{length}
use Rattle.rows.specs.Row.{has, only_first}
use Rattle.rows.specs.Relation.{related}
use Rattle.rows.proofs.Tests.{or_left, or_right}
use Rattle.rows.proofs.FoundLaws.{is_none-found}
use Rattle.rows.proofs.RowLaws.{has-insert, subset_has}
use Rattle.reach.proofs.FoundLaws.{lacking-member}
use Rattle.reach.proofs.ClosedLaws.{closed-nested, closed-more, graph_joined, onward}
use Rattle.reach.proofs.closure.settle_row.Goals.{Then-is_none}
use Rattle.reach.proofs.closure.settle_row.Goals as goal

-- row b has settled events only
inside : (c : Then-is_none) → let a = c.args in (x : ℕ) → related a.table.now a.w x a.b ≡ true → has a.settled.now x ≡ true
inside c = rw c.row.ensures at
    (subset_has c.row.result.now c.args.settled.now
    (sym (is_none-found (64 * length c.row.result.now) (only_first c.row.result.now c.args.settled.now) c.is_none.result (rw c.lowest_difference-unsettled.ensures at c.is_none.ensures))
    ∙ c.if-is_none.true))

-- b has a place among the settled events
place : (c : Then-is_none) → c.args.b / 64 < length c.args.settled.now
place c = omega (arith, c.requires.sound.0.graph.wide, c.requires.b_lt_n, c.requires.settled_len)

pub close_row-requires-clause-nested : goal.close_row-requires-clause-nested
close_row-requires-clause-nested c = closed-nested c.requires.sound.0.closed c.args.b (inside (goal.at.close_row-requires-clause-nested c).Then-is_none)

pub returns-then-is_none-clause-comes : goal.returns-then-is_none-clause-comes
returns-then-is_none-clause-comes c =
    let e = (goal.at.returns-then-is_none-clause-comes c).Then-is_none in
    let b = c.args.b in
    let l = c.args.settled.now in
    let s = c.requires.sound.0 in
    let p = c.close_row.ensures in
    onward (record {
      graph = graph_joined b c.close_row.new.table s.graph p.table_len_unchanged p.by_index;
      size = p.table_len_unchanged;
      closed = closed-more s.closed b (inside e) c.close_row.new.table p.by_index (sym c.test.ensures ∙ c.if-test.false) c.set.ensures c.requires.b_lt_n (place e);
      more = λ x m. rw c.set.ensures (has-insert l b x (place e) ∙ or_right (eqb b x) (has l x) m);
    })

pub returns-then-is_none-clause-settles : goal.returns-then-is_none-clause-settles
returns-then-is_none-clause-settles c e =
    let b = c.args.b in
    let l = c.args.settled.now in
    rw c.set.ensures (has-insert l b b (place (goal.at.returns-then-is_none-clause-settles c).Then-is_none) ∙ or_left (eqb b b) (has l b) (eq-eqb b b refl))

pub returns-else-is_none-clause-waits : goal.returns-else-is_none-clause-waits
returns-else-is_none-clause-waits c x e =
    c.requires.sound.0.graph.inside c.args.b x c.requires.b_lt_n
    (rw c.row.ensures at (lacking-member c.row.result.now c.args.settled.now x (sym c.lowest_difference-unsettled.ensures ∙ e)))
