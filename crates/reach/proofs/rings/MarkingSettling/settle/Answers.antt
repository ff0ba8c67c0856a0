-- `reach::rings::Marking::settle` meets its contract: an event whose row has settled events only joins those. Assumes nothing.
use mathlib.Core.Path.{◌≡◌, refl, sym, ◌∙◌}
use mathlib.Core.Bool.{true}
use Prim.Native.Nat.{ℕ, ◌*◌, ◌/◌, ◌<◌}
use native.Mathlib.Omega.{arith}
use borrow.Author.Rules.{rules}
use borrow.Author.Tests.{eq-eqb}
use lib.Dec.{eqb}
use lib.ListN.{length}
use Rattle.rows.specs.Row.{has, only_first}
use Rattle.rows.specs.Relation.{related}
use Rattle.rows.proofs.Tests.{or_left, or_right}
use Rattle.rows.proofs.FoundLaws.{is_none-found}
use Rattle.rows.proofs.RowLaws.{has-insert, subset_has}
use Rattle.reach.proofs.FoundLaws.{lacking-member}
use Rattle.reach.proofs.SettledLaws.{settled_more}
use Rattle.reach.proofs.rings.MarkingSettling.settle.Goals.{Then-is_none}
use Rattle.reach.proofs.rings.MarkingSettling.settle.Goals as goal

-- the row of e has settled events only
inside : (c : Then-is_none) → let a = c.args.self.now in (x : ℕ) → related a.relation.now.words.now a.relation.now.width x c.args.e ≡ true → has a.settled x ≡ true
inside c =
    let l = c.args.self.now.settled in
    rw c.row.ensures at
    (subset_has c.row.result.now l
    (sym (is_none-found (64 * length c.row.result.now) (only_first c.row.result.now l) c.is_none.result (rw c.lowest_difference-unsettled.ensures at c.is_none.ensures))
    ∙ c.if-is_none.true))

-- e has a place among the settled events
place : (c : Then-is_none) → c.args.e / 64 < length c.args.self.now.settled
place c =
    let long : length c.args.self.now.settled ≡ 8 = search rules in
    omega (arith, long, c.args.self.now.relation.now.graph.wide, c.requires.0.1, c.requires.1)

pub returns-then-is_none-clause-comes : goal.returns-then-is_none-clause-comes
returns-then-is_none-clause-comes c =
    let t = (goal.at.returns-then-is_none-clause-comes c).Then-is_none in
    let l = c.args.self.now.settled in
    let e = c.args.e in
    (refl, c.requires.0.1, settled_more c.requires.0.2 e (inside t) c.set.ensures c.requires.1 (place t), λ x m. rw c.set.ensures (has-insert l e x (place t) ∙ or_right (eqb e x) (has l x) m))

pub returns-then-is_none-clause-settles : goal.returns-then-is_none-clause-settles
returns-then-is_none-clause-settles c none =
    let l = c.args.self.now.settled in
    let e = c.args.e in
    rw c.set.ensures (has-insert l e e (place (goal.at.returns-then-is_none-clause-settles c).Then-is_none) ∙ or_left (eqb e e) (has l e) (eq-eqb e e refl))

pub returns-else-is_none-clause-waits : goal.returns-else-is_none-clause-waits
returns-else-is_none-clause-waits c x e =
    c.args.self.now.relation.now.graph.inside c.args.e x c.requires.1
    (rw c.row.ensures at (lacking-member c.row.result.now c.args.self.now.settled x (sym c.lowest_difference-unsettled.ensures ∙ e)))
