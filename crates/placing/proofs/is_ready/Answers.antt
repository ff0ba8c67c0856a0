-- `placing::is_ready` meets its contract: what is placed is not ready, and what is not is if its row is within what is placed. Assumes nothing.
use mathlib.Core.Bool.{not}
use mathlib.Core.Path.{sym, ap, ◌∙◌}
use Rattle.rows.specs.Row.{has}
use Rattle.rows.specs.Relation.{related}
use Rattle.rows.proofs.TableLaws.{length-row}
use Rattle.rows.proofs.ReachLaws.{graph_room}
use Rattle.rows.proofs.PlacingLaws.{ready-not}
use Rattle.rows.proofs.PlacingTurns.{ready-row}
use Rattle.placing.proofs.is_ready.Goals as goal

pub returns-then-not-test : goal.returns-then-not-test
returns-then-not-test c =
    let r = c.args.before.now in
    let placed = c.args.placed.now in
    let e = c.args.e in
    let whole = length-row r.words.now r.width e (graph_room e r.graph c.requires.1) in
    rw (c.row.ensures, whole) at c.is_subset.ensures ∙ rw (sym c.test.ensures ∙ c.if-not-test.true) at (ready-row r.graph placed e c.requires.1)

pub returns-else-not-test : goal.returns-else-not-test
returns-else-not-test c =
    let r = c.args.before.now in
    ap not c.if-not-test.false
    ∙ sym (ready-not r.count (related r.words.now r.width) (has c.args.placed.now) c.args.e (sym c.test.ensures ∙ c.if-not-test.false))
