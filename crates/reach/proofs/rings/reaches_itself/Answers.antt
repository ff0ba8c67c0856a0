use mathlib.Core.Path.{sym, ◌∙◌}
use Rattle.std.proofs.lemmas.List.{take-replicate}
use Rattle.rows.specs.Relation.{reaches, related}
use Rattle.rows.proofs.RowLaws.{row_has}
use Rattle.rows.proofs.FreshLaws.{Fresh}
use Rattle.reach.proofs.ClosingLaws.{closing_begin, closing-next, closing_turn, closing_end, closing_falls}
use Rattle.reach.proofs.rings.reaches_itself.Goals.{In-Some}
use Rattle.reach.proofs.rings.reaches_itself.Goals as goal

-- the event of this turn
next : (c : In-Some) → Fresh c.args.relation.now.count c.loop-a.found c.loop-a.done c.in-Some.a
next c = closing-next c.loop-a.invariant (sym c.lowest_difference.ensures ∙ c.in-Some.is)

pub loop-a-init : goal.loop-a-init
loop-a-init c =
    let w = c.args.relation.now.width in
    let zero = take-replicate w 8 0 c.requires.width in
    closing_begin c.args.relation.now.graph c.requires.b_lt_n zero c.row.ensures c.union.ensures zero

pub row-requires-in-Some : goal.row-requires-in-Some
row-requires-in-Some c = (next (goal.at.row-requires-in-Some c).In-Some).below

pub loop-a-smaller : goal.loop-a-smaller
loop-a-smaller c =
    closing_falls c.loop-a.invariant (next (goal.at.loop-a-smaller c).In-Some) (λ k. (c.type_inv.done k).fits) c.set.ensures

pub loop-a-preserved : goal.loop-a-preserved
loop-a-preserved c =
    closing_turn c.loop-a.invariant c.args.relation.now.graph (next (goal.at.loop-a-preserved c).In-Some) c.row-in-Some.ensures c.union-in-Some.ensures c.set.ensures

pub returns : goal.returns
returns c =
    let a = c.args.relation.now in
    c.test.ensures
    ∙ row_has a.count (λ x. reaches a.count (related a.words.now a.width) x c.args.b) c.loop-a.found
    (closing_end c.loop-a.invariant (sym c.lowest_difference.ensures ∙ c.in_default.is)) c.args.b c.requires.b_lt_n
