use mathlib.Core.Path.{◌≡◌, refl, sym, ◌∙◌}
use Prim.Native.Nat.{◌<◌}
use native.Mathlib.Omega.{arith}
use borrow.Author.Rules.{rules}
use Rattle.std.proofs.lemmas.List.{take-replicate}
use Rattle.rows.proofs.RowLaws.{row_in}
use Rattle.chains.proofs.RoomLaws.{near_room, row-alone}
use Rattle.chains.proofs.FillingLaws.{filling_begin, filling_turn, filling_found, filling_below}
use Rattle.chains.proofs.fill_near.Goals.{At-loop-done, After-row-in-loop-done}
use Rattle.chains.proofs.fill_near.Goals as goal

-- fewer steps were tried than there are events
below : (c : At-loop-done) → c.loop-done.k < c.args.relation.now.count
below c = filling_below c.args.relation.now.graph c.requires.ends.1 c.loop-done.invariant c.requires.ends.0 c.requires.b_value

-- the row of a turn, as it is read back
turn-row : (c : After-row-in-loop-done) → c.row-in-loop-done.result.now ≡ c.loop-done.next
turn-row c =
    c.row-in-loop-done.ensures ∙ c.put_row-in-loop-done.ensures.same ∙ row-alone c.loop-done.next c.args.relation.now.width c.loop-done.invariant.wide

pub loop-done-init : goal.loop-done-init
loop-done-init c =
    let zero = take-replicate c.args.relation.now.width 8 0 c.requires.ends.2 in
    filling_begin c.args.relation.now.graph c.requires.ends.1 zero zero c.put_row.ensures c.row.ensures c.union.ensures

pub overflow_add-k : goal.overflow_add-k
overflow_add-k c = let g = c.args.relation.now.graph in omega (arith, below (goal.at.overflow_add-k c).At-loop-done, g.wide, g.fits)

pub put_row-requires-in-loop-done : goal.put_row-requires-in-loop-done
put_row-requires-in-loop-done c =
    let a = c.args.relation.now in
    let i = c.loop-done.invariant in
    (near_room a.count a.width c.loop-done.k _ (below (goal.at.put_row-requires-in-loop-done c).At-loop-done) (omega (arith, i.long, c.put_row.ensures.size, c.requires.room)), omega (arith, i.wide))

pub join_rows-requires-clause-by_index : goal.join_rows-requires-clause-by_index
join_rows-requires-clause-by_index c x m =
    (row_in c.args.relation.now.count _ c.loop-done.next c.loop-done.invariant.nexts x (rw (turn-row (goal.at.join_rows-requires-clause-by_index c).After-row-in-loop-done) at m)).0

pub loop-done-smaller : goal.loop-done-smaller
loop-done-smaller c = omega (arith, below (goal.at.loop-done-smaller c).At-loop-done)

pub loop-done-preserved : goal.loop-done-preserved
loop-done-preserved c =
    let p = (goal.at.loop-done-preserved c).After-row-in-loop-done in
    filling_turn c.args.relation.now.graph c.requires.ends.1 c.loop-done.invariant c.requires.ends.0 (sym c.test.ensures ∙ c.loop-done-test.true) c.put_row-in-loop-done.ensures
    (search rules) (search rules) (turn-row p) refl c.join_rows.ensures.by_index_2 c.join_rows.ensures.by_index_3

pub returns-clause-value : goal.returns-clause-value
returns-clause-value c =
    let h = below (goal.at.returns-clause-value c).At-loop-done in
    (filling_found c.args.relation.now.graph c.requires.ends.1 c.loop-done.invariant c.requires.ends.0 (sym c.test.ensures ∙ c.loop-done-test.false) h, h)
