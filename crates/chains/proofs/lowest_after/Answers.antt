use mathlib.Core.Path.{◌≡◌, sym, ap, ◌∙◌}
use native.Mathlib.Omega.{arith}
use lib.ListN.{length}
use Rattle.rows.specs.Row.{row_at}
use Rattle.rows.specs.Relation.{related}
use Rattle.rows.proofs.TableLaws.{length-row}
use Rattle.rows.proofs.ReachLaws.{graph_room}
use Rattle.rows.proofs.FreshLaws.{Fresh, fresh_falls}
use Rattle.chains.proofs.JoiningLaws.{fresh_found}
use Rattle.chains.proofs.TryingLaws.{tried_all, tried_hit, trying_more}
use Rattle.chains.proofs.lowest_after.Goals.{In-Some, After-test}
use Rattle.chains.proofs.lowest_after.Goals as goal

-- the event of this turn
turn : (c : In-Some) → Fresh c.args.relation.now.count c.args.near.now c.loop-m.tried c.in-Some.m
turn c = fresh_found c.requires.by_index c.requires.lens.0 (sym c.lowest_difference.ensures ∙ c.in-Some.is)

-- whether a step leads to it
stepped : (c : After-test) → let a = c.args.relation.now in c.test.result ≡ related a.words.now a.width c.args.e c.in-Some.m
stepped c = rw c.row.ensures at c.test.ensures

pub row-requires : goal.row-requires
row-requires c = (turn (goal.at.row-requires c).In-Some).below

pub test-requires : goal.test-requires
test-requires c =
    let a = c.args.relation.now in
    let h = (turn (goal.at.test-requires c).In-Some).below in
    let long = ap length {y = row_at a.words.now a.width c.in-Some.m} c.row.ensures ∙ length-row a.words.now a.width c.in-Some.m (graph_room c.in-Some.m a.graph h) in
    omega (arith, long, a.graph.wide, c.requires.e_lt_n)

pub returns-then-test : goal.returns-then-test
returns-then-test c =
    tried_hit c.loop-m.invariant (turn (goal.at.returns-then-test c).In-Some) (sym c.lowest_difference.ensures ∙ c.in-Some.is)
    (sym (stepped (goal.at.returns-then-test c).After-test) ∙ c.if-test.true)

pub loop-m-smaller : goal.loop-m-smaller
loop-m-smaller c =
    fresh_falls (turn (goal.at.loop-m-smaller c).In-Some) c.requires.lens.0 c.loop-m.invariant.deep (λ k. (c.type_inv.tried k).fits) c.set.ensures

pub loop-m-preserved : goal.loop-m-preserved
loop-m-preserved c =
    trying_more c.loop-m.invariant (turn (goal.at.loop-m-preserved c).In-Some) (sym (stepped (goal.at.loop-m-preserved c).After-test) ∙ c.if-test.false) c.set.ensures

pub returns : goal.returns
returns c = tried_all c.loop-m.invariant _ (sym c.lowest_difference.ensures ∙ c.in_default.is)
