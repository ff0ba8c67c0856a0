use mathlib.Core.Path.{sym, ◌∙◌}
use Rattle.rows.proofs.FreshLaws.{Fresh, fresh_falls}
use Rattle.chains.proofs.JoiningLaws.{fresh_found, joining_turn, joined_next, joined_done}
use Rattle.chains.proofs.join_rows.Goals.{In-Some}
use Rattle.chains.proofs.join_rows.Goals as goal

-- the event of this turn
turn : (c : In-Some) → Fresh c.args.relation.now.count c.args.near.now c.loop-m.done c.in-Some.m
turn c = fresh_found c.requires.by_index c.requires.lens.0 (sym c.lowest_difference.ensures ∙ c.in-Some.is)

pub row-requires : goal.row-requires
row-requires c = (turn (goal.at.row-requires c).In-Some).below

pub loop-m-smaller : goal.loop-m-smaller
loop-m-smaller c =
    fresh_falls (turn (goal.at.loop-m-smaller c).In-Some) c.requires.lens.0 c.loop-m.invariant.deep (λ k. (c.type_inv.done k).fits) c.set.ensures

pub loop-m-preserved : goal.loop-m-preserved
loop-m-preserved c =
    joining_turn c.loop-m.invariant c.requires.lens.0 (turn (goal.at.loop-m-preserved c).In-Some) c.row.ensures c.union.ensures c.set.ensures

pub returns : goal.returns
returns c =
    let none = sym c.lowest_difference.ensures ∙ c.in_default.is in record {
      by_index_2 = joined_next c.loop-m.invariant c.requires.lens.0 none;
      by_index_3 = joined_done c.loop-m.invariant c.requires.lens.0 none;
    }
