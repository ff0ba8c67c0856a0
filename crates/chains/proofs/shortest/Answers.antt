use mathlib.Core.Path.{◌≡◌, sym, ap, ◌∙◌}
use Prim.Native.Nat.{◌-◌, ◌<◌}
use native.Mathlib.Omega.{arith}
use lib.ListN.{length}
use Rattle.std.specs.Prelude.{Some}
use Rattle.std.specs.Option.{is_some}
use Rattle.std.proofs.lemmas.Option.{same_Some}
use Rattle.rows.specs.Relation.{related}
use Rattle.rows.specs.Shortest.{distance, next_of}
use Rattle.chains.proofs.WritingLaws.{writing_begin, next_below, next_far, writing_more, writing_end, next-found}
use Rattle.chains.proofs.shortest.Goals.{At-loop-i, After-lowest_after}
use Rattle.chains.proofs.shortest.Goals as goal

-- the number of steps before the last
steps : (c : At-loop-i) → let a = c.args.relation.now in c.fill_near-last.result ≡ distance a.count (related a.words.now a.width) c.args.a c.args.b
steps c = c.fill_near-last.ensures.value.0

-- there is room for every entry
room : (c : At-loop-i) → c.fill_near-last.result < length c.args.out.now
room c = omega (arith, c.fill_near-last.ensures.value.1, c.requires.a_lt_n.2)

-- the event of this turn is there
next : (c : After-lowest_after) → let a = c.args.relation.now in c.lowest_after.result ≡ Some (next_of a.count (related a.words.now a.width) c.args.b (c.fill_near-last.result - 1 - c.loop-i.i) c.loop-i.e)
next c =
    let l = (goal.at.After-lowest_after c).At-loop-i in
    let h = c.loop-i-test.true in
    rw (c.row-near_enough.ensures, c.row-nearer.ensures) at c.lowest_after.ensures
    ∙ next-found c.args.relation.now.graph c.requires.a_lt_n.1 c.fill_near-last.new.near c.fill_near-last.ensures.near (c.fill_near-last.result - 1 - c.loop-i.i) (omega (arith, h)) c.loop-i.e
    (next_far c.loop-i.invariant (steps l) (room l) h) (next_below c.loop-i.invariant (steps l) (room l) h)

pub loop-i-init : goal.loop-i-init
loop-i-init c = writing_begin c.fill_near-last.ensures.value.0 c.requires.a_lt_n.0 c.requires.a_lt_n.1 c.requires.b_value c.args.out.now

pub unwrap-e-requires : goal.unwrap-e-requires
unwrap-e-requires c = ap is_some (next c)

pub loop-i-preserved : goal.loop-i-preserved
loop-i-preserved c =
    let l = (goal.at.loop-i-preserved c).At-loop-i in
    writing_more c.loop-i.invariant (steps l) (room l) c.loop-i-test.true
    (same_Some _ _ (sym c.unwrap-e.ensures ∙ next (goal.at.loop-i-preserved c).After-lowest_after))

pub returns-clause-value : goal.returns-clause-value
returns-clause-value c =
    let l = (goal.at.returns-clause-value c).At-loop-i in
    (writing_end c.loop-i.invariant (steps l) (room l) c.loop-i-test.false).0

pub returns-clause-out_after : goal.returns-clause-out_after
returns-clause-out_after c =
    let l = (goal.at.returns-clause-out_after c).At-loop-i in
    (writing_end c.loop-i.invariant (steps l) (room l) c.loop-i-test.false).1
