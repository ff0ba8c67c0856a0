use mathlib.Core.Path.{◌≡◌, ap, ◌∙◌}
use mathlib.Core.Bool.{true, not, ◌&&◌}
use Prim.Native.Nat.{ℕ}
use native.Mathlib.Omega.{arith}
use borrow.Author.Rules.{rules}
use lib.Dec.{eqb}
use lib.ListN.{length}
use Rattle.rows.specs.Row.{has, row_at}
use Rattle.rows.specs.Relation.{related}
use Rattle.rows.proofs.TableLaws.{length-row}
use Rattle.rows.proofs.ReachLaws.{graph_room}
use Rattle.reach.proofs.GatherLaws.{row-taken, rest-taken, gather_turn, gather_less, gather_end}
use Rattle.reach.proofs.closure.gather.Goals.{After-discard}
use Rattle.reach.proofs.closure.gather.Goals as goal

-- this turn's event is a member
member : (g : _) (c : After-discard g) → has c.loop-a.rest c.in-Some.a ≡ true
member g c = c.requires.picks _ c.in-Some.a (rw c.in-Some.is at c.next.ensures)

-- and goes with those of its row
less : (g : _) (c : After-discard g) → let a = c.args.relation.now in (x : ℕ) → has c.discard.new.dst x ≡ (not (eqb c.in-Some.a x) && has c.loop-a.rest x) && not (related a.words.now a.width x c.in-Some.a)
less g c =
    let a = c.args.relation.now in
    let h = c.requires.nested.below c.in-Some.a (c.loop-a.invariant.inside c.in-Some.a (member g c)) in
    let long = ap length {y = row_at a.words.now a.width c.in-Some.a} c.row-members.ensures ∙ length-row a.words.now a.width c.in-Some.a (graph_room c.in-Some.a a.graph h) in
    rest-taken a.words.now a.width c.in-Some.a c.loop-a.rest c.row-members.ensures (λ k. search rules) (omega (arith, long, h, a.graph.wide)) c.discard.ensures

pub loop-a-smaller : goal.loop-a-smaller
loop-a-smaller g c =
    let d = (goal.at.loop-a-smaller g c).After-discard in
    gather_less c.loop-a.invariant c.in-Some.a (member g d) c.discard.new.dst (less g d)

pub loop-a-preserved : goal.loop-a-preserved
loop-a-preserved g c =
    let d = (goal.at.loop-a-preserved g c).After-discard in
    let a = c.args.relation.now in
    gather_turn c.loop-a.invariant c.in-Some.a (member g d) c.discard.new.dst (less g d) c.requires.nested c.union.new.dst
    (row-taken a.words.now a.width c.in-Some.a c.loop-a.row c.loop-a.invariant.wide c.row-members.ensures c.union.ensures) (search rules) (search rules)

pub returns : goal.returns
returns g c = gather_end c.loop-a.invariant (λ x. c.requires.picks_none _ x (rw c.in_default.is at c.next.ensures))
