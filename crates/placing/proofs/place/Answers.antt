use mathlib.Core.Path.{sym, ◌∙◌}
use native.Mathlib.Omega.{arith}
use lib.ListN.{length}
use Rattle.rows.specs.Relation.{related}
use Rattle.placing.proofs.ReadyLaws.{going_start, going_stuck, going_end, going_more}
use Rattle.placing.proofs.place.Goals as goal

pub loop-i-init : goal.loop-i-init
loop-i-init c = rw c.clear.ensures (going_start c.args.n (related c.args.table.now (length c.args.placed.now)) (length c.args.placed.now) c.args.order.now)

pub returns-in_default-clause-value : goal.returns-in_default-clause-value
returns-in_default-clause-value c = going_stuck c.loop-i.invariant (omega arith) (sym c.in_default.is ∙ c.next_ready.ensures)

pub loop-i-preserved : goal.loop-i-preserved
loop-i-preserved c =
    rw c.set.ensures (going_more c.loop-i.invariant (omega arith) (omega (arith, c.requires.0.wide)) (omega (arith, c.requires.1)) c.in-Some.e (sym c.in-Some.is ∙ c.next_ready.ensures))

pub returns-clause-value : goal.returns-clause-value
returns-clause-value c = sym (going_end c.loop-i.invariant (omega arith)).0

pub returns-clause-e_after : goal.returns-clause-e_after
returns-clause-e_after c = λ t. (going_end c.loop-i.invariant (omega arith)).1
