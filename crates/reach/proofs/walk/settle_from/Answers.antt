use mathlib.Core.Path.{sym, ap, ◌∙◌}
use Prim.Native.Nat.{◌-◌}
use native.Mathlib.Omega.{arith}
use borrow.Author.Tests.{ltb-true}
use lib.Dec.{ltb}
use lib.ListN.{get_or}
use Rattle.std.proofs.lemmas.Option.{cond_some}
use Rattle.reach.proofs.WalkLaws.{walk_on, walk_back}
use Rattle.reach.proofs.walk.settle_from.Goals.{in-Some+else-not-push, in_default+in-Some-pop}
use Rattle.reach.proofs.walk.settle_from.Goals as goal

pub loop-preserved : goal.loop-preserved
loop-preserved g c =
    let l = c.loop in
    let on = g.met.S.Settling.joins c.args.relation.now l.relation c.settle.new.self l.invariant.2 c.settle.ensures.comes in
    elim c.match-settle.branch [
      | in-Some+else-not-push w ↦
          let p = w.push.ensures w.if-not-push.false in
          let h = rw (g.met.S.Settling.counts c.args.relation.now l.relation l.invariant.2) at (c.settle.ensures.waits w.in-Some.x w.in-Some.is) in
          (omega (arith, c.loop-test.true), rw w.e-is (walk_on l.invariant.1 w.in-Some.x h p.0 (ap (λ p. p.events) w.path-is ∙ p.1) (ap (λ p. p.depth) w.path-is ∙ p.2)), on)
      | in_default+in-Some-pop w ↦
          let p = w.pop.ensures in
          let q = cond_some (ltb 0 l.path.depth) (get_or l.path.events (l.path.depth - 1) 0) w.in-Some-pop.last (sym p.result_value ∙ w.in-Some-pop.is) in
          let h = ltb-true 0 l.path.depth q.0 in
          (omega (arith, c.loop-test.true), walk_back l.invariant.1 c.match-settle.e (λ z. omega arith) (ap (λ p. p.events) w.path-is ∙ p.events_unchanged) (w.e-is ∙ sym q.1) (ap (λ p. p.depth) w.path-is ∙ p.depth), on)
    ]
