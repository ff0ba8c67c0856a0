use Rattle.std.proofs.Common.{◌∙◌, arith, subst, ℕ}
use Rattle.record.specs.Words.{history_from}
use Rattle.record.specs.History.{vis}
use Rattle.consistency.specs.Relations.{ar}
use Rattle.pairs.specs.Searches.{history_given, cut_to, Compared}
use Rattle.events.proofs.GivenLaws.{seen-table}
use Rattle.pairs.proofs.DifferenceLaws.{compared_none, compared_more}
use Rattle.pairs.proofs.order.compare.Goals as goal

pub loop-b-init : goal.loop-b-init
loop-b-init g c =
    let h = history_given g.row.W c.args.order.now.events in
    (omega arith, omega arith, compared_none c.args.cut h (vis h) (ar h) _ _ c.clear.new.row c.clear-2.new.row c.clear.ensures c.clear-2.ensures)

pub loop-b-preserved : goal.loop-b-preserved
unfolding ar history_from
loop-b-preserved g c =
    let o = c.args.order.now in
    let e = o.events in
    let h = history_given g.row.W e in
    let k = c.loop-b in
    let j = c.join in (
      j.ensures.sizes.0 ∙ k.invariant.0,
      j.ensures.sizes.1 ∙ k.invariant.1,
      compared_more c.args.cut h (vis h) (ar h) k.b k.differing k.visible c.seen_by-seen.result.now c.before-in-loop-b.result.now c.mates.result.now j.new.differing j.new.visible k.invariant.2
          (rw c.seen_by-seen.ensures (seen-table e.count g.row.W e.heads.words.now e.seen.now e.given k.b c.loop-b-test.true)) (rw c.before-in-loop-b.ensures (o.table k.b c.loop-b-test.true)) c.mates.ensures.mates j.ensures.differs j.ensures.begins,
    )

pub returns-clause-parted : goal.returns-clause-parted
unfolding history_from
returns-clause-parted g c =
    let h = history_given g.row.W c.args.order.now.events in
    let k = c.loop-b in
    subst (λ (m : ℕ). Compared h.count m (cut_to c.args.cut h (vis h)) (cut_to c.args.cut h (ar h)) k.differing k.visible) (omega arith) k.invariant.2
