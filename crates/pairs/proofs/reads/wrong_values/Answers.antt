use Rattle.std.proofs.Common.{sym, ap, ◌∙◌, true, false, not, arith}
use borrow.Author.Count.{below_more}
use Rattle.record.specs.History.{under}
use Rattle.record.specs.Words.{history_from, terms_from}
use Rattle.pairs.specs.Searches.{history_given}
use Rattle.pairs.proofs.EventLaws.{held_test, or_itself}
use Rattle.consistency.proofs.SameVerdict.{write_under}
use Rattle.consistency.proofs.ReadLaws.{right-write, right-pending, wrong-held, reads-right, read-wrong}
use Rattle.pairs.proofs.reads.wrong_values.Goals.{After-is_held, then-not-is_write+then-not-is_pending+else-not-is_held, else-not-is_write, else-not-is_write-via-then-not-is_write+else-not-is_pending, else-not-is_write-via-else-not-is_write}
use Rattle.pairs.proofs.reads.wrong_values.Goals as goal

pub returns-then-not-is_held : goal.returns-then-not-is_held
unfolding history_from
returns-then-not-is_held g c =
    let e = c.args.events.now in
    let t = terms_from c.args.terms.now.words.now in
    let h = under t (history_given g.row.W e) in
    let l = c.loop-e in
    let f = c.last_write-found in
    let d = c.is_held in
    let same = f.ensures.value ∙ sym (write_under t (history_given g.row.W e) l.e c.loop-e-test.true) in
    read-wrong h l.e c.unwrap_or.result f.result c.loop-e-test.true l.invariant
    (wrong-held h l.e c.is_write.result c.is_write.ensures c.is_pending.result c.is_pending.ensures (ap not c.if-not-is_write.true) f.result d.result true (ap not c.if-not-is_pending.true) same
    (held_test e.count g.row.W e.heads.words.now e.seen.now t l.e f.result d.result d.ensures) (ap not c.if-not-is_held.true))
    same (c.unwrap_or.ensures ∙ or_itself l.e f.result)

pub loop-e-preserved : goal.loop-e-preserved
unfolding history_from
loop-e-preserved g c =
    let e = c.args.events.now in
    let t = terms_from c.args.terms.now.words.now in
    let h = under t (history_given g.row.W e) in
    let l = c.loop-e in
    let i = c.is_write in
    below_more _ _ l.invariant (elim c.if-not-is_write.branch [
      | then-not-is_write+then-not-is_pending+else-not-is_held k ↦
          let p = k.is_pending in
          let f = k.last_write-found in
          let d = k.is_held in
          wrong-held h l.e i.result i.ensures p.result p.ensures (ap not k.if-not-is_write.true) f.result d.result false (ap not k.if-not-is_pending.true) (f.ensures.value ∙ sym (write_under t (history_given g.row.W e) l.e c.loop-e-test.true))
          (held_test e.count g.row.W e.heads.words.now e.seen.now t l.e f.result d.result d.ensures) (ap not k.if-not-is_held.false)
      | else-not-is_write k ↦ elim k.else-not-is_write.branch [
        | else-not-is_write-via-then-not-is_write+else-not-is_pending j ↦ right-pending h l.e i.result i.ensures j.is_pending.result j.is_pending.ensures (ap not j.if-not-is_write.true) (ap not j.if-not-is_pending.false)
        | else-not-is_write-via-else-not-is_write j ↦ right-write h l.e i.result i.ensures (ap not j.if-not-is_write.false)
      ]
    ])

pub returns : goal.returns
returns g c =
    let e = c.args.events.now in
    reads-right (under (terms_from c.args.terms.now.words.now) (history_given g.row.W e)) e.count (λ x i. c.loop-e.invariant x (omega arith))
