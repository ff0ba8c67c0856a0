use Rattle.std.proofs.Common.{arith}
use Rattle.rows.specs.Relation.{related}
use Rattle.pairs.proofs.InclusionLaws.{end_none, end_found, end_past}
use Rattle.pairs.proofs.inclusion.lowest_end.Goals as goal

pub returns-then-x-ne0 : goal.returns-then-x-ne0
returns-then-x-ne0 g c =
    let s = c.args in
    let w = g.row.W in
    end_found s.n s.ends.now (related s.q.now w) (related s.r.now w) s.a c.loop-k.k c.outside_word.result c.outside_word.ensures c.loop-k.invariant w (omega arith) (omega arith) c.if-x-ne0.true

pub loop-k-preserved : goal.loop-k-preserved
loop-k-preserved g c =
    let s = c.args in
    let w = g.row.W in
    end_none s.n s.ends.now (related s.q.now w) (related s.r.now w) s.a c.loop-k.k c.outside_word.result c.outside_word.ensures c.loop-k.invariant c.if-x-ne0.false

pub returns : goal.returns
returns g c =
    let s = c.args in
    let w = g.row.W in
    end_past s.n s.ends.now (related s.q.now w) (related s.r.now w) s.a c.loop-k.k (omega arith) c.loop-k.invariant
