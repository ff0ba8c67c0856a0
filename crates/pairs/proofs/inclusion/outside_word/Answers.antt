use Rattle.std.proofs.Common.{arith}
use borrow.Author.Tests.{le-ltb}
use Rattle.rows.proofs.Digits.{bit_of-zero}
use Rattle.pairs.proofs.InclusionLaws.{word_more, word_cut}
use Rattle.pairs.proofs.inclusion.outside_word.Goals as goal

pub loop-j-init : goal.loop-j-init
loop-j-init g c = λ i. rw (bit_of-zero i, le-ltb i 0 (omega arith))

pub loop-j-preserved : goal.loop-j-preserved
loop-j-preserved g c =
    let s = c.args in
    let l = c.loop-j in
    word_more g.row.W s.q.now s.r.now s.a c.requires.2 s.k l.j l.x l.invariant (omega arith) (c.type_inv.r _).fits

pub returns : goal.returns
returns g c =
    let s = c.args in
    let l = c.loop-j in
    word_cut g.row.W s.q.now s.r.now s.a c.requires.2 s.k s.n l.j l.x l.invariant (omega arith)
