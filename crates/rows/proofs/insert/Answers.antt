use mathlib.Core.Path.{refl, sym}
use native.Mathlib.Omega.{arith}
use lib.ListN.{get_or}
use Rattle.rows.specs.Row.{insert}
use Rattle.rows.proofs.RowLaws.{length-insert, word_insert}
use Rattle.rows.proofs.StoredLaws.{stored_more, stored_all}
use Rattle.rows.proofs.insert.Goals as goal

pub loop-i-preserved : goal.loop-i-preserved
loop-i-preserved c =
    let l = c.loop-i in
    let row = c.args.row.now in
    stored_more (λ j. get_or (insert row c.args.b) j 0) row l.row l.i _ l.invariant (omega arith) (rw (l.invariant.above l.i (omega arith)) (sym (word_insert row c.args.b l.i c.requires)))

pub returns : goal.returns
returns c =
    let l = c.loop-i in
    let a = c.args in
    stored_all (λ j. get_or (insert a.row.now a.b) j 0) a.row.now l.row (insert a.row.now a.b) l.i l.invariant (omega arith) (length-insert a.row.now a.b) (λ j. refl)
