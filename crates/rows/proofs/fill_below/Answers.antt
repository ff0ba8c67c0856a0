use native.Mathlib.Omega.{arith}
use Rattle.rows.proofs.RowLaws.{row_below}
use Rattle.rows.proofs.fill_below.Goals as goal

pub returns-clause-row : goal.returns-clause-row
returns-clause-row c =
    let l = c.loop-i in
    row_below c.args.n l.row (omega (arith, c.requires, l.invariant.long)) (λ i h. l.invariant.below i (omega (arith, l.invariant.long)))
