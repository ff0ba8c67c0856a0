use native.Mathlib.Omega.{arith}
use lib.ListN.{length}
use Rattle.rows.specs.Row.{only_first}
use Rattle.rows.proofs.RowLaws.{lacking, lacking_lt, only_word}
use Rattle.rows.proofs.WordLaws.{found-word, found-none}
use Rattle.rows.proofs.lowest_difference.Goals as goal

pub returns-then-lacking-ne0 : goal.returns-then-lacking-ne0
returns-then-lacking-ne0 c =
    let a = c.args.a.now in
    let b = c.args.b.now in
    let i = c.loop-i.i in
    found-word (only_first a b) (lacking a b) (λ i. only_word a b i (c.type_inv.b i).fits) (length a) i (omega arith) (lacking_lt a b i (c.type_inv.a i).fits) c.if-lacking-ne0.true c.loop-i.invariant

pub returns : goal.returns
returns c =
    let a = c.args.a.now in
    let b = c.args.b.now in
    found-none (only_first a b) (lacking a b) (λ i. only_word a b i (c.type_inv.b i).fits) (length a) (λ j l. c.loop-i.invariant j (omega arith))
