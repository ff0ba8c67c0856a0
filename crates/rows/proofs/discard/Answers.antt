use mathlib.Core.Path.{◌≡◌, sym, ◌∙◌}
use mathlib.Core.List.{List}
use Prim.Native.Nat.{ℕ}
use native.Mathlib.Omega.{arith}
use lib.ListN.{length}
use Rattle.rows.specs.Row.{insert}
use Rattle.rows.proofs.RowLaws.{length-insert, word_insert, and_not, merge_none, merge-more, merge_all, minus_merge}
use Rattle.rows.proofs.discard.Goals as goal

pub loop-i-init : goal.loop-i-init
loop-i-init c = merge_none and_not c.args.dst.now (insert c.args.src.now c.args.b)

pub loop-i-preserved : goal.loop-i-preserved
loop-i-preserved c =
    let l = c.loop-i in
    let m : List ℕ = insert c.args.src.now c.args.b in
    let wide : length m ≡ length c.args.src.now = length-insert c.args.src.now c.args.b in
    rw (← (word_insert c.args.src.now c.args.b l.i c.requires.1)) (merge-more and_not c.args.dst.now m l.i l.invariant (omega arith) (omega (arith, c.requires.0)))

pub returns : goal.returns
returns c =
    let l = c.loop-i in
    let a = c.args in
    let m : List ℕ = insert a.src.now a.b in
    merge_all and_not a.dst.now m l.i l.invariant (omega (arith, length-insert a.src.now a.b)) ∙ sym (minus_merge a.dst.now m)
