use mathlib.Core.Path.{◌≡◌, refl, sym, ap, ◌∙◌}
use mathlib.Core.List.{List}
use Prim.Native.Nat.{ℕ}
use native.Mathlib.Omega.{arith}
use lib.Bits.{bit_and}
use lib.ListN.{get_or}
use Rattle.rows.specs.Row.{and_row}
use Rattle.rows.proofs.RowLaws.{length-and, get_d_and}
use Rattle.rows.proofs.StoredLaws.{stored_more, stored_all}
use Rattle.rows.proofs.meet.Invariants.{met}
use Rattle.rows.proofs.meet.Goals as goal

pub loop-i-preserved : goal.loop-i-preserved
loop-i-preserved c =
    let k = c.loop-i in
    let g = c.args in
    let word : get_or (met g.a.now g.b.now g.c.now) k.i 0 ≡ bit_and (bit_and (get_or g.a.now k.i 0) (get_or g.b.now k.i 0)) (get_or g.c.now k.i 0) =
    get_d_and (and_row g.a.now g.b.now) g.c.now k.i (omega (arith, c.requires.2))
    ∙ ap (λ (y : ℕ). bit_and y (get_or g.c.now k.i 0)) (get_d_and g.a.now g.b.now k.i (omega (arith, c.requires.1))) in
    stored_more (λ j. get_or (met g.a.now g.b.now g.c.now) j 0) g.dst.now k.dst k.i _ k.invariant (omega (arith, c.requires.0)) (sym word)

pub returns : goal.returns
returns c =
    let k = c.loop-i in
    let g = c.args in
    let all : List ℕ = met g.a.now g.b.now g.c.now in
    stored_all (λ j. get_or all j 0) g.dst.now k.dst all k.i k.invariant (omega (arith, c.requires.0))
    (length-and (and_row g.a.now g.b.now) g.c.now ∙ length-and g.a.now g.b.now ∙ c.requires.0) (λ j. refl)
