use mathlib.Core.Path.{◌≡◌, ◌∙◌, ap₂}
use mathlib.Core.List.{◌++◌}
use native.Mathlib.Omega.{arith}
use lib.ListN.{length, drop, take, get_or}
use lib.Seq.{length-take-le, take_all}
use Rattle.rows.proofs.FrontLaws.{front-more, take_more}
use Rattle.rows.proofs.copy.Goals as goal

pub loop-i-preserved : goal.loop-i-preserved
loop-i-preserved c =
    let l = c.loop-i in
    let a = c.args in
    front-more (take l.i a.src.now) a.dst.now l.i (get_or a.src.now l.i 0) l.invariant
    (take_more a.src.now l.i (omega arith)) (length-take-le l.i a.src.now (omega arith)) (omega (arith, c.requires))

pub returns : goal.returns
returns c =
    let l = c.loop-i in
    let a = c.args in
    let end : l.i ≡ length a.src.now = omega arith in
    l.invariant ∙ ap₂ (λ p i. p ++ drop i a.dst.now) (take_all l.i a.src.now (omega arith)) end
