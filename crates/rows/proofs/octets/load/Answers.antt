use mathlib.Core.Path.{refl, sym, ◌∙◌, ap}
use mathlib.Core.List.{◌∷◌, [], ◌++◌}
use native.Mathlib.Omega.{arith}
use Rattle.rows.specs.Octets.{words}
use Rattle.rows.proofs.FrontLaws.{front-more}
use Rattle.rows.proofs.ByteLaws.{words_more, length-words}
use Rattle.rows.proofs.octets.load.Goals as goal

pub loop-i-init : goal.loop-i-init
unfolding words
loop-i-init c = refl

pub loop-i-preserved : goal.loop-i-preserved
loop-i-preserved c =
    let l = c.loop-i in
    let a = c.args in
    let done = words l.i a.s.now a.at in
    front-more done a.row.now l.i c.u64_at.result l.invariant
    (words_more l.i a.s.now a.at ∙ ap (λ x. done ++ (x ∷ [])) (sym c.u64_at.ensures)) (length-words l.i a.s.now a.at) (omega arith)
