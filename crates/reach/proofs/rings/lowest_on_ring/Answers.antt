-- `reach::rings::lowest_on_ring` meets its contract. Assumes nothing.
use mathlib.Core.Path.{refl}
use native.Mathlib.Omega.{arith}
use Rattle.reach.proofs.FoundLaws.{found-nowhere}
use Rattle.reach.proofs.SettledLaws.{settled_none}
use Rattle.reach.proofs.rings.lowest_on_ring.Goals as goal

pub settle_all-requires : goal.settle_all-requires
settle_all-requires c =
    let a = c.args.relation.now in
    ((refl, c.requires, settled_none a.words.now a.count a.width 8, λ x e. e), omega (arith, a.graph.wide, c.requires))

pub returns-then-settle_all : goal.returns-then-settle_all
returns-then-settle_all c =
    let p = c.settle_all.ensures in
    found-nowhere _ _ (λ x h. rw p.comes.0 at (p.comes.2.ringless x (p.all_after c.if-settle_all.true x h)))
