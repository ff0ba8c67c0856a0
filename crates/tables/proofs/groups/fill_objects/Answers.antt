use Prim.Native.Nat.{◌*◌}
use mathlib.Core.Path.{ap, ◌∙◌}
use native.Mathlib.Omega.{arith}
use lib.ListN.{length, length-replicate}
use Rattle.record.specs.Layout.{object_count}
use Rattle.record.specs.Words.{object_in}
use Rattle.tables.proofs.GroupLaws.{keys_none, keys_more}
use Rattle.tables.proofs.groups.fill_objects.Goals as goal

pub loop-e-init : goal.loop-e-init
loop-e-init c = keys_none c.args.w (object_in c.args.heads.now.words.now) (object_count * c.args.w) c.args.g.now c.requires.g_value

pub loop-e-preserved : goal.loop-e-preserved
loop-e-preserved c =
    let l = c.loop-e in
    let full = ap length c.requires.g_value ∙ length-replicate (object_count * c.args.w) 0 in
    keys_more c.args.w (object_in c.args.heads.now.words.now) l.e l.g c.object-o.result c.set.new.row l.invariant (omega (arith, c.requires.n_in_bounds.1)) (omega (arith, full)) c.object-o.ensures
    (omega (arith, c.object-o.ensures)) c.set.ensures
