-- `tables::groups::fill` meets its contract. Assumes nothing.
use mathlib.Core.Path.{ap, ◌∙◌}
use Prim.Native.Nat.{◌*◌}
use native.Mathlib.Omega.{arith}
use lib.ListN.{length, length-replicate}
use Rattle.events.specs.Given.{group_rows}
use Rattle.tables.proofs.GroupLaws.{groups_of}
use Rattle.tables.proofs.groups.fill.Goals as goal

pub returns-clause-groups : goal.returns-clause-groups
returns-clause-groups c =
    let a = c.args in
    let full = ap length c.requires.g_value ∙ length-replicate (group_rows * a.w) 0 in
    let k = c.fill_kinds.ensures in
    groups_of a.n a.w a.heads.now.words.now a.g.now c.fill_objects.new.g c.fill_kinds.new.g (omega (arith, full)) c.fill_objects.ensures.g_len_unchanged k.g_len_unchanged
    c.fill_objects.ensures.by_index k.row k.row_2 k.row_3
