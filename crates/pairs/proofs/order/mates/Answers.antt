-- `pairs::order::mates` meets its contract, by which group is taken. Assumes nothing.
use Rattle.std.proofs.Common.{◌∙◌}
use Rattle.pairs.proofs.DifferenceLaws.{mates_all, mates_cut}
use Rattle.pairs.proofs.order.mates.Goals.{then-cut, else-cut}
use Rattle.pairs.proofs.order.mates.Goals as goal

pub returns-clause-mates : goal.returns-clause-mates
returns-clause-mates g c =
    let e = c.args.events.now in
    elim c.if-cut.branch [
      | then-cut t ↦ mates_cut c.args.cut e.count g.row.W e.heads.words.now e.seen.now e.groups.now c.args.b c.if-cut.group c.group.result.now e.grouped c.group.ensures t.if-cut.true (t.group-is ∙ t.object.ensures)
      | else-cut t ↦ mates_all c.args.cut e.count g.row.W e.heads.words.now e.seen.now e.groups.now c.args.b c.if-cut.group c.group.result.now e.grouped c.group.ensures t.if-cut.false t.group-is
    ]
