-- `judge::prepared::finish` meets its contract: the closing of table 4, and ar in table 5. Assumes nothing.
use native.Mathlib.Omega.{arith}
use Rattle.judge.proofs.TablesGiven.{steps_graph, tables_finished}
use Rattle.judge.proofs.prepared.finish.Goals as goal

pub close-requires : goal.close-requires
close-requires c =
    (steps_graph c.args.n c.args.heads.now.words.now c.args.t.now c.requires.3 c.requires.2, omega arith)

pub returns : goal.returns
returns c =
    tables_finished c.args.n c.args.heads.now.words.now c.args.t.now c.requires.3 c.requires.2 c.close.new.table c.close.ensures c.fill.new.g c.fill.ensures
