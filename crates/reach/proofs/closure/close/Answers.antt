-- `reach::closure::close` meets its contract. Assumes nothing.
use Rattle.reach.proofs.FilledLaws.{part-graph, part_filled}
use Rattle.reach.proofs.closure.close.Goals as goal

pub close_rows-requires : goal.close_rows-requires
close_rows-requires c = (part-graph c.requires.0, c.requires.1)

pub returns : goal.returns
returns c = part_filled c.requires.0 c.close_rows.new.table c.close_rows.ensures.table_len_unchanged c.close_rows.ensures.closure
