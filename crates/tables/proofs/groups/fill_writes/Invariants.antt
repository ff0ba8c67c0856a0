-- `tables::groups::fill_writes` meets its contract: the row has the writes passed. Assumes nothing.
use Rattle.rows.specs.Row.{Row}
use Rattle.record.specs.Words.{is_write_in}
use Rattle.tables.proofs.groups.fill_writes.Given as goal

abbrev pub invariant-loop-e : goal.invariant-loop-e
invariant-loop-e l = Row l.e (is_write_in l.heads.words.now) l.row
