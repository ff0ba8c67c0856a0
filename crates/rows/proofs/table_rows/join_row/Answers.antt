-- `rows::table_rows::join_row` meets its contract: a row is lent of each slice, and union changes it. Assumes nothing.
use Rattle.rows.specs.Row.{row_at, or_row}
use Rattle.rows.proofs.RowLaws.{length-or}
use Rattle.rows.proofs.SliceLaws.{row_changed}
use Rattle.rows.proofs.table_rows.join_row.Goals as goal

pub returns : goal.returns
returns c =
    let a = c.args in
    row_changed or_row length-or a.w a.c a.to.now (row_at a.from.now a.w a.s) c.union.new.dst c.requires.0 (rw c.row.ensures at c.union.ensures)
