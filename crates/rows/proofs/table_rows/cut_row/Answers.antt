-- `rows::table_rows::cut_row` meets its contract: a row is lent of each slice, and intersect changes it. Assumes nothing.
use Rattle.rows.specs.Row.{row_at, and_row}
use Rattle.rows.proofs.RowLaws.{length-and}
use Rattle.rows.proofs.SliceLaws.{row_changed}
use Rattle.rows.proofs.table_rows.cut_row.Goals as goal

pub returns : goal.returns
returns c =
    let a = c.args in
    row_changed and_row length-and a.w a.c a.to.now (row_at a.from.now a.w a.s) c.intersect.new.dst c.requires.0 (rw c.row.ensures at c.intersect.ensures)
