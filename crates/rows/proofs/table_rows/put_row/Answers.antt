-- `rows::table_rows::put_row` meets its contract: a row is lent of each slice, and copied. Assumes nothing.
use mathlib.Core.Path.{◌≡◌, sym, ◌∙◌}
use lib.ListN.{length}
use Rattle.rows.specs.Row.{row_at}
use Rattle.rows.proofs.TableLaws.{length-row}
use Rattle.rows.proofs.SliceLaws.{slice_at, length_slice, copy_over, given_back}
use Rattle.rows.proofs.table_rows.put_row.Goals as goal

pub returns : goal.returns
returns c =
    let a = c.args in
    let row = row_at a.from.now a.w a.s in
    let wide : length row ≡ a.w = length-row a.from.now a.w a.s c.requires.1 in
    given_back a.w a.c a.to.now c.requires.0 (rw c.row.ensures at c.copy.ensures ∙ copy_over row (slice_at a.to.now a.w a.c) (wide ∙ sym (length_slice a.to.now a.w a.c c.requires.0))) wide
