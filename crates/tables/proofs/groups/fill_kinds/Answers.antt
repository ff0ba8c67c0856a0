-- `tables::groups::fill_kinds` meets its contract. Assumes nothing.
use mathlib.Core.Path.{◌∙◌}
use Rattle.record.specs.Words.{is_write_in}
use Rattle.tables.proofs.GroupLaws.{reads_of, kinds_of}
use Rattle.tables.proofs.groups.fill_kinds.Goals as goal

pub returns : goal.returns
returns c =
    let writes = c.fill_writes in
    let every = c.fill_below in
    let reads = c.join_outside in
    let n = c.args.n in
    let f = is_write_in c.args.heads.now.words.now in
    let r = kinds_of n c.args.w f writes.new.row reads.new.dst every.new.row c.requires.n_in_bounds.1 writes.ensures.row
    (reads_of n 8 f writes.new.row every.new.row reads.new.dst writes.ensures.row every.ensures.row reads.ensures.by_index)
    every.ensures.row c.put_row.ensures c.put_row-2.ensures c.put_row-3.ensures in record {
      row = r.0;
      row_2 = r.1;
      row_3 = r.2;
      g_len_unchanged = c.put_row-3.ensures.size ∙ c.put_row-2.ensures.size ∙ c.put_row.ensures.size;
    }
