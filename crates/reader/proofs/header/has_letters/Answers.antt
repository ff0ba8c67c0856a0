-- `reader::header::has_letters` meets its contract. Assumes nothing.
use mathlib.Core.Path.{sym, ◌∙◌}
use Rattle.std.proofs.Common.{rules, take}
use borrow.Author.Tests.{lt-leb}
use Rattle.record.proofs.LayoutLaws.{same_slices, short-letters}
use Rattle.reader.proofs.header.has_letters.Goals as goal

pub returns-then-s-ge4 : goal.returns-then-s-ge4
returns-then-s-ge4 c = c.eq.ensures ∙ same_slices (take 4 c.args.s.now) c.args.letters

pub returns-else-s-ge4 : goal.returns-else-s-ge4
returns-else-s-ge4 c = lt-leb 4 _ c.if-s-ge4.false ∙ sym (short-letters c.args.s.now c.args.letters c.if-s-ge4.false (search rules))
