-- `reader::read` meets its contract: question 1, and then the others. Assumes nothing.
use mathlib.Core.Path.{refl, sym, ◌∙◌}
use borrow.Author.Rules.{rules}
use lib.ListN.{length}
use Rattle.record.specs.Layout.{edition_of}
use Rattle.record.specs.Words.{work_after}
use Rattle.record.proofs.QuestionLaws.{reading-short, reading-long}
use Rattle.record.proofs.BeforeHarvest.{reading-kept}
use Rattle.reader.proofs.read.Goals as goal

pub returns-then-work-lt-WORK : goal.returns-then-work-lt-WORK
unfolding work_after
returns-then-work-lt-WORK c =
    let a = c.args in
    let q = sym (reading-short (edition_of a.s.now) (length a.work.now) a.s.now c.if-work-lt-WORK.true) in record {
      value = q;
      work_after = refl;
      keeps_reading = reading-kept (length a.work.now) a.s.now q;
    }

pub returns : goal.returns
returns c =
    let a = c.args in
    let q = c.ask.ensures.value ∙ sym (reading-long (edition_of a.s.now) (length a.work.now) a.s.now (search rules)) in record {
      value = q;
      work_after = c.ask.ensures.work_after;
      keeps_reading = reading-kept (length a.work.now) a.s.now q;
    }
