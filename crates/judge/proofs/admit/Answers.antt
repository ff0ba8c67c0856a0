-- `judge::admit` meets its contract, one question after the other. Assumes nothing.
use Rattle.judge.proofs.JudgmentLaws.{admit-short, admit_out, admit-both}
use Rattle.judge.proofs.admit.Goals as goal

pub returns-then-words-lt-WORK : goal.returns-then-words-lt-WORK
returns-then-words-lt-WORK c = admit-short c.args.words c.args.number c.if-words-lt-WORK.true

pub returns-then-number-lt1 : goal.returns-then-number-lt1
returns-then-number-lt1 c = admit_out c.args.words c.args.number c.if-words-lt-WORK.false c.then-number-lt1.either

pub returns : goal.returns
returns c = admit-both c.args.words c.args.number c.if-words-lt-WORK.false c.if-number-lt1.false c.if-number-gt13.false
