-- `pairs::reads::wrong_values` meets its contract. The invariant: no event passed is a wrong read. Assumes nothing.
use Rattle.std.proofs.Common.{◌≡◌, false, ℕ, ◌<◌}
use Rattle.record.specs.History.{under}
use Rattle.record.specs.Words.{history_from, terms_from}
use Rattle.consistency.specs.Reads.{wrong_read}
use Rattle.pairs.proofs.reads.wrong_values.Given as goal

abbrev pub invariant-loop-e : goal.invariant-loop-e
invariant-loop-e g l = (x : ℕ) → x < l.e → wrong_read (under (terms_from l.terms.words.now) (history_from l.events.count g.row.W l.events.heads.words.now l.events.seen.now)) x ≡ false
