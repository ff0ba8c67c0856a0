-- `judge::thirteen::verdicts` meets its contract. The invariant: the answers up to k are the numbers of the first k verdicts. Assumes nothing.
use mathlib.Core.Path.{◌≡◌}
use lib.ListN.{length, take}
use Rattle.judge.specs.Judgments.{said_by}
use Rattle.judge.specs.Lists.{packed_verdicts}
use Rattle.judge.proofs.thirteen.verdicts.Given as goal

abbrev pub invariant-loop-k : goal.invariant-loop-k
invariant-loop-k l = (length l.answers ≡ 13) × (take l.k l.answers ≡ packed_verdicts l.k (said_by l.passed.record.now))
