-- `calls::make::closed` meets its contract: no event, and a value that is present. Assumes nothing.
use Rattle.record.specs.Encode.{little_bytes}
use Rattle.calls.proofs.make.closed.Goals as goal

pub returns : goal.returns
unfolding little_bytes
returns c = c.answer.ensures
