-- `calls::lent::Store::call` meets its contract: the bytes of the number. Assumes nothing.
use Rattle.calls.proofs.CalledLaws.{eight_bytes}
use Rattle.calls.proofs.lent.Store.call.Goals as goal

pub returns : goal.returns
returns c = rw (c.to_le_bytes.ensures, ← (eight_bytes c.answered.result)) c.answered.ensures
