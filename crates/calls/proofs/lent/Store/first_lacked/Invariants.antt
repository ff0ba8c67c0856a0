-- `calls::lent::Store::first_lacked` meets its contract: `all` has the puts that every site passed knows. Assumes nothing.
use Rattle.calls.proofs.LackedLaws.{KnownByAll}
use Rattle.calls.proofs.lent.Store.first_lacked.Given as goal

abbrev pub invariant-loop-known : goal.invariant-loop-known
invariant-loop-known l = KnownByAll l.fn.self.puts l.fn.self.known l.known-index l.all
