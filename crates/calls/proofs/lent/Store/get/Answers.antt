-- `calls::lent::Store::get` meets its contract: what the stores leave is what a get does. Assumes nothing.
use mathlib.Core.Path.{refl}
use Prim.Native.Nat.{ℕ}
use lib.ListN.{get_or}
use Rattle.record.specs.Encode.{little_bytes}
use Rattle.calls.specs.Lent.{row_in}
use Rattle.calls.proofs.WordLaws.{Finds, finds}
use Rattle.calls.proofs.MadeLaws.{got_made}
use Rattle.calls.proofs.lent.Store.get.Goals as goal

pub returns : goal.returns
returns c =
    let g = c.args in
    let e = c.enter-k.ensures in
    let there : ℕ = get_or (row_in g.self.now.cells g.site) g.object 0 in
    let f : Finds there c.then_some-found.result = rw (c.then_some-found.ensures, c.value.ensures) (finds there) in
    got_made g.self.now c.enter-k.new.self g.site g.object c.requires c.made-word.result.0 _ f.low c.made-word.ensures e.entered e.rest.0 e.rest.1 e.rest.2
    (little_bytes 8 c.answer.result) _ f refl (rw e.number at c.answer.ensures)
