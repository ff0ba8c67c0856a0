-- `calls::lent::Store::put` meets its contract: what the stores leave is what a put does. Assumes nothing.
use borrow.Author.Rules.{rules}
use mathlib.Core.Path.{refl, ap, ap₂, ◌∙◌}
use mathlib.Core.List.{List}
use Prim.Native.Nat.{ℕ, ◌^◌, ◌<◌}
use native.Mathlib.Omega.{arith}
use lib.ListN.{set}
use Rattle.rows.specs.Row.{insert}
use Rattle.record.specs.Encode.{little_bytes}
use Rattle.calls.specs.Lent.{row_in}
use Rattle.calls.proofs.MadeLaws.{put_made}
use Rattle.calls.proofs.lent.Store.put.Goals as goal

pub returns : goal.returns
returns c =
    let g = c.args in
    let e = c.enter-k.ensures in
    let entered = e.entered in
    let small : g.value < 2 ^ 32 = omega arith in
    put_made g.self.now _ g.site g.object c.requires c.made-word.result.0 _ (omega arith) c.made-word.ensures
    (record { knows = entered.knows; saw = entered.saw; written = entered.written; needs = entered.needs; clock = entered.clock; count = entered.count })
    g.value refl small c.with_held.result (c.set.ensures ∙ ap₂ insert e.rest.0 e.number)
    (ap (λ (l : List (List ℕ)). set l g.site (set (row_in l g.site) g.object c.made-word.result.0)) e.rest.1)
    (ap (λ (l : List (List ℕ)). set l g.site c.with_held.result) e.rest.2)
    (rw e.rest.2 at c.with_held.ensures) (search (rules)) (little_bytes 8 c.answer.result) (rw e.number at c.answer.ensures)
