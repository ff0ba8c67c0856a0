use borrow.Author.Rules.{rules}
use mathlib.Core.Path.{◌≡◌, sym, ap, ◌∙◌}
use mathlib.Core.List.{List, []}
use Prim.Native.Nat.{ℕ, ◌<◌}
use native.Mathlib.Omega.{arith}
use lib.ListN.{length, get_or, length-take}
use Rattle.std.proofs.lemmas.List.{get_or-take}
use Rattle.rows.specs.Row.{and_row}
use Rattle.record.specs.Layout.{row_words}
use Rattle.calls.specs.Lent.{row_in}
use Rattle.calls.proofs.LackedLaws.{all_none, all_more, all_lowest}
use Rattle.calls.proofs.lent.Store.first_lacked.Goals as goal

pub loop-known-init : goal.loop-known-init
loop-known-init c = all_none c.args.self.now.puts c.args.self.now.known (search (rules))

pub loop-known-preserved : goal.loop-known-preserved
loop-known-preserved c =
    let known = c.args.self.now.known in
    let l = c.loop-known in
    let taken = c.known_by-known-items.ensures in
    let rows = c.known_by-known-items.result.now in
    let within : l.known-index < c.args.n = omega (arith, c.loop-known-test.true, ap length taken, length-take c.args.n known) in
    let same : get_or rows l.known-index [] ≡ row_in known l.known-index = ap (λ (r : List (List ℕ)). get_or r l.known-index []) taken ∙ get_or-take c.args.n known l.known-index [] within in
    let wide : length (get_or rows l.known-index []) ≡ row_words = search (rules) in
    all_more c.args.self.now.puts known l.known-index l.all c.intersect.new.dst (ap length (sym same) ∙ wide) l.invariant (c.intersect.ensures ∙ ap (and_row l.all) same)

pub returns : goal.returns
returns c =
    let z = c.args.self.now in
    let l = c.loop-known in
    let long : length z.known ≡ 8 = search (rules) in
    let end : l.known-index ≡ c.args.n = omega (arith, l.auto.known-index-end, c.loop-known-test.false, ap length c.known_by-known-items.ensures, length-take c.args.n z.known, long) in
    all_lowest z.puts z.known c.args.n l.all c.lowest_difference.result (rw end at l.invariant) (search (rules)) c.lowest_difference.ensures
