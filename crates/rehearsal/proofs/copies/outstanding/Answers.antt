use borrow.Author.Rules.{rules}
use mathlib.Core.Path.{◌≡◌, sym, ap, ◌∙◌}
use mathlib.Core.List.{[]}
use Prim.Native.Nat.{ℕ, ◌≤◌, ◌<◌}
use native.Mathlib.Numerals.{add-one}
use native.Mathlib.Omega.{arith}
use lib.ListN.{length, get_or, take, length-take}
use Rattle.std.proofs.lemmas.List.{get_or-take}
use Rattle.rows.specs.Count.{sum}
use Rattle.rows.specs.Row.{only_first}
use Rattle.rows.proofs.CountLaws.{sum-none, sum_more, many_most}
use Rattle.record.specs.Layout.{most_events}
use Rattle.calls.specs.Lent.{row_in}
use Rattle.rehearsal.proofs.copies.outstanding.Invariants.{lacked}
use Rattle.rehearsal.proofs.copies.outstanding.Goals.{After-count_difference-all}
use Rattle.rehearsal.proofs.copies.outstanding.Goals as goal

-- what one site more lacks
there : (c : After-count_difference-all) → c.count_difference-all.result ≡ lacked c.args.store.now c.loop-known.known-index
there c =
    let z = c.args.store.now in
    let i = c.loop-known.known-index in
    let within : i < c.args.n = omega (arith, c.loop-known-test.true, length-take c.args.n z.known) in
    let same : get_or (take c.args.n z.known) i [] ≡ row_in z.known i = get_or-take c.args.n z.known i [] within in
    let four : length z.puts ≡ 6 = search (rules) in
    rw (four, same) at c.count_difference-all.ensures

few : (c : After-count_difference-all) → c.count_difference-all.result ≤ most_events
few c =
    let z = c.args.store.now in
    omega (arith, there c, many_most most_events (only_first z.puts (row_in z.known c.loop-known.known-index)))

pub loop-known-init : goal.loop-known-init
loop-known-init c = (omega arith, sym (sum-none _))

pub overflow_add-all : goal.overflow_add-all
overflow_add-all c = omega (arith, few c)

pub loop-known-preserved : goal.loop-known-preserved
loop-known-preserved c =
    let z = c.args.store.now in
    let l = c.loop-known in
    (omega (arith, few c), rw add-one (omega (arith, sum_more l.known-index (lacked z), l.invariant.1, there c)))

pub returns : goal.returns
returns c =
    let g = c.args in
    let l = c.loop-known in
    let long : length g.store.now.known ≡ 8 = search (rules) in
    let all : l.known-index ≡ g.n = omega (arith, l.auto.known-index-end, c.loop-known-test.false, length-take g.n g.store.now.known, long) in
    l.invariant.1 ∙ ap (λ (k : ℕ). sum k (lacked g.store.now)) all
