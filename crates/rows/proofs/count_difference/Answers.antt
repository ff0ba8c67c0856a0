-- `rows::count_difference` meets its contract: the members are the ones of the words `a & !b`. Assumes nothing.
use mathlib.Core.Path.{◌∙◌}
use Prim.Native.Nat.{ℕ, ◌*◌, ◌^◌}
use native.Mathlib.Omega.{arith}
use borrow.Author.Rules.{rules}
use lib.Count.{ones}
use lib.ListN.{length}
use Rattle.std.specs.List.{zip}
use Rattle.std.proofs.lemmas.Iterator.{YieldsList-from_slice, YieldsList-from_zip, YieldsList-from_map}
use Rattle.std.proofs.lemmas.Iterator.Consumers.{YieldsList-at, sum_by_from_yields_List, fits_by_from_yields_list}
use Rattle.rows.specs.Row.{only_first}
use Rattle.rows.proofs.RowLaws.{and_not}
use Rattle.rows.proofs.CountLaws.{many_most, ones_counted}
use Rattle.rows.proofs.count_difference.Goals as goal

-- the words of a that b lacks, and their ones
abbrev ones_of : ℕ × ℕ → ℕ
ones_of p = ones (and_not p.0 p.1)

pub sum-requires-clause-fits : goal.sum-requires-clause-fits
sum-requires-clause-fits c =
    let a = c.args.a.now in
    let b = c.args.b.now in
    let total = ones_counted a b c.requires.a_in_bounds (λ i. (c.type_inv.a i).fits) (λ i. (c.type_inv.b i).fits) in
    fits_by_from_yields_list ones_of (zip a b) c.map.result (2 ^ 64)
    (YieldsList-from_map _ ones_of (YieldsList-at c.map.ensures.source (YieldsList-from_zip {s = c.zip.result} (YieldsList-from_slice a cc) (YieldsList-from_slice b cc))) c.map.ensures.closure (λ x r q k. search rules))
    (omega (arith, total, many_most (64 * length a) (only_first a b), c.requires.a_bound))

pub returns : goal.returns
returns c =
    let a = c.args.a.now in
    let b = c.args.b.now in
    sum_by_from_yields_List ones_of (zip a b) c.map.result c.sum.result c.sum.ensures.ran
    (YieldsList-from_map _ ones_of (YieldsList-at c.map.ensures.source (YieldsList-from_zip {s = c.zip.result} (YieldsList-from_slice a cc) (YieldsList-from_slice b cc))) c.map.ensures.closure (λ x r q k. search rules))
    ∙ ones_counted a b c.requires.a_in_bounds (λ i. (c.type_inv.a i).fits) (λ i. (c.type_inv.b i).fits)
