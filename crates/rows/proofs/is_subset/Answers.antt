-- `rows::is_subset` meets its contract: no number is only in `a` where there is no lowest such. Assumes nothing.
use mathlib.Core.Path.{sym, ap, ◌∙◌}
use Prim.Native.Nat.{◌*◌}
use lib.ListN.{length}
use Rattle.std.specs.Option.{is_some}
use Rattle.rows.specs.Row.{only_first}
use Rattle.rows.proofs.FoundLaws.{is_none-found}
use Rattle.rows.proofs.is_subset.Goals as goal

pub returns : goal.returns
returns c =
    let a = c.args in
    is_none-found (64 * length a.a.now) (only_first a.a.now a.b.now) c.is_none.result (ap is_some (sym c.lowest_difference.ensures) ∙ c.is_none.ensures)
