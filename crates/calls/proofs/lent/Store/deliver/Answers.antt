-- `calls::lent::Store::deliver` meets its contract: the cell is merged, the row joined, and the site counts one more. Assumes nothing.
use borrow.Author.Rules.{rules}
use mathlib.Core.Path.{◌≡◌, refl, ap, ◌∙◌}
use mathlib.Core.List.{List, []}
use Rattle.std.proofs.lemmas.List.{set-get_or}
use Prim.Native.Nat.{ℕ}
use Rattle.rows.specs.Row.{insert, or_row}
use Rattle.calls.specs.Lent.{row_in}
use Rattle.calls.proofs.CameLaws.{came}
use Rattle.calls.proofs.lent.Store.deliver.Goals as goal

pub returns-clause-came : goal.returns-clause-came
returns-clause-came c =
    let g = c.args in
    let z = g.self.now in
    let joined : c.set.new.row ≡ insert (or_row (row_in z.known g.s) (row_in z.sees g.w)) g.w = c.set.ensures ∙ ap (λ (r : List ℕ). insert r g.w) c.union.ensures in
    rw (set-get_or z.sees g.w [], joined, c.object-o.ensures, c.max-2.ensures, c.site_at-site.ensures, c.stamp.ensures)
    (came z g.s g.w c.requires c.max.result (rw c.object-o.ensures at c.max.ensures) c.with_held.result (rw (c.site_at-site.ensures, c.site.ensures) at c.with_held.ensures) (search (rules)))

-- What the event saw is lent, and not written.
pub returns-clause-same_events : goal.returns-clause-same_events
returns-clause-same_events c = (set-get_or c.args.self.now.sees c.args.w [], refl)
