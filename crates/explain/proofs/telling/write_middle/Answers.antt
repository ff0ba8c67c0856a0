-- `explain::telling::write_middle` meets its contract: the rows that are lent are b's of so's table and the writes. Assumes nothing.
use mathlib.Core.Path.{◌≡◌, refl, sym, ap, ap₂, ◌∙◌, subst}
use mathlib.Core.Bool.{Bool, ◌&&◌}
use mathlib.Core.List.{List, ◌∷◌}
use Prim.Native.Nat.{ℕ}
use native.Mathlib.Omega.{arith}
use lib.ListN.{length, drop}
use Rattle.std.specs.Prelude.{Option, Some, IsSome}
use Rattle.std.proofs.lemmas.Option.{same_Some}
use Rattle.rows.specs.Lowest.{lowest, found}
use Rattle.rows.specs.Row.{has, only_first, row_at}
use Rattle.rows.specs.Relation.{related, Graph}
use Rattle.rows.proofs.TableLaws.{row_room, length-row}
use Rattle.record.specs.Layout.{row_words}
use Rattle.record.specs.Words.{terms_from}
use Rattle.events.specs.Given.{Given, writes_row}
use Rattle.explain.specs.Steps.{between}
use Rattle.explain.proofs.ToldLaws.{set_two, found-there, so_graph}
use Rattle.explain.proofs.telling.write_middle.Goals.{After-lowest_after, After-table, Start}
use Rattle.explain.proofs.telling.write_middle.Goals as goal

given : (c : Start) → let e = c.args.evidence.now.events in Given e.count row_words e.heads.words.now e.seen.now
given c = c.args.evidence.now.events.given

-- so's table, as it is lent
graph : (c : After-table) → Graph c.table.result.now c.args.evidence.now.events.count row_words
graph c =
    let s = (goal.at.After-table c).Start in
    let x = c.args.evidence.now in
    subst (λ (g : List ℕ). Graph g x.events.count row_words) (sym c.table.ensures)
    (so_graph x.events.count x.events.heads.words.now x.events.seen.now x.events.groups.now x.tables.now (terms_from x.terms.words.now) (given s) x.filled)

abbrev middles : After-lowest_after → ℕ → Bool
middles c =
    let x = c.args.evidence.now in
    between x.events.count x.events.seen.now x.events.groups.now x.tables.now c.args.a c.args.b

told : (c : After-lowest_after) → c.lowest_after.result ≡ Some (lowest c.args.evidence.now.events.count (middles c))
told c =
    let x = c.args.evidence.now in
    c.lowest_after.ensures
    ∙ ap₂ (λ (r w : List ℕ). found x.events.count (λ m. only_first r w m && related x.events.seen.now row_words c.args.a m))
    (c.row.ensures ∙ ap (λ (g : List ℕ). row_at g row_words c.args.b) c.table.ensures)
    c.group-writes.ensures
    ∙ found-there x.events.count (middles c) c.requires.there

pub invariant_of-so : goal.invariant_of-so
invariant_of-so c = record { graph = graph (goal.at.invariant_of-so c).After-table }

pub lowest_after-requires-clause-lens : goal.lowest_after-requires-clause-lens
lowest_after-requires-clause-lens c =
    let x = c.args.evidence.now in
    let g = graph (goal.at.lowest_after-requires-clause-lens c).After-table in (
      ap length c.row.ensures ∙ length-row c.table.result.now row_words c.args.b (row_room x.events.count row_words c.args.b (length c.table.result.now) c.requires.in_bounds.1 g.size),
      ap length c.group-writes.ensures ∙ length-row x.events.groups.now row_words writes_row (omega (arith, x.events.grouped.size)),
      omega arith,
    )

pub lowest_after-requires-clause-by_index : goal.lowest_after-requires-clause-by_index
lowest_after-requires-clause-by_index c x e =
    (graph (goal.at.lowest_after-requires-clause-by_index c).After-table).inside c.args.b x c.requires.in_bounds.1 (sym (ap (λ (r : List ℕ). has r x) c.row.ensures) ∙ e)

pub unwrap-middle-requires : goal.unwrap-middle-requires
unwrap-middle-requires c = let s = (goal.at.unwrap-middle-requires c).After-lowest_after in subst (λ (o : Option ℕ). IsSome o) (sym (told s)) refl

pub returns : goal.returns
returns c =
    let s = (goal.at.returns c).After-lowest_after in
    let a = c.args in
    set_two a.out.now c.unwrap-middle.result a.b c.requires.in_bounds.2 ∙ ap (λ (m : ℕ). m ∷ a.b ∷ drop 2 a.out.now) (same_Some _ _ (sym c.unwrap-middle.ensures ∙ told s))
