-- `reach::closure::close_row` meets its contract: the rows of row b's members are gathered in a cleared row, which joins row b. Assumes nothing.
use mathlib.Core.Path.{◌≡◌, ap, ◌∙◌}
use Prim.Native.Nat.{ℕ}
use lib.ListN.{take, replicate}
use Rattle.std.proofs.lemmas.List.{take-replicate}
use Rattle.rows.specs.Row.{has}
use Rattle.rows.proofs.TableLaws.{length_cut}
use Rattle.rows.proofs.ReachLaws.{graph_room}
use Rattle.reach.proofs.FoundLaws.{lowest-picked, lowest-left, highest-picked, highest-left}
use Rattle.reach.proofs.GatherLaws.{row_joined}
use Rattle.reach.proofs.closure.close_row.Goals.{then-matches, else-matches}
use Rattle.reach.proofs.closure.close_row.Goals as goal

pub gather-requires-clause-picks : goal.gather-requires-clause-picks
gather-requires-clause-picks c l = lowest-picked l.now

pub gather-requires-clause-picks_none : goal.gather-requires-clause-picks_none
gather-requires-clause-picks_none c l = lowest-left l.now

pub gather-requires-else-matches-clause-picks : goal.gather-requires-else-matches-clause-picks
gather-requires-else-matches-clause-picks c l = highest-picked l.now

pub gather-requires-else-matches-clause-picks_none : goal.gather-requires-else-matches-clause-picks_none
gather-requires-else-matches-clause-picks_none c l = highest-left l.now

pub returns-clause-by_index : goal.returns-clause-by_index
returns-clause-by_index c =
    let a = c.args in
    let zero : take {A = ℕ} a.w (replicate 8 0) ≡ replicate a.w 0 = take-replicate a.w 8 0 c.requires.graph.1 in
    row_joined a.table.now a.n a.w a.b c.copy_from_slice.new.self (take {A = ℕ} a.w (replicate 8 0)) c.if-matches.row c.union_into.new.rows
    (c.if-matches.auto.row ∙ length_cut 8 a.w c.requires.graph.1) (graph_room a.b c.requires.graph.0 c.requires.b_lt_n)
    (c.copy_from_slice.ensures.after ∙ c.row.ensures) zero
    (λ x. elim c.if-matches.branch [ then-matches w ↦ ap (λ l. has l x) w.row-is ∙ w.gather.ensures x | else-matches w ↦ ap (λ l. has l x) w.row-is ∙ w.gather-else-matches.ensures x ])
    c.union_into.ensures
