-- `explain::telling::write_chain` meets its contract: the table that the visible sets joined has a shortest chain where so and vis have it. Assumes nothing.
use mathlib.Core.Path.{◌≡◌, sym, ap, ◌∙◌, subst}
use mathlib.Core.Bool.{true}
use mathlib.Core.List.{List, ◌++◌}
use Prim.Native.Nat.{ℕ, ◌*◌, ◌<◌}
use native.Mathlib.Omega.{arith}
use lib.ListN.{length, drop, length-take}
use Rattle.rows.specs.Relation.{related, reaches, Graph}
use Rattle.rows.specs.Shortest.{shortest_chain}
use Rattle.rows.proofs.SliceLaws.{slice_at, slice_row}
use Rattle.rows.proofs.ReachLaws.{reaches_same}
use Rattle.rows.proofs.ShortestLaws.{chain_same}
use Rattle.record.specs.Layout.{row_words}
use Rattle.tables.specs.Tables.{part}
use Rattle.explain.specs.Steps.{step_in}
use Rattle.explain.proofs.ToldLaws.{steps-related, steps_graph}
use Rattle.explain.proofs.telling.write_chain.Goals.{After-union_into}
use Rattle.explain.proofs.telling.write_chain.Goals as goal

-- the table, as it is lent
abbrev steps : After-union_into → List ℕ
steps c = slice_at c.union_into.new.rows (c.args.n * row_words) 1

lent : (c : After-union_into) → steps c ≡ part c.args.n row_words 1 c.union_into.new.rows
lent c = slice_row c.union_into.new.rows (c.args.n * row_words) 1

-- its steps are those that the tables have
same : (c : After-union_into) → let a = c.args in (x y : ℕ) → x < a.n → y < a.n → related (steps c) row_words x y ≡ step_in a.n a.t.now a.v.now x y
same c x y i j =
    let a = c.args in
    ap (λ (g : List ℕ). related g row_words x y) (lent c) ∙ steps-related a.n a.v.now a.t.now c.union_into.new.rows c.requires.graph.0 c.requires.graph.1 c.requires.graph.2 c.union_into.ensures x y j

reached : (c : After-union_into) → let a = c.args in reaches a.n (related (steps c) row_words) a.a a.b ≡ true
reached c =
    let a = c.args in
    reaches_same a.n (related (steps c) row_words) (step_in a.n a.t.now a.v.now) (same c) a.a a.b c.requires.a_lt_n.0 c.requires.a_lt_n.1 ∙ c.requires.b_value

told : (c : After-union_into) → let a = c.args in shortest_chain a.n (related (steps c) row_words) a.a a.b ≡ shortest_chain a.n (step_in a.n a.t.now a.v.now) a.a a.b
told c =
    let a = c.args in
    chain_same a.n (related (steps c) row_words) (step_in a.n a.t.now a.v.now) (same c) a.b c.requires.a_lt_n.1 a.a c.requires.a_lt_n.0 (reached c)

pub slice_bounds-union_into-end : goal.slice_bounds-union_into-end
slice_bounds-union_into-end c = omega (arith, c.requires.graph.0.size, length-take (c.args.n * row_words) c.args.v.now)

pub union_into-requires : goal.union_into-requires
union_into-requires c = omega (arith, c.requires.graph.2, length-take (c.args.n * row_words) c.args.v.now)

pub invariant_of-steps : goal.invariant_of-steps
invariant_of-steps c =
    let u = (goal.at.invariant_of-steps c).After-union_into in
    let a = c.args in
    record { graph = subst (λ (g : List ℕ). Graph g a.n row_words) (sym (lent u)) (steps_graph a.n a.v.now a.t.now c.union_into.new.rows c.requires.graph.0 c.requires.graph.1 c.requires.graph.2 c.union_into.ensures) }

pub shortest-requires : goal.shortest-requires
shortest-requires c =
    let u = (goal.at.shortest-requires c).After-union_into in
    let a = c.args in record {
      width = (omega arith, omega (arith, c.requires.graph.3));
      a_lt_n = c.requires.a_lt_n;
      b_value = reached u;
    }

pub returns : goal.returns
returns c =
    let t = told (goal.at.returns c).After-union_into in record {
      value = c.shortest.ensures.value ∙ ap length t;
      out_after = c.shortest.ensures.out_after ∙ ap (λ (l : List ℕ). l ++ drop c.shortest.result c.args.out.now) t;
      t_after = c.union_into.ensures;
    }
