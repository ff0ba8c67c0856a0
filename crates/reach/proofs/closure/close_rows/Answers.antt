-- `reach::closure::close_rows` meets its contract: what `settle_all` leaves is between the table and its closure, so the rounds finish it. Assumes nothing.
use mathlib.Core.Path.{refl}
use native.Mathlib.Omega.{arith}
use borrow.Author.Rules.{rules}
use lib.ListN.{replicate}
use Rattle.reach.specs.Walks.{Settles}
use Rattle.reach.proofs.ClosedLaws.{closed_none, closed_between, closed_all, between_closure, closure_is, onward}
use Rattle.reach.proofs.closure.close_rows.Goals.{Start, After-settle_all}
use Rattle.reach.proofs.closure.close_rows.Goals as goal

-- none is settled
begun : (c : Start) → let a = c.args in Settles a.n a.w a.table.now (replicate 8 0) a.table.now (replicate 8 0)
begun c = let a = c.args in record { graph = c.requires.0; size = refl; closed = closed_none a.n a.w 8 a.table.now; more = λ x e. e }

settled : (c : After-settle_all) → let a = c.args in let t = c.settle_all.new.relation in Settles a.n a.w a.table.now (replicate 8 0) t.table.now t.settled
settled c = c.settle_all.ensures.comes.4.on c.args.table.now (replicate 8 0) (begun (goal.at.After-settle_all c).Start)

pub settle_all-requires : goal.settle_all-requires
settle_all-requires c =
    let g = c.requires.0 in
    ((refl, refl, c.requires.1, refl, onward (begun (goal.at.settle_all-requires c).Start)), omega (arith, g.wide, c.requires.1))

pub returns-then-not-settle_all : goal.returns-then-not-settle_all
returns-then-not-settle_all c =
    let t = settled (goal.at.returns-then-not-settle_all c).After-settle_all in
    let g = c.settle_all.new.relation.table.now in
    let p = c.close_by_rounds.ensures in record {
      closure = closure_is c.args.n c.args.w c.args.table.now c.close_by_rounds.new.table (search rules) (between_closure c.args.w c.args.table.now g c.close_by_rounds.new.table (closed_between t.closed) p.closure);
      table_len_unchanged = search rules;
    }

pub returns-else-not-settle_all : goal.returns-else-not-settle_all
returns-else-not-settle_all c =
    let t = settled (goal.at.returns-else-not-settle_all c).After-settle_all in record {
      closure = closure_is c.args.n c.args.w c.args.table.now c.settle_all.new.relation.table.now (search rules) (closed_all t.closed (c.settle_all.ensures.all_after c.if-not-settle_all.false));
      table_len_unchanged = search rules;
    }
