-- `lattice::table::Pairs::following` meets its contract: the table of the pairs, closed.
use native.Mathlib.Omega.{arith}
use Rattle.lattice.proofs.TableLaws.{closed-table}
use Rattle.lattice.proofs.table.Pairs.following.Goals as goal

pub returns : goal.returns
returns c =
    let g = c.given-pairs in
    closed-table g.result.rows (omega arith) g.ensures c.close.new.table c.close.ensures
