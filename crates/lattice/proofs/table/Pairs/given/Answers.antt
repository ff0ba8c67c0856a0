-- `lattice::table::Pairs::given` meets its contract: a test of the whole table, which computes.
use mathlib.Core.Path.{refl}
use Rattle.rows.specs.Lowest.{search_from, lowest, some}
use Rattle.rows.specs.Row.{digit, bit_of, has}
use Rattle.consistency.specs.Lattice.{listed}
use Rattle.lattice.proofs.TableLaws.{given-table}
use Rattle.lattice.proofs.table.Pairs.given.Goals as goal

pub returns : goal.returns
unfolding search_from lowest some digit bit_of has listed
returns c = given-table _ refl
