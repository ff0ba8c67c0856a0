-- The visible sets that the judge's code is given are the table of vis. Assumes nothing.
use mathlib.Core.List.{List}
use Prim.Native.Nat.{ℕ}
use Rattle.rows.specs.Row.{has, row_at}
use Rattle.rows.specs.Relation.{Table}
use Rattle.rows.proofs.RowLaws.{row_of}
use Rattle.record.specs.History.{vis}
use Rattle.record.specs.Words.{history_from}
use Rattle.events.specs.Given.{Given}

-- their members are events
pub seen-table : (n w : ℕ) (l v : List ℕ) → Given n w l v → Table n w (vis (history_from n w l v)) v
unfolding vis history_from
seen-table n w l v g b h = row_of n (has (row_at v w b)) (row_at v w b) (λ x e. (g.rows.inside b x h e, e)) (λ x i e. e)
