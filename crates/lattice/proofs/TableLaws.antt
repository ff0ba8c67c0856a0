-- The table of the eighteen pairs as bit rows, and its closure. Assumes nothing.
use mathlib.Core.Path.{◌≡◌, sym, ◌∙◌}
use mathlib.Core.Bool.{Bool, false, ◌&&◌}
use mathlib.Core.List.{List}
use Prim.Native.Nat.{ℕ, ◌<◌}
use native.Mathlib.Omega.{arith}
use borrow.Author.Tests.{ltb-true, lt-ltb}
use lib.Dec.{ltb}
use lib.ListN.{length}
use Rattle.rows.specs.Lowest.{some}
use Rattle.rows.specs.Row.{has, row_at}
use Rattle.rows.specs.Relation.{reaches, related, Table, Filled, Graph}
use Rattle.rows.proofs.LowestLaws.{some-none}
use Rattle.rows.proofs.Tests.{and_both, and_left, and_right}
use Rattle.rows.proofs.RowLaws.{row_of, row_has, row_in, row_same}
use Rattle.rows.proofs.TableLaws.{row_within}
use Rattle.rows.proofs.ReachLaws.{reaches_same}
use Rattle.consistency.specs.Predicates.{differ}
use Rattle.consistency.specs.Lattice.{implications, listed, follows}
use Rattle.consistency.proofs.BrokenIff.{differ_same}

-- a bit in which a table of words of 64 bits is wrong
abbrev pub wrong_bit : List ℕ → ℕ → Bool
wrong_bit g b = some 64 (λ x. differ (has (row_at g 1 b) x) (ltb x 14 && listed implications x b))

module _ (g : List ℕ) (right : some 14 (wrong_bit g) ≡ false) where
  bit-right : (b x : ℕ) → b < 14 → x < 64 → has (row_at g 1 b) x ≡ (ltb x 14 && listed implications x b)
  bit-right b x i j =
      differ_same (has (row_at g 1 b) x) (ltb x 14 && listed implications x b)
      (some-none 64 (λ x. differ (has (row_at g 1 b) x) (ltb x 14 && listed implications x b)) (some-none 14 (wrong_bit g) right b i) x j)

  pub given-table : Table 14 1 (listed implications) g
  given-table b i =
      row_of 14 (λ a. listed implications a b) (row_at g 1 b)
      (λ x e.
      let both = sym (bit-right b x i (row_within g 1 b x e)) ∙ e in
      (ltb-true x 14 (and_left (ltb x 14) (listed implications x b) both), and_right (ltb x 14) (listed implications x b) both))
      (λ x l e. bit-right b x i (omega arith) ∙ and_both (ltb x 14) (listed implications x b) (lt-ltb x 14 l) e)

module _ (g : List ℕ) (long : length g ≡ 14) (table : Table 14 1 (listed implications) g) where
  pub given_graph : Graph g 14 1
  given_graph = record {
    size = omega arith;
    wide = omega arith;
    fits = omega arith;
    inside = λ b x i e. (row_in 14 (λ a. listed implications a b) (row_at g 1 b) (table b i) x e).0;
  }

  pub closed-table : (g' : List ℕ) → Filled 14 1 (reaches 14 (related g 1)) g g' → Table 14 1 follows g'
  unfolding follows
  closed-table g' f b i =
      row_same 14 (λ a. reaches 14 (related g 1) a b) (row_at g' 1 b) (f.table b i) (λ a. reaches 14 (listed implications) a b)
      (λ a l. reaches_same 14 (related g 1) (listed implications)
      (λ x y m o. row_has 14 (λ a. listed implications a y) (row_at g 1 y) (table y o) x m) a b l i)
