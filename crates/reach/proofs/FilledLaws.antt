-- Laws of a table whose n rows are lent, closed and given back: the words after them stay. Assumes nothing.
use mathlib.Core.Path.{◌≡◌, sym, ap, ◌∙◌}
use mathlib.Core.List.{List, ◌++◌}
use Prim.Native.Nat.{ℕ, ◌*◌, ◌<◌}
use native.Mathlib.Omega.{arith}
use lib.ListN.{length, take, drop, length-append, length-drop, take-append-drop}
use lib.Seq.{length-take-le, drop_at}
use Rattle.rows.specs.Row.{has, row_at}
use Rattle.rows.specs.Relation.{Rel, reaches, related, Table, Graph, Filled}
use Rattle.reach.specs.Walks.{Closure}
use Rattle.rows.proofs.RowLaws.{row_of}
use Rattle.rows.proofs.TableLaws.{row_room, row-front}
use Rattle.rows.proofs.ReachLaws.{reaches_step, between_reaches, table-row}
use Rattle.rows.proofs.ReachLaws as laws

-- what `close` ensures, of a relation that the caller knows by another name
pub table-closed : (n w : ℕ) (r : Rel) (g g' : List ℕ) → Table n w r g → Filled n w (reaches n (related g w)) g g' → Table n w (reaches n r) g'
table-closed n w r g g' t f b h = table-row n w r g t b (row_at g' w b) h (f.table b h)

module _ {g : List ℕ} {n w : ℕ} (m : Graph g n w) where
  pub part-long : length (take (n * w) g) ≡ n * w
  part-long = length-take-le (n * w) g m.size

  part-related : (a b : ℕ) → b < n → related (take (n * w) g) w a b ≡ related g w a b
  part-related a b h =
      ap (λ (t : List ℕ). has t a)
      (sym (row-front (take (n * w) g) (drop (n * w) g) w b (row_room n w b (length (take (n * w) g)) h (omega (arith, part-long))))
      ∙ ap (λ (t : List ℕ). row_at t w b) (take-append-drop (n * w) g))

  -- the part of the words that are rows
  pub part-graph : Graph (take (n * w) g) n w
  part-graph = record {
    size = omega (arith, part-long);
    wide = m.wide;
    fits = m.fits;
    inside = λ b x h e. m.inside b x h (sym (part-related x b h) ∙ e);
  }

  part-reaches : (a b : ℕ) → b < n → reaches n (related (take (n * w) g) w) a b ≡ reaches n (related g w) a b
  part-reaches = between_reaches (record {
    kept = λ a b h e. part-related a b h ∙ e;
    sound = λ a b h e. reaches_step n (related g w) a b (sym (part-related a b h) ∙ e);
  })

  graph_table : Table n w (related g w) g
  graph_table b h = row_of n (λ a. related g w a b) (row_at g w b) (λ x e. (m.inside b x h e, e)) (λ x k e. e)

  -- closed, and given back
  pub part_filled : (p : List ℕ) → length p ≡ length (take (n * w) g) → Closure n w (take (n * w) g) p → Filled n w (reaches n (related g w)) g (p ++ drop (n * w) g)
  part_filled p e closed =
      let long : length p ≡ n * w = e ∙ part-long in
      record {
        size = omega (arith, length-append p (drop (n * w) g), length-drop (n * w) g, long, m.size);
        table = laws.table-closed n w (related g w) g graph_table (p ++ drop (n * w) g) (λ b x h.
            ap (λ (t : List ℕ). has t x) (row-front p (drop (n * w) g) w b (row_room n w b (length p) h (omega arith)))
            ∙ closed b x h
            ∙ part-reaches x b h);
        rest = drop_at p (drop (n * w) g) (n * w) long;
      }
