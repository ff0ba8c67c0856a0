-- The judge's six tables in their slice, as parts of it are lent and given back: swept, and then closed and filled with ar. Assumes nothing.
use mathlib.Core.Path.{◌≡◌, refl, sym, ap, ◌∙◌}
use mathlib.Core.List.{List, ◌++◌, append_assoc}
use Prim.Native.Nat.{ℕ, ◌+◌, ◌-◌, ◌*◌, ◌≤◌}
use native.Mathlib.Nat.{add-sub_cancel_left}
use native.Mathlib.Omega.{arith}
use lib.ListN.{length, take, drop, length-append, length-take, length-drop}
use lib.Seq.{length-take-le, drop_at, drop-drop}
use Rattle.rows.specs.Row.{row_at, RowPut}
use Rattle.rows.specs.Relation.{Graph, Filled, reaches, related}
use Rattle.rows.proofs.SliceLaws.{slice_at, slice_row, length_slice, give_back, given_back}
use Rattle.rows.proofs.ReachLaws.{table_graph, table-row}
use Rattle.record.specs.Layout.{row_words}
use Rattle.record.specs.Terms.{Terms}
use Rattle.record.specs.History.{History, under}
use Rattle.record.specs.Words.{history_from}
use Rattle.consistency.specs.Relations.{ar, step, hb}
use Rattle.events.specs.Given.{Given, fields_of}
use Rattle.tables.specs.Tables.{part, Prepared, Finished}
use Rattle.tables.specs.Sweep.{Sweeps}
use Rattle.judge.proofs.PreparedLaws.{fields_ars}

-- ---- a row of w words that is given back

module _ (w c : ℕ) (g m : List ℕ) (wide : length m ≡ w) (room : c * w + w ≤ length g) where
  pub row_back : RowPut w c m g (give_back g w c m)
  row_back = given_back w c g room refl wide

  -- what stands after it stays
  pub rest_back : (k : ℕ) → c * w + w ≤ k → drop k (give_back g w c m) ≡ drop k g
  rest_back k h =
      let a : ℕ = c * w in
      let front : List ℕ = take a g ++ m in
      let long : length front ≡ a + w = length-append (take a g) m ∙ omega (arith, length-take-le a g (omega arith)) in
      let left : give_back g w c m ≡ front ++ drop (a + w) g =
      rw add-sub_cancel_left (sym (append_assoc (take a g) m (drop w (drop a g))) ∙ ap (λ (r : List ℕ). front ++ r) (drop-drop w a g)) in
      let split : k ≡ a + w + (k - (a + w)) = omega arith in
      ap (drop k) left
      ∙ ap (λ (j : ℕ). drop j (front ++ drop (a + w) g)) split
      ∙ sym (drop-drop (k - (a + w)) (a + w) (front ++ drop (a + w) g))
      ∙ ap (drop (k - (a + w))) (drop_at front (drop (a + w) g) (a + w) long)
      ∙ drop-drop (k - (a + w)) (a + w) g
      ∙ ap (λ (j : ℕ). drop j g) (sym split)

-- ---- the tables, after the sweep

module _ (n : ℕ) (l t : List ℕ) (graph : Graph (part n row_words 4 t) n row_words) (size : 6 * (n * row_words) ≤ length t) where
  -- tables 4 and 5 as they are lent
  abbrev steps : List ℕ
  steps = slice_at t (n * row_words) 4

  steps-part : steps ≡ part n row_words 4 t
  steps-part = slice_row t (n * row_words) 4

  steps-long : length steps ≡ n * row_words
  steps-long = length_slice t (n * row_words) 4 (omega arith)

  pub steps_graph : Graph steps n row_words
  steps_graph = rw steps-part graph

  module _ (closed : List ℕ) (fill : Filled n row_words (reaches n (related steps row_words)) steps closed) where
    abbrev t₂ : List ℕ
    t₂ = give_back t (n * row_words) 4 closed

    closed-long : length closed ≡ n * row_words
    closed-long = fill.size ∙ steps-long

    second : RowPut (n * row_words) 4 closed t t₂
    second = row_back (n * row_words) 4 t closed closed-long (omega arith)

    abbrev positions : List ℕ
    positions = slice_at t₂ (n * row_words) 5

    pub positions-long : length positions ≡ n * row_words
    positions-long = length_slice t₂ (n * row_words) 5 (omega (arith, second.size))

    module _ (placed : List ℕ) (fill₅ : Filled n row_words (ar (fields_of l)) positions placed) where
      abbrev t₃ : List ℕ
      t₃ = give_back t₂ (n * row_words) 5 placed

      placed-long : length placed ≡ n * row_words
      placed-long = fill₅.size ∙ positions-long

      third : RowPut (n * row_words) 5 placed t₂ t₃
      third = row_back (n * row_words) 5 t₂ placed placed-long (omega (arith, second.size))

      pub tables_finished : Finished n row_words l t t₃
      tables_finished = record {
        size = third.size ∙ second.size;
        kept = λ k i. third.other k (λ e. omega arith) ∙ second.other k (λ e. omega arith);
        closed = rw (third.other 4 (λ e. omega arith), second.same, ← steps-part) fill.table;
        placed = rw third.same fill₅.table;
        rest = rest_back (n * row_words) 5 t₂ placed placed-long (omega (arith, second.size)) (6 * (n * row_words)) (omega arith)
            ∙ rest_back (n * row_words) 4 t closed closed-long (omega arith) (6 * (n * row_words)) (omega arith);
      }

-- ---- swept, and then finished

module _ (n : ℕ) (l v t : List ℕ) (g : Given n row_words l v) (q : Terms) (sw : Sweeps n row_words (under q (history_from n row_words l v)) t) (size : 6 * (n * row_words) ≤ length t) where
  abbrev h : History
  h = under q (history_from n row_words l v)

  pub swept_graph : Graph (part n row_words 4 t) n row_words
  swept_graph =
      table_graph n row_words (step h) (part n row_words 4 t) sw.steps (omega (arith, length-take (n * row_words) (drop (4 * (n * row_words)) t), length-drop (4 * (n * row_words)) t)) g.rows.wide (omega arith)

  pub tables-ready : {t' : List ℕ} → Finished n row_words l t t' → Prepared n row_words h t'
  unfolding hb history_from
  tables-ready {t'} f = record {
    size = omega (arith, f.size);
    timed = record {
      rbs = rw (f.kept 0 (omega arith)) sw.timed.rbs;
      sos = rw (f.kept 1 (omega arith)) sw.timed.sos;
      middles = rw (f.kept 2 (omega arith)) sw.timed.middles;
      objects = rw (f.kept 3 (omega arith)) sw.timed.objects;
    };
    hbs = λ b i. table-row n row_words (step h) (part n row_words 4 t) sw.steps b (row_at (part n row_words 4 t') row_words b) i (f.closed b i);
    ars = fields_ars n l v q (part n row_words 5 t') f.placed;
  }
