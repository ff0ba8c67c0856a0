-- Laws of rows of events by object and by kind. Assumes nothing.
use mathlib.Core.Path.{◌≡◌, refl, sym, ap, ◌∙◌}
use mathlib.Core.Bool.{Bool, true, false, not, ◌&&◌, ◌||◌}
use mathlib.Core.List.{List, ◌++◌, append_assoc}
use Prim.Native.Nat.{ℕ, ◌+◌, ◌-◌, ◌*◌, ◌≤◌, ◌<◌}
use native.Mathlib.Omega.{arith}
use native.Mathlib.Decide.{ℕ_discrete}
use borrow.Author.Tests.{eq-eqb, ne_eqb, le-ltb}
use lib.Dec.{eqb, ltb}
use lib.ListN.{length, take, drop, replicate, length-take, length-drop, length-append}
use lib.Seq.{length-take-le, take_at, drop_at, drop-drop}
use Rattle.rows.specs.Row.{has, insert, row_at, Row, RowPut}
use Rattle.rows.proofs.RowLaws.{has_cleared, row-set, row_skip}
use Rattle.rows.proofs.TableLaws.{row_room, length-row, has-row_cleared, row-insert-same, row-insert-other, row-front}
use Rattle.record.specs.Layout.{object_count}
use Rattle.record.specs.Words.{object_in, is_write_in}
use Rattle.events.specs.Given.{group_rows, Groups}
use Rattle.tables.proofs.LentLaws.{row_cut, row_back}

-- ---- a table whose row k has the events with key k, filled event by event

abbrev pub KeyRows : ℕ → ℕ → (ℕ → ℕ) → List ℕ → Type 0
KeyRows n w key g = (k : ℕ) → k < object_count → Row n (λ e. eqb (key e) k) (row_at g w k)

module _ (w : ℕ) (key : ℕ → ℕ) where
  pub keys_none : (m : ℕ) (g : List ℕ) → g ≡ replicate m 0 → KeyRows 0 w key g
  keys_none m g e k h x = rw e (has-row_cleared m w k x ∙ sym (ap (λ (t : Bool). t && eqb (key x) k) (le-ltb x 0 (omega arith))))

  -- event e is put into the row of its key k
  pub keys_more : (e : ℕ) (g : List ℕ) (k : ℕ) (g' : List ℕ) → KeyRows e w key g → e < 64 * w → object_count * w ≤ length g → k ≡ key e → k < object_count
      → g' ≡ insert g (64 * (k * w) + e) → KeyRows (e + 1) w key g'
  keys_more e g k g' i h room q l p c b = elim (ℕ_discrete c k) [ yes s ↦ same s | no ne ↦ other ne ]
    where
      same : c ≡ k → Row (e + 1) (λ x. eqb (key x) c) (row_at g' w c)
      same s = rw (p, s, row-insert-same g w k e h)
          (row-set e (λ x. eqb (key x) k) (row_at g w k) (i k l) (omega (arith, length-row g w k (row_room object_count w k (length g) l room))) (eq-eqb (key e) k (sym q)))

      other : (c ≡ k → ⊥) → Row (e + 1) (λ x. eqb (key x) c) (row_at g' w c)
      other ne = rw (p, row-insert-other g w k e h c ne)
          (row_skip e (λ x. eqb (key x) c) (row_at g w c) (i c b) (ne_eqb (key e) c (λ s. ne (sym (q ∙ s)))))

-- ---- the kinds

-- the reads are all events but the writes
pub reads_of : (n k : ℕ) (f : ℕ → Bool) (writes every reads : List ℕ) → Row n f writes → Row n (λ e. true) every
    → ((x : ℕ) → has reads x ≡ has (replicate k 0) x || (has every x && (has every x && not (has writes x)))) → Row n (λ e. not (f e)) reads
reads_of n k f writes every reads w e r x = r x ∙ rw (has_cleared k x, w x, e x) (go (ltb x n) (f x))
  where
    go : (s t : Bool) → false || ((s && true) && ((s && true) && not (s && t))) ≡ s && not t
    go true t = refl
    go false t = refl

-- the three kinds, put into a table as its first three rows
pub kinds_of : (n w : ℕ) (f : ℕ → Bool) (writes reads every : List ℕ) {g g₁ g₂ g₃ : List ℕ} → n ≤ 64 * w → Row n f writes → Row n (λ e. not (f e)) reads → Row n (λ e. true) every
    → RowPut w 0 (row_at writes w 0) g g₁ → RowPut w 1 (row_at reads w 0) g₁ g₂ → RowPut w 2 (row_at every w 0) g₂ g₃
    → Row n f (row_at g₃ w 0) × Row n (λ e. not (f e)) (row_at g₃ w 1) × Row n (λ e. true) (row_at g₃ w 2)
kinds_of n w f writes reads every h r s t p q u = (
  rw (u.other 0 (λ e. omega arith), q.other 0 (λ e. omega arith), p.same) (row_cut n w f writes h r),
  rw (u.other 1 (λ e. omega arith), q.same) (row_cut n w (λ e. not (f e)) reads h s),
  rw u.same (row_cut n w (λ e. true) every h t),
)

-- ---- the groups, in two parts that are filled one after the other

module _ (n w : ℕ) (l g m k : List ℕ) (room : group_rows * w ≤ length g) (fits : length m ≡ length (take (object_count * w) g))
    (fits_next : length k ≡ length (take (group_rows * w - object_count * w) (drop (object_count * w) (m ++ drop (object_count * w) g)))) where
  abbrev first : List ℕ
  first = m ++ drop (object_count * w) g

  abbrev second : List ℕ
  second = take (object_count * w) first ++ (k ++ drop (group_rows * w - object_count * w) (drop (object_count * w) first))

  size : length m ≡ object_count * w
  size = fits ∙ length-take-le (object_count * w) g (omega arith)

  size-next : length k ≡ 3 * w
  size-next = omega (arith, fits_next, length-take (group_rows * w - object_count * w) (drop (object_count * w) first), length-drop (object_count * w) first, length-append m (drop (object_count * w) g), length-drop (object_count * w) g, size)

  parts : second ≡ m ++ (k ++ drop (group_rows * w) g)
  parts =
      let past : object_count * w + (group_rows * w - object_count * w) ≡ group_rows * w = omega arith in
      rw (take_at m (drop (object_count * w) g) (object_count * w) size, drop_at m (drop (object_count * w) g) (object_count * w) size, drop-drop (group_rows * w - object_count * w) (object_count * w) g, past)

  kept : length second ≡ length g
  kept =
      let t : List ℕ = drop (group_rows * w) g in
      omega (arith, ap length (parts ∙ sym (append_assoc m k t)), length-append (m ++ k) t, length-append m k, size, size-next, length-drop (group_rows * w) g)

  row_second : (b : ℕ) → b < 3 → row_at second w (object_count + b) ≡ row_at k w b
  row_second b h =
      ap (λ (x : List ℕ). row_at x w (object_count + b)) parts
      ∙ row_back m (k ++ drop (group_rows * w) g) w object_count b size
      ∙ row-front k (drop (group_rows * w) g) w b (row_room 3 w b (length k) h (omega (arith, size-next)))

  pub groups_of : KeyRows n w (object_in l) m → Row n (is_write_in l) (row_at k w 0) → Row n (λ e. not (is_write_in l e)) (row_at k w 1) → Row n (λ e. true) (row_at k w 2)
      → Groups n w l second
  groups_of o r s t = record {
    size = omega (arith, kept);
    objects = λ b h. rw (parts, row-front m (k ++ drop (group_rows * w) g) w b (row_room object_count w b (length m) h (omega (arith, size)))) (o b h);
    writes = rw (row_second 0 (omega arith)) r;
    reads = rw (row_second 1 (omega arith)) s;
    every = rw (row_second 2 (omega arith)) t;
  }
