-- Laws of question 9, asked of rows: no event from n on, and not the event itself. Assumes nothing.
use mathlib.Core.Path.{◌≡◌, refl, sym, ap, ◌∙◌}
use mathlib.Core.Bool.{Bool, true, false, not, ◌&&◌, ◌||◌}
use mathlib.Core.List.{List, ◌++◌}
use Prim.Native.Nat.{ℕ, ◌+◌, ◌*◌, ◌<◌, ◌≤◌}
use native.Mathlib.Omega.{arith}
use native.Mathlib.Decide.{dec_lt}
use borrow.Author.Tests.{eq-eqb, eqb-true, leb-true, leb-false, not-false}
use lib.Dec.{eqb, leb}
use lib.ListN.{length, length-append}
use Rattle.rows.specs.Lowest.{lowest, some}
use Rattle.rows.specs.Row.{has, row_at, only_first, Row}
use Rattle.rows.specs.Relation.{Rel, reaches, related, Graph}
use Rattle.rows.specs.Octets.{has_byte}
use Rattle.rows.proofs.Tests.{split, tell, never, and_both, and_left, and_right, or_elim, or_left, or_right}
use Rattle.rows.proofs.LowestLaws.{some_of, some_at, some-none, none-some, same_some, same-lowest}
use Rattle.rows.proofs.RowLaws.{only-some, subset_has, row_in, row_has}
use Rattle.rows.proofs.ReachLaws.{reaches_same}
use Rattle.rows.proofs.TableLaws.{length-row_le}
use Rattle.record.specs.Layout.{Layout, slot_at, row_words}
use Rattle.record.specs.History.{history_of, vis}
use Rattle.record.specs.Words.{set_rows}
use Rattle.record.specs.Questions.{wrong_set, on_ring}
use Rattle.record.proofs.StoresLaws.{Bytes}
use Rattle.record.proofs.SlotWords.{length-set_rows, vis-byte, vis_past, vis-within, related-vis}

-- ---- one visible set, of w words

module _ (w n : ℕ) (v : Rel) (e : ℕ) where
  pub set-wrong : (b : ℕ) → b < 64 * w → v b e ≡ true → leb n b || eqb b e ≡ true → wrong_set w n v e ≡ true
  unfolding wrong_set
  set-wrong b h s t = some_of (64 * w) (λ b. v b e && (leb n b || eqb b e)) b h (and_both (v b e) (leb n b || eqb b e) s t)

  pub set-right : ((b : ℕ) → b < 64 * w → v b e ≡ true → (b < n) × (b ≡ e → ⊥)) → wrong_set w n v e ≡ false
  unfolding wrong_set
  set-right f = none-some (64 * w) (λ b. v b e && (leb n b || eqb b e)) (λ b h. never (v b e && (leb n b || eqb b e)) (λ t.
      let p = f b h (and_left (v b e) (leb n b || eqb b e) t) in
      or_elim (leb n b) (eqb b e) (and_right (v b e) (leb n b || eqb b e) t) (λ x. omega (arith, p.0, leb-true n b x)) (λ x. p.1 (eqb-true b e x))))

  pub set-inside : wrong_set w n v e ≡ false → (b : ℕ) → b < 64 * w → v b e ≡ true → (b < n) × (b ≡ e → ⊥)
  unfolding wrong_set
  set-inside f b h s =
      let none : v b e && (leb n b || eqb b e) ≡ false = some-none (64 * w) (λ b. v b e && (leb n b || eqb b e)) f b h in
      let no : leb n b || eqb b e ≡ true → ⊥ = λ t. tell (v b e && (leb n b || eqb b e)) (and_both (v b e) (leb n b || eqb b e) s t) none in
      (split (leb n b) (λ t. absurd (no (or_left (leb n b) (eqb b e) t))) (λ t. leb-false n b t), λ q. no (or_right (leb n b) (eqb b e) (eq-eqb b e q)))

  pub set_same : (u : Rel) → ((b : ℕ) → b < 64 * w → v b e ≡ u b e) → wrong_set w n v e ≡ wrong_set w n u e
  unfolding wrong_set
  set_same u same = same_some (64 * w) (λ b. v b e && (leb n b || eqb b e)) (λ b. u b e && (leb n b || eqb b e))
      (λ b h. ap (λ (t : Bool). t && (leb n b || eqb b e)) (same b h))

-- a set whose members are all in its first k words may be asked in w
pub set_wider : (k w n : ℕ) (v : Rel) (e : ℕ) → k ≤ w → ((b : ℕ) → 64 * k ≤ b → v b e ≡ false) → wrong_set w n v e ≡ wrong_set k n v e
set_wider k w n v e h past = split (wrong_set k n v e)
    (λ t. wide t ∙ sym t)
    (λ t. set-right w n v e (λ b l s. set-inside k n v e t b (within b s) s) ∙ sym t)
  where
    within : (b : ℕ) → v b e ≡ true → b < 64 * k
    within b s = elim (dec_lt b (64 * k)) [ yes l ↦ l | no g ↦ absurd (tell (v b e) s (past b (omega arith))) ]

    wide : wrong_set k n v e ≡ true → wrong_set w n v e ≡ true
    wide t = split (wrong_set w n v e) (λ u. u)
        (λ u. absurd (tell (wrong_set k n v e) t (set-right k n v e (λ b l s. set-inside w n v e u b (omega arith) s))))

-- ---- the same of row e of a table, beside the row of the events below n

module _ (g : List ℕ) (w n e : ℕ) (below : List ℕ) (all : Row n (λ x. true) below) where
  -- the row has an event that `below` lacks
  row-outside : not (some (64 * length (row_at g w e)) (only_first (row_at g w e) below)) ≡ false → wrong_set w n (related g w) e ≡ true
  row-outside t =
      let l : List ℕ = row_at g w e in
      let p = some_at (64 * length l) (only_first l below) (not-false (some (64 * length l) (only_first l below)) t) in
      let b : ℕ = lowest (64 * length l) (only_first l below) in
      let o = only-some l below b p.1 in
      set-wrong w n (related g w) e b (omega (arith, p.0, length-row_le g w e)) o.0
      (or_left (leb n b) (eqb b e) (split (leb n b) (λ x. x) (λ x. absurd (tell (has below b) (row_has n (λ y. true) below all b (leb-false n b x)) o.1))))

  row-right : not (some (64 * length (row_at g w e)) (only_first (row_at g w e) below)) ≡ true → has (row_at g w e) e ≡ false → wrong_set w n (related g w) e ≡ false
  row-right t f = set-right w n (related g w) e (λ b h s.
      ((row_in n (λ x. true) below all b (subset_has (row_at g w e) below t b s)).0, λ q. tell (has (row_at g w e) e) (rw q at s) f))

-- ---- and of event e's set in a record, once its words are loaded

-- its own bit, in the bytes
pub byte_itself : (L : Layout) (s : List ℕ) (n e : ℕ) → e < 64 * L.row → has_byte s (slot_at L e + 32) e ≡ true → wrong_set L.row n (vis (history_of L s)) e ≡ true
byte_itself L s n e h t =
    set-wrong L.row n (vis (history_of L s)) e e h (vis-byte L s e e h ∙ t) (or_right (leb n e) (eqb e e) (eq-eqb e e refl))

module _ (L : Layout) (s : List ℕ) (narrow : L.row ≤ row_words) (bytes : Bytes s) (m : ℕ) (rest g : List ℕ) (loaded : g ≡ set_rows L s m ++ rest) where
  -- a table g that begins with the sets of the first m events
  same : (a b : ℕ) → b < m → related g row_words a b ≡ vis (history_of L s) a b
  same a b k = ap (λ (r : List ℕ). related r row_words a b) loaded ∙ related-vis L s narrow bytes m rest a b k

  module _ (n e : ℕ) (below : List ℕ) (all : Row n (λ x. true) below) (h : e < m) where
    wrong : wrong_set row_words n (related g row_words) e ≡ wrong_set L.row n (vis (history_of L s)) e
    wrong =
        set_same row_words n (related g row_words) e (vis (history_of L s)) (λ b k. same b e h)
        ∙ set_wider L.row row_words n (vis (history_of L s)) e narrow (λ b k. vis_past L s b e k)

    pub loaded_outside : not (some (64 * length (row_at g row_words e)) (only_first (row_at g row_words e) below)) ≡ false → wrong_set L.row n (vis (history_of L s)) e ≡ true
    loaded_outside t = sym wrong ∙ row-outside g row_words n e below all t

    pub loaded_right : not (some (64 * length (row_at g row_words e)) (only_first (row_at g row_words e) below)) ≡ true → e < 64 * L.row
        → has_byte s (slot_at L e + 32) e ≡ false → wrong_set L.row n (vis (history_of L s)) e ≡ false
    loaded_right t k f = sym wrong ∙ row-right g row_words n e below all t (same e e h ∙ vis-byte L s e e k ∙ f)

  -- where every set gets a yes
  module _ (wide : m ≤ 64 * row_words) (right : (e : ℕ) → e < m → wrong_set L.row m (vis (history_of L s)) e ≡ false) where
    pub loaded_graph : Graph g m row_words
    loaded_graph = record {
      size = omega (arith, ap length loaded, length-append (set_rows L s m) rest, length-set_rows L s narrow m);
      wide = wide;
      fits = omega arith;
      inside = λ b x h t.
          let v : vis (history_of L s) x b ≡ true = sym (same x b h) ∙ t in
          (set-inside L.row m (vis (history_of L s)) b (right b h) x (vis-within L s x b v) v).0;
    }

    pub loaded_ring : lowest m (λ a. reaches m (related g row_words) a a) ≡ lowest m (on_ring m (vis (history_of L s)))
    unfolding on_ring
    loaded_ring = same-lowest m (λ a. reaches m (related g row_words) a a) (on_ring m (vis (history_of L s)))
        (λ a h. reaches_same m (related g row_words) (vis (history_of L s)) (λ x y p q. same x y q) a a h h)
