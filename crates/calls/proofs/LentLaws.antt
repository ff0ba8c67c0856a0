-- The arrays of a store: what they hold when parts of them are replaced, and the store that they then stand for. Assumes nothing.
use mathlib.Core.Path.{◌≡◌, refl, sym, ap, ◌∙◌, fun_ext}
use mathlib.Core.Bool.{cond}
use mathlib.Core.List.{List, []}
use Prim.Native.Nat.{ℕ, suc, ◌≤◌, ◌<◌}
use native.Mathlib.Omega.{arith}
use lib.Dec.{eqb, ltb}
use lib.ListN.{length, get_or, set, length-set}
use lib.Seq.{get_or-set_same, get_or-set_other}
use borrow.Author.Tests.{lt-ltb, le-ltb, ltb-true, ltb-false, eqb-true, eqb-false}
use Rattle.rows.specs.Row.{has}
use Rattle.rows.proofs.Tests.{split}
use Rattle.record.specs.Terms.{none, Terms}
use Rattle.store.specs.Store.{upd, Cell, untouched, Site, Event, Store, fresh_site, no_event}
use Rattle.store.proofs.UpdateLaws.{upd_elim}
use Rattle.calls.specs.Mirror.{cell_of}
use Rattle.calls.specs.Lent.{Lent, row_in, cells_of, cells_in, site_in, event_in, store_in, Rows, Clear}

pub store_path : {a b : Store} → a.count ≡ b.count → a.event ≡ b.event → a.site ≡ b.site → a ≡ b
store_path c e s = λ i. record { count = c i; event = e i; site = s i }

-- ---- arrays of rows, one of which is replaced

module _ {n w : ℕ} {rows : List (List ℕ)} (h : Rows n w rows) (s : ℕ) (low : s < n) (row : List ℕ) where
  pub row_same : row_in (set rows s row) s ≡ row
  row_same = get_or-set_same rows s row [] (omega (arith, h.long))

  pub row_other : (i : ℕ) → (i ≡ s → ⊥) → row_in (set rows s row) i ≡ row_in rows i
  row_other i d = get_or-set_other rows s i row [] d

  pub rows_set : length row ≡ w → Rows n w (set rows s row)
  rows_set long = record {
    long = length-set rows s row ∙ h.long;
    wide = λ i l.
        split (eqb i s)
        (λ t. let q : i ≡ s = eqb-true i s t in rw q (ap length row_same ∙ long))
        (λ t. ap length (row_other i (eqb-false i s t)) ∙ h.wide i l);
  }

-- cells, of which one is replaced
module _ (cells : List (List ℕ)) (h : Rows 8 32 cells) (s : ℕ) (low : s < 8) (o y : ℕ) (object : o ≤ 31) where
  abbrev pub cell_put : List (List ℕ)
  cell_put = set cells s (set (row_in cells s) o y)

  pub cell_put-rows : Rows 8 32 cell_put
  cell_put-rows = rows_set h s low (set (row_in cells s) o y) (length-set (row_in cells s) o y ∙ h.wide s low)

  pub cell_put-here : cells_in cell_put s ≡ upd (cells_in cells s) o (cell_of y)
  cell_put-here = fun_ext (λ p.
      upd_elim (λ (c : Cell). cells_in cell_put s p ≡ c) (cells_in cells s) o (cell_of y) p
      (λ q. rw (q, lt-ltb o 32 (omega arith))
      (ap cell_of (ap (λ (r : List ℕ). get_or r o 0) (row_same h s low _) ∙ get_or-set_same (row_in cells s) o y 0 (omega (arith, h.wide s low)))))
      (λ q. ap (λ (x : ℕ). cond (ltb p 32) (cell_of x) (untouched none))
      (ap (λ (r : List ℕ). get_or r p 0) (row_same h s low _) ∙ get_or-set_other (row_in cells s) o p y 0 q)))

  pub cell_put-other : (i : ℕ) → (i ≡ s → ⊥) → cells_in cell_put i ≡ cells_in cells i
  cell_put-other i d = ap cells_of (row_other h s low _ i d)

-- ---- what a call finds

module _ (t : Terms) (z : Lent) where
  pub store-count : (store_in t z).count ≡ z.count
  unfolding store_in
  store-count = refl

  pub site-at : (s : ℕ) → s < 8 → (store_in t z).site s ≡ site_in z s
  unfolding store_in
  site-at s l = rw (lt-ltb s 8 l)

  pub event_at_lem : (e : ℕ) → e < z.count → (store_in t z).event e ≡ event_in z e
  unfolding store_in
  event_at_lem e l = rw (lt-ltb e z.count l)

  pub cell_at : (s o : ℕ) → s < 8 → o ≤ 31 → ((store_in t z).site s).cell o ≡ cell_of (get_or (row_in z.cells s) o 0)
  cell_at s o l m = ap (λ (x : Site). x.cell o) (site-at s l) ∙ rw (lt-ltb o 32 (omega arith))

  -- whether an event is a put, of any number
  pub put-told : Clear z → (x : ℕ) → ((store_in t z).event x).is_put ≡ has z.puts x
  unfolding store_in
  put-told clear x = split (ltb x z.count) (λ u. rw u refl) (λ u. rw u (sym (clear.puts x (ltb-false x z.count u))))

-- ---- what stores leave

module _ (t : Terms) (z z' : Lent) (s : ℕ) (low : s < 8) (a : Site) (here : site_in z' s ≡ a) (other : (i : ℕ) → i < 8 → (i ≡ s → ⊥) → site_in z' i ≡ site_in z i) where
  sites-set : (store_in t z').site ≡ upd (store_in t z).site s a
  unfolding store_in
  sites-set = fun_ext (λ i.
      upd_elim (λ (x : Site). cond (ltb i 8) (site_in z' i) (fresh_site t) ≡ x) (store_in t z).site s a i
      (λ q. rw (q, lt-ltb s 8 low) here)
      (λ q. split (ltb i 8) (λ u. rw u (other i (ltb-true i 8 u) q)) (λ u. rw u refl)))

  -- site s alone
  pub site-store : z'.count ≡ z.count → ((e : ℕ) → e < z.count → event_in z' e ≡ event_in z e)
      → store_in t z' ≡ record { count = (store_in t z).count; event = (store_in t z).event; site = upd (store_in t z).site s a }
  unfolding store_in
  site-store same events =
      store_path same
      (fun_ext (λ e. rw same (split (ltb e z.count) (λ u. rw u (events e (ltb-true e z.count u))) (λ u. rw u refl))))
      sites-set

  -- and one event more
  pub event-store : z'.count ≡ suc z.count → ((e : ℕ) → e < z.count → event_in z' e ≡ event_in z e)
      → (x : Event) → event_in z' z.count ≡ x
      → store_in t z' ≡ record { count = suc (store_in t z).count; event = upd (store_in t z).event (store_in t z).count x; site = upd (store_in t z).site s a }
  unfolding store_in
  event-store more events x new =
      store_path more
      (fun_ext (λ e.
      upd_elim (λ (y : Event). cond (ltb e (z'.count)) (event_in z' e) no_event ≡ y) (store_in t z).event z.count x e
      (λ q. rw (q, lt-ltb z.count (z'.count) (omega arith)) new)
      (λ q. split (ltb e z.count)
      (λ u.
      let l : e < z.count = ltb-true e z.count u in
      rw (u, lt-ltb e (z'.count) (omega arith)) (events e l))
      (λ u.
      let l : z.count ≤ e = ltb-false e z.count u in
      rw (u, le-ltb e (z'.count) (omega arith)) refl))))
      sites-set
