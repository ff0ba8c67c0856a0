-- A put that comes to a site, on the arrays, is that copy in the store that they stand for. Assumes nothing.
use mathlib.Core.Path.{◌≡◌, refl, sym, ap, ap₂, ◌∙◌}
use mathlib.Core.List.{List}
use Prim.Native.Nat.{ℕ, ◌<◌, max}
use native.Mathlib.Omega.{arith}
use lib.ListN.{length, get_or, set, length-set}
use lib.Seq.{get_or-set_same, get_or-set_other}
use borrow.Author.Tests.{lt-ltb}
use Rattle.rows.specs.Row.{has, insert, or_row}
use Rattle.rows.proofs.RowLaws.{length-or, length-insert}
use Rattle.record.specs.Layout.{most_events}
use Rattle.record.specs.Terms.{value_or0}
use Rattle.store.specs.Store.{upd, merge, Site, Event}
use Rattle.store.specs.Rules.{after_delivery}
use Rattle.calls.specs.Mirror.{word_value, word_object, word_site, word_stamp, word_shown, cell_of, OneMore}
use Rattle.calls.specs.Lent.{Lent, row_in, cells_in, site_in, event_in, store_in}
use Rattle.calls.specs.Done.{Copyable, Came}
use Rattle.calls.proofs.KeptLaws.{known_joined}
use Rattle.calls.proofs.WordLaws.{merged}
use Rattle.calls.proofs.LentLaws.{row_same, row_other, rows_set, cell_put-rows, cell_put-here, cell_put-other, site-at, event_at_lem, site-store}
use Rattle.calls.proofs.MadeLaws.{as_held, site_parts}

module _ (z : Lent) (s w : ℕ) (h : Copyable z s w) (y : ℕ) (is_later : y ≡ max (get_or (row_in z.cells s) (word_object (get_or z.events w 0)) 0) (get_or z.events w 0))
    (row : List ℕ) (more : OneMore (row_in z.held s) row (word_site (get_or z.events w 0))) (wide : length row ≡ 8) where
  abbrev x : ℕ
  x = get_or z.events w 0

  abbrev o : ℕ
  o = word_object x

  abbrev clock : ℕ
  clock = max (get_or z.clocks s 0) (word_stamp x)

  abbrev joined : List ℕ
  joined = insert (or_row (row_in z.known s) (row_in z.sees w)) w

  -- what it leaves
  abbrev pub carried : Lent
  carried = record {
    known = set z.known s joined;
    puts = z.puts;
    sees = z.sees;
    cells = set z.cells s (set (row_in z.cells s) o y);
    clocks = set z.clocks s clock;
    count = z.count;
    events = z.events;
    held = set z.held s row;
    needs = z.needs;
  }

  few : w < most_events
  few = omega (arith, h.event, h.few)

  -- the cell keeps the later put
  cell_merged : cell_of y ≡ merge (cells_in z.cells s o) (word_value x) (word_stamp x) (word_site x)
  cell_merged =
      let old : ℕ = get_or (row_in z.cells s) o 0 in
      ap cell_of is_later ∙ merged old x h.stamp (h.apart old refl) ∙ rw (lt-ltb o 32 (omega (arith, h.object))) refl

  -- the put has a value
  shown : word_value x ≡ value_or0 (word_shown x)
  shown = rw h.present refl

  carried_here : site_in carried s ≡ after_delivery (site_in z s) w (event_in z w)
  carried_here =
      site_parts carried s _ _ _ _
      (get_or-set_same z.clocks s clock 0 (omega (arith, h.site, h.sized.clocks)))
      (as_held (row_same h.sized.held s h.site row) ∙ more)
      (ap has (row_same h.sized.known s h.site joined)
      ∙ known_joined (row_in z.known s) (row_in z.sees w) w (omega (arith, h.sized.known.wide s h.site, h.sized.sees.wide w few)) (omega (arith, few, h.sized.known.wide s h.site)))
      (cell_put-here z.cells h.sized.cells s h.site o y h.object
      ∙ ap (upd (cells_in z.cells s) o) (cell_merged ∙ ap (λ (v : ℕ). merge (cells_in z.cells s o) v (word_stamp x) (word_site x)) shown))

  carried_other : (i : ℕ) → i < 8 → (i ≡ s → ⊥) → site_in carried i ≡ site_in z i
  carried_other i l d =
      site_parts carried i _ _ _ _ (get_or-set_other z.clocks s i clock 0 d) (as_held (row_other h.sized.held s h.site row i d))
      (ap has (row_other h.sized.known s h.site joined i d)) (cell_put-other z.cells h.sized.cells s h.site o y h.object i d)

  pub came : Came z carried s w
  came = record {
    sized = record {
      known = rows_set h.sized.known s h.site joined (length-insert (or_row (row_in z.known s) (row_in z.sees w)) w ∙ length-or (row_in z.known s) (row_in z.sees w) ∙ h.sized.known.wide s h.site);
      puts = h.sized.puts;
      sees = h.sized.sees;
      cells = cell_put-rows z.cells h.sized.cells s h.site o y h.object;
      clocks = length-set z.clocks s clock ∙ h.sized.clocks;
      events = h.sized.events;
      held = rows_set h.sized.held s h.site row wide;
      needs = h.sized.needs;
    };
    clear = record { puts = h.clear.puts; events = h.clear.events; sees = h.clear.sees; needs = h.clear.needs };
    store = λ t.
        site-store t z carried s h.site (after_delivery ((store_in t z).site s) w ((store_in t z).event w))
        (carried_here ∙ ap₂ (λ (u : Site) (e : Event). after_delivery u w e) (sym (site-at t z s h.site)) (sym (event_at_lem t z w h.event)))
        carried_other refl (λ e l. refl);
  }
