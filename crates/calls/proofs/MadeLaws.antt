-- A put or a get on the arrays is that call on the store that they stand for. Assumes nothing.
use mathlib.Core.Path.{◌≡◌, refl, sym, ap, ap₂, ◌∙◌}
use mathlib.Core.Bool.{Bool, true, false, ◌||◌}
use mathlib.Core.List.{List, ◌∷◌, ◌++◌}
use Prim.Native.Nat.{ℕ, suc, ◌+◌, ◌*◌, ◌^◌, ◌≤◌, ◌<◌}
use native.Mathlib.Numerals.{add-one}
use native.Mathlib.Omega.{arith}
use lib.Dec.{eqb}
use lib.ListN.{length, get_or, set, length-set}
use lib.Seq.{get_or-set_same, get_or-set_other}
use borrow.Author.Tests.{eq-eqb, ne_eqb}
use Rattle.rows.specs.Row.{has, insert}
use Rattle.rows.proofs.RowLaws.{has-insert, length-insert}
use Rattle.std.specs.Prelude.{Option}
use Rattle.record.specs.Encode.{little_bytes}
use Rattle.record.specs.Layout.{most_events, row_words}
use Rattle.record.specs.Terms.{Held, value, value_or0, Terms}
use Rattle.store.specs.Store.{upd, Cell, full, cell_value, Site}
use Rattle.store.specs.Calls.{put, get}
use Rattle.store.specs.Rules.{made, after_put, after_get, is_found, effect, done_answer}
use Rattle.calls.specs.Mirror.{held_of, shown_bits, word_value, word_object, word_site, word_stamp, word_shown, cell_of, OneMore}
use Rattle.calls.specs.Lent.{Lent, row_in, cells_in, site_in, event_in, store_in, Rows}
use Rattle.calls.specs.Done.{Entered, Makable, Made}
use Rattle.calls.proofs.KeptLaws.{known_more}
use Rattle.calls.proofs.WordLaws.{word_stamp_lem, word_site_lem, word_object_lem, word_shown_lem, shown-bit, full-cell, Finds}
use Rattle.calls.proofs.LentLaws.{row_same, row_other, rows_set, cell_put-rows, cell_put-here, cell_put-other, site-at, cell_at, event-store}

-- ---- rows that a store leaves

abbrev pub numbers : List ℕ → ℕ → ℕ
numbers l i = get_or l i 0

pub as_held : {l m : List ℕ} → l ≡ m → numbers l ≡ numbers m
as_held e = ap numbers e

-- an event of which nothing has changed
pub event-same : (z z' : Lent) (e : ℕ) → get_or z'.events e 0 ≡ get_or z.events e 0 → has z'.puts e ≡ has z.puts e
    → row_in z'.sees e ≡ row_in z.sees e → row_in z'.needs e ≡ row_in z.needs e → event_in z' e ≡ event_in z e
event-same z z' e w p r n = λ i. record {
  site = word_site (w i);
  is_put = p i;
  object = word_object (w i);
  shown = word_shown (w i);
  stamp = word_stamp (w i);
  sees = has (r i);
  needs = λ j. get_or (n i) j 0;
}

-- a site as its parts are
pub site_parts : (z : Lent) (s clock : ℕ) (held : ℕ → ℕ) (known : ℕ → Bool) (cell : ℕ → Cell) → get_or z.clocks s 0 ≡ clock
    → numbers (row_in z.held s) ≡ held → has (row_in z.known s) ≡ known → cells_in z.cells s ≡ cell
    → site_in z s ≡ record { clock = clock; held = held; known = known; cell = cell }
site_parts z s clock held known cell c h k g = λ i. record { clock = c i; held = h i; known = k i; cell = g i }

-- ---- a new event

module _ (z z' : Lent) (s o : ℕ) (m : Makable z s o) (word x : ℕ) (low : x < 2 ^ 33)
    (is_word : word ≡ (8 * (get_or z.clocks s 0 + 1) + s) * 2 ^ 40 + (o * 2 ^ 33 + x)) (enters : Entered s word z z') where
  abbrev clock : ℕ
  clock = get_or z.clocks s 0

  word_there : get_or z'.events z.count 0 ≡ word
  word_there = ap (λ (l : List ℕ). get_or l z.count 0) enters.written ∙ get_or-set_same z.events z.count word 0 (omega (arith, m.room, m.sized.events))

  word_other : (e : ℕ) → (e ≡ z.count → ⊥) → get_or z'.events e 0 ≡ get_or z.events e 0
  word_other e d = ap (λ (l : List ℕ). get_or l e 0) enters.written ∙ get_or-set_other z.events z.count e word 0 d

  saw_there : row_in z'.sees z.count ≡ row_in z.known s
  saw_there = ap (λ (l : List (List ℕ)). row_in l z.count) enters.saw ∙ row_same m.sized.sees z.count m.room (row_in z.known s)

  saw_other : (e : ℕ) → (e ≡ z.count → ⊥) → row_in z'.sees e ≡ row_in z.sees e
  saw_other e d = ap (λ (l : List (List ℕ)). row_in l e) enters.saw ∙ row_other m.sized.sees z.count m.room (row_in z.known s) e d

  needs_there : row_in z'.needs z.count ≡ row_in z.held s
  needs_there = ap (λ (l : List (List ℕ)). row_in l z.count) enters.needs ∙ row_same m.sized.needs z.count m.room (row_in z.held s)

  needs_other : (e : ℕ) → (e ≡ z.count → ⊥) → row_in z'.needs e ≡ row_in z.needs e
  needs_other e d = ap (λ (l : List (List ℕ)). row_in l e) enters.needs ∙ row_other m.sized.needs z.count m.room (row_in z.held s) e d

  clock_there : get_or z'.clocks s 0 ≡ suc clock
  clock_there = ap (λ (l : List ℕ). get_or l s 0) enters.clock ∙ get_or-set_same z.clocks s (clock + 1) 0 (omega (arith, m.site, m.sized.clocks)) ∙ add-one clock

  clock_other : (i : ℕ) → (i ≡ s → ⊥) → get_or z'.clocks i 0 ≡ get_or z.clocks i 0
  clock_other i d = ap (λ (l : List ℕ). get_or l i 0) enters.clock ∙ get_or-set_other z.clocks s i (clock + 1) 0 d

  known_there : has (row_in z'.known s) ≡ upd (has (row_in z.known s)) z.count true
  known_there =
      ap (λ (l : List (List ℕ)). has (row_in l s)) enters.knows ∙ ap has (row_same m.sized.known s m.site (insert (row_in z.known s) z.count))
      ∙ known_more (row_in z.known s) z.count (omega (arith, m.room, m.sized.known.wide s m.site))

  known_other : (i : ℕ) → (i ≡ s → ⊥) → has (row_in z'.known i) ≡ has (row_in z.known i)
  known_other i d =
      ap (λ (l : List (List ℕ)). has (row_in l i)) enters.knows ∙ ap has (row_other m.sized.known s m.site (insert (row_in z.known s) z.count) i d)

  -- what it is, where it is laid as it should be
  new_event : (t : Terms) (is_put : Bool) (shown : Held) → word_shown x ≡ shown → has z'.puts z.count ≡ is_put → event_in z' z.count ≡ made (store_in t z) s is_put o shown
  new_event t is_put shown e p =
      let here : (store_in t z).site s ≡ site_in z s = site-at t z s m.site in
      let w = word_there in
      let parts : event_in z' z.count ≡ record {
        site = s;
        is_put = is_put;
        object = o;
        shown = shown;
        stamp = suc clock;
        sees = has (row_in z.known s);
        needs = λ i. get_or (row_in z.held s) i 0;
      } = λ i. record {
        site = (ap word_site w ∙ word_site_lem clock s o x m.site m.object low word is_word) i;
        is_put = p i;
        object = (ap word_object w ∙ word_object_lem clock s o x m.site m.object low word is_word) i;
        shown = (ap word_shown w ∙ word_shown_lem clock s o x m.site m.object low word is_word ∙ e) i;
        stamp = (ap word_stamp w ∙ word_stamp_lem clock s o x m.site m.object low word is_word) i;
        sees = has (saw_there i);
        needs = λ j. get_or (needs_there i) j 0;
      } in
      parts
      ∙ ap (λ (a : Site). record {
        site = s;
        is_put = is_put;
        object = o;
        shown = shown;
        stamp = suc a.clock;
        sees = a.known;
        needs = a.held;
      }) (sym here)

  -- the lengths of what it changes, and what stands behind it
  known_sized : Rows 8 row_words z'.known
  known_sized = rw enters.knows (rows_set m.sized.known s m.site _ (length-insert (row_in z.known s) z.count ∙ m.sized.known.wide s m.site))

  sees_sized : Rows most_events row_words z'.sees
  sees_sized = rw enters.saw (rows_set m.sized.sees z.count m.room _ (m.sized.known.wide s m.site))

  needs_sized : Rows most_events 8 z'.needs
  needs_sized = rw enters.needs (rows_set m.sized.needs z.count m.room _ (m.sized.held.wide s m.site))

  clocks_sized : length z'.clocks ≡ 8
  clocks_sized = ap length enters.clock ∙ length-set z.clocks s (clock + 1) ∙ m.sized.clocks

  events_sized : length z'.events ≡ most_events
  events_sized = ap length enters.written ∙ length-set z.events z.count word ∙ m.sized.events

  words_clear : (e : ℕ) → z'.count ≤ e → get_or z'.events e 0 ≡ 0
  words_clear e l = word_other e (λ q. omega (arith, enters.count)) ∙ m.clear.events e (omega (arith, enters.count))

  sees_clear : (e i : ℕ) → z'.count ≤ e → get_or (row_in z'.sees e) i 0 ≡ 0
  sees_clear e i l = ap (λ (r : List ℕ). get_or r i 0) (saw_other e (λ q. omega (arith, enters.count))) ∙ m.clear.sees e i (omega (arith, enters.count))

  needs_clear : (e i : ℕ) → z'.count ≤ e → get_or (row_in z'.needs e) i 0 ≡ 0
  needs_clear e i l = ap (λ (r : List ℕ). get_or r i 0) (needs_other e (λ q. omega (arith, enters.count))) ∙ m.clear.needs e i (omega (arith, enters.count))

  abbrev there : ℕ
  there = get_or (row_in z.cells s) o 0

  -- ---- a get: no more is changed

  module _ (puts : z'.puts ≡ z.puts) (cells : z'.cells ≡ z.cells) (held : z'.held ≡ z.held) where
    got_other : (i : ℕ) → i < 8 → (i ≡ s → ⊥) → site_in z' i ≡ site_in z i
    got_other i l d =
        site_parts z' i _ _ _ _ (clock_other i d) (ap (λ (h : List (List ℕ)). numbers (row_in h i)) held) (known_other i d)
        (ap (λ (c : List (List ℕ)). cells_in c i) cells)

    got_here : site_in z' s ≡ after_get (site_in z s) z.count
    got_here =
        site_parts z' s _ _ _ _ clock_there (ap (λ (h : List (List ℕ)). numbers (row_in h s)) held) known_there
        (ap (λ (c : List (List ℕ)). cells_in c s) cells)

    same_puts : (e : ℕ) → has z'.puts e ≡ has z.puts e
    same_puts e = ap (λ (r : List ℕ). has r e) puts

    got_events : (e : ℕ) → e < z.count → event_in z' e ≡ event_in z e
    got_events e l = event-same z z' e (word_other e (λ q. omega arith)) (same_puts e) (saw_other e (λ q. omega arith)) (needs_other e (λ q. omega arith))

    pub got_made : (bytes : List ℕ) (found : Option ℕ) → Finds there found → x ≡ shown_bits found
        → bytes ≡ 0 ∷ is_found (held_of found) ∷ (little_bytes 2 z.count ++ little_bytes 4 (value_or0 (held_of found))) → Made (get s o) z z' bytes
    unfolding effect done_answer store_in
    got_made bytes found finds is_shown wrote =
        let shows : (t : Terms) → held_of found ≡ cell_value (((store_in t z).site s).cell o) = λ t.
        finds.held ∙ sym (ap cell_value (cell_at t z s o m.site m.object)) in
        let shown : word_shown x ≡ held_of found = ap word_shown is_shown ∙ finds.shown in
        record {
          sized = record {
            known = known_sized;
            puts = ap length puts ∙ m.sized.puts;
            sees = sees_sized;
            cells = rw cells m.sized.cells;
            clocks = clocks_sized;
            events = events_sized;
            held = rw held m.sized.held;
            needs = needs_sized;
          };
          clear = record {
            puts = λ e l. same_puts e ∙ m.clear.puts e (omega (arith, enters.count));
            events = words_clear;
            sees = sees_clear;
            needs = needs_clear;
          };
          store = λ n t.
              event-store t z z' s m.site (after_get ((store_in t z).site s) z.count)
              (got_here ∙ ap (λ (a : Site). after_get a z.count) (sym (site-at t z s m.site))) got_other
              (enters.count ∙ add-one z.count) got_events _
              (new_event t false (cell_value (((store_in t z).site s).cell o)) (shown ∙ shows t) (same_puts z.count ∙ m.clear.puts z.count (omega arith)));
          answered = λ n t. rw (← (shows t)) wrote;
        }

  -- ---- a put: it joins the puts, its cell is replaced, and one more is held

  module _ (v : ℕ) (is_shown : x ≡ 2 ^ 32 + v) (small : v < 2 ^ 32) (row : List ℕ) (joins : z'.puts ≡ insert z.puts z.count)
      (cells : z'.cells ≡ set z.cells s (set (row_in z.cells s) o word)) (held : z'.held ≡ set z.held s row)
      (more : OneMore (row_in z.held s) row s) (wide : length row ≡ 8) where
    put_puts : (e : ℕ) → has z'.puts e ≡ eqb z.count e || has z.puts e
    put_puts e = ap (λ (r : List ℕ). has r e) joins ∙ has-insert z.puts z.count e (omega (arith, m.room, m.sized.puts))

    full_word : cell_of word ≡ full v (suc clock) s
    full_word =
        let stamp = word_stamp_lem clock s o x m.site m.object low word is_word in
        let value : word_value word ≡ v = omega (arith, is_word, is_shown) in
        full-cell word (omega arith) ∙ (λ i. full (value i) (stamp i) (word_site_lem clock s o x m.site m.object low word is_word i))

    put_other : (i : ℕ) → i < 8 → (i ≡ s → ⊥) → site_in z' i ≡ site_in z i
    put_other i l d =
        site_parts z' i _ _ _ _ (clock_other i d)
        (ap (λ (h : List (List ℕ)). numbers (row_in h i)) held ∙ as_held (row_other m.sized.held s m.site row i d))
        (known_other i d)
        (ap (λ (c : List (List ℕ)). cells_in c i) cells ∙ cell_put-other z.cells m.sized.cells s m.site o word m.object i d)

    put_here : site_in z' s ≡ after_put (site_in z s) s z.count o v
    put_here =
        site_parts z' s _ _ _ _ clock_there
        (ap (λ (h : List (List ℕ)). numbers (row_in h s)) held ∙ as_held (row_same m.sized.held s m.site row) ∙ more)
        known_there
        (ap (λ (c : List (List ℕ)). cells_in c s) cells ∙ cell_put-here z.cells m.sized.cells s m.site o word m.object ∙ ap (upd (cells_in z.cells s) o) full_word)

    put_events : (e : ℕ) → e < z.count → event_in z' e ≡ event_in z e
    put_events e l =
        event-same z z' e (word_other e (λ q. omega arith)) (put_puts e ∙ ap (λ (t : Bool). t || has z.puts e) (ne_eqb z.count e (λ q. omega arith)))
        (saw_other e (λ q. omega arith)) (needs_other e (λ q. omega arith))

    pub put_made : (bytes : List ℕ) → bytes ≡ 0 ∷ 0 ∷ (little_bytes 2 z.count ++ little_bytes 4 0) → Made (put s o v) z z' bytes
    unfolding effect done_answer store_in little_bytes
    put_made bytes wrote =
        let shown : word_shown x ≡ value v = ap word_shown is_shown ∙ shown-bit v small in
        let here : eqb z.count z.count ≡ true = eq-eqb z.count z.count refl in
        record {
          sized = record {
            known = known_sized;
            puts = ap length joins ∙ length-insert z.puts z.count ∙ m.sized.puts;
            sees = sees_sized;
            cells = rw cells (cell_put-rows z.cells m.sized.cells s m.site o word m.object);
            clocks = clocks_sized;
            events = events_sized;
            held = rw held (rows_set m.sized.held s m.site row wide);
            needs = needs_sized;
          };
          clear = record {
            puts = λ e l. put_puts e ∙ ap₂ ◌||◌ (ne_eqb z.count e (λ q. omega (arith, enters.count))) (m.clear.puts e (omega (arith, enters.count)));
            events = words_clear;
            sees = sees_clear;
            needs = needs_clear;
          };
          store = λ n t.
              event-store t z z' s m.site (after_put ((store_in t z).site s) s z.count o v)
              (put_here ∙ ap (λ (y : Site). after_put y s z.count o v) (sym (site-at t z s m.site))) put_other
              (enters.count ∙ add-one z.count) put_events _
              (new_event t true (value v) shown (put_puts z.count ∙ ap (λ (u : Bool). u || has z.puts z.count) here));
          answered = λ n t. wrote;
        }
