-- The loop over a script: after k calls the arrays stand for the store of those calls, and their answers are written. Assumes nothing.
use mathlib.Core.Path.{◌≡◌, refl, sym, ap, ◌∙◌, fun_ext}
use mathlib.Core.Bool.{false}
use mathlib.Core.List.{List, [], ◌++◌, append_assoc}
use Prim.Native.Nat.{ℕ, ◌+◌, ◌-◌, ◌*◌, ◌/◌, ◌%◌, ◌≤◌, ◌<◌}
use native.Mathlib.Nat.{add-sub_cancel_left}
use native.Mathlib.Numerals.{add-one}
use native.Mathlib.Omega.{arith}
use lib.Dec.{ltb}
use lib.ListN.{length, get_or, take, drop, replicate, length-append, length-drop, get_or-eq_default}
use lib.Seq.{sets, sets-eq, length-sets, take_at, drop-append-add, drop-drop}
use borrow.Rule.Slice.PartMut.{put_mid}
use borrow.Author.Tests.{le-ltb, ltb-true, ltb-false}
use Rattle.std.proofs.lemmas.List.{length-replicate, get_or-replicate}
use Rattle.rows.specs.Row.{has}
use Rattle.rows.proofs.RowLaws.{has_cleared}
use Rattle.rows.proofs.Tests.{split}
use Rattle.record.specs.Layout.{most_events, row_words}
use Rattle.record.specs.Terms.{Terms}
use Rattle.record.proofs.StoresLaws.{zero-at}
use Rattle.store.specs.Store.{untouched, fresh}
use Rattle.store.specs.Calls.{Call, call_at, calls_from, calls_of}
use Rattle.store.specs.Rules.{answer, answers, run}
use Rattle.store.proofs.WholeList.{store_up_to_lem, store_up_to, answers_up_to, store-none, store-more, answers-none, answers-more, answers-whole, answer-length, answers_up_to-length}
use Rattle.calls.specs.Lent.{Lent, row_in, cells_of, store_in, Rows, Sized, Clear, Stands}
use Rattle.calls.specs.Done.{Called}
use Rattle.calls.proofs.LentLaws.{store_path}
use Rattle.calls.proofs.MadeLaws.{site_parts}
use Rattle.rehearsal.specs.Runs.{Fresh, Ran, Opened}

-- ---- the start

-- rows of zeros
zeros_rows : (n w : ℕ) → Rows n w (replicate n (replicate w 0))
zeros_rows n w = record {
  long = length-replicate n (replicate w 0);
  wide = λ i l. ap length (get_or-replicate n i (replicate w 0) [] l) ∙ length-replicate {A = ℕ} w 0;
}

zero_in : (n w i j : ℕ) → get_or (row_in (replicate n (replicate w 0)) i) j 0 ≡ 0
zero_in n w i j =
    split (ltb i n)
    (λ t. ap (λ (r : List ℕ). get_or r j 0) (get_or-replicate n i (replicate w 0) [] (ltb-true i n t)) ∙ zero-at w j)
    (λ t. ap (λ (r : List ℕ). get_or r j 0) (get_or-eq_default (replicate n (replicate w 0)) [] (omega (arith, length-replicate n (replicate {A = ℕ} w 0), ltb-false i n t))))

abbrev pub fresh_arrays : List ℕ → Lent
fresh_arrays cells = record {
  known = replicate 8 (replicate row_words 0);
  puts = replicate row_words 0;
  sees = replicate most_events (replicate row_words 0);
  cells = replicate 8 cells;
  clocks = replicate 8 0;
  count = 0;
  events = replicate most_events 0;
  held = replicate 8 (replicate 8 0);
  needs = replicate most_events (replicate 8 0);
}

pub opened-fresh : (t : Terms) (cells : List ℕ) → Opened t cells → Fresh t (fresh_arrays cells)
unfolding store_in
opened-fresh t cells h = record {
  sized = record {
    known = zeros_rows 8 row_words;
    puts = length-replicate {A = ℕ} row_words 0;
    sees = zeros_rows most_events row_words;
    cells = record { long = length-replicate 8 cells; wide = λ i l. ap length (get_or-replicate 8 i cells [] l) ∙ h.long };
    clocks = length-replicate {A = ℕ} 8 0;
    events = length-replicate {A = ℕ} most_events 0;
    held = zeros_rows 8 8;
    needs = zeros_rows most_events 8;
  };
  clear = record {
    puts = λ e l. has_cleared row_words e;
    events = λ e l. zero-at most_events e;
    sees = λ e i l. zero_in most_events row_words e i;
    needs = λ e i l. zero_in most_events 8 e i;
  };
  store = store_path refl
      (fun_ext (λ e. rw (le-ltb e 0 (omega arith)) refl))
      (fun_ext (λ s.
      split (ltb s 8)
      (λ u. rw u (site_parts (fresh_arrays cells) s 0 (λ i. 0) (λ e. false) (λ o. untouched (t.opening o))
      (zero-at 8 s)
      (fun_ext (λ j. zero_in 8 8 s j))
      (fun_ext (λ x. ap (λ (r : List ℕ). has r x) (get_or-replicate 8 s (replicate row_words 0) [] (ltb-true s 8 u)) ∙ has_cleared row_words x))
      (fun_ext (λ o. ap (λ (r : List ℕ). cells_of r o) (get_or-replicate 8 s cells [] (ltb-true s 8 u)) ∙ h.cell o))))
      (λ u. rw u refl)));
}

-- ---- a turn

-- eight bytes laid behind what stands in front of the rest of a longer list
lay : (front bytes rest : List ℕ) (k : ℕ) → length front ≡ 8 * k → length bytes ≡ 8 → 8 * k + 8 ≤ length rest
    → sets (front ++ drop (8 * k) rest) (8 * k) bytes ≡ (front ++ bytes) ++ drop (8 * (k + 1)) rest
lay front bytes rest k p q l =
    let all : List ℕ = front ++ drop (8 * k) rest in
    let long : length all ≡ length rest = length-append front (drop (8 * k) rest) ∙ omega (arith, length-drop (8 * k) rest) in
    let end : 8 * k + length bytes ≡ 8 * (k + 1) = omega arith in
    let past : drop (8 * k + length bytes) all ≡ drop (8 * (k + 1)) rest =
    ap (λ (i : ℕ). drop (i + length bytes) all) (sym p) ∙ drop-append-add front (drop (8 * k) rest) (length bytes)
    ∙ drop-drop (length bytes) (8 * k) rest ∙ ap (λ (i : ℕ). drop i rest) end in
    sets-eq bytes all (8 * k) (omega arith)
    ∙ ap (λ (h : List ℕ). h ++ bytes ++ drop (8 * k + length bytes) all) (take_at front (drop (8 * k) rest) (8 * k) p)
    ∙ ap (λ (h : List ℕ). front ++ bytes ++ h) past

-- eight bytes given back in the place of eight
as_sets : (out bytes : List ℕ) (a : ℕ) → length bytes ≡ 8 → a + 8 ≤ length out → put_mid a (a + 8 - a) out bytes ≡ sets out a bytes
as_sets out bytes a q room =
    let past : drop (a + length bytes) out ≡ drop (a + 8 - a) (drop a out) =
    ap (λ (i : ℕ). drop (a + i) out) (q ∙ sym (add-sub_cancel_left a 8)) ∙ sym (drop-drop (a + 8 - a) a out) in
    sym (sets-eq bytes out a (omega arith) ∙ append_assoc (take a out) bytes (drop (a + length bytes) out) ∙ ap (λ (t : List ℕ). take a out ++ (bytes ++ t)) past)

pub record Turned (n : ℕ) (t : Terms) (script out₀ out : List ℕ) (z : Lent) (k : ℕ) : Type 0 where
  pub sized : Sized z
  pub clear : Clear z
  pub store : store_in t z ≡ store_up_to k n t script
  pub long : length out ≡ length out₀
  pub written : out ≡ answers_up_to k n t script ++ drop (8 * k) out₀

module _ (n : ℕ) (t : Terms) (script out₀ : List ℕ) where
  pub turned_none : (z : Lent) → Fresh t z → Turned n t script out₀ out₀ z 0
  turned_none z h = record {
    sized = h.sized;
    clear = h.clear;
    store = h.store ∙ sym (store-none n t script);
    long = refl;
    written = ap (λ (l : List ℕ). l ++ out₀) (sym (answers-none n t script));
  }

  module _ (out : List ℕ) (z : Lent) (k : ℕ) (h : Turned n t script out₀ out z k) where
    -- the arrays stand for the store of the calls so far
    pub standing : Stands n t z
    standing = record {
      sized = h.sized;
      clear = h.clear;
      calls = calls_from k script 0;
      store = h.store ∙ store_up_to_lem k n t script;
    }

    -- one call more
    pub turned_more : k < length script / 8 → length script ≤ length out₀ → (call : Call) → call ≡ call_at script (8 * k)
        → (z' : Lent) (bytes out' : List ℕ) → Called n t call z z' bytes → out' ≡ put_mid (8 * k) (8 * k + 8 - 8 * k) out bytes → Turned n t script out₀ out' z' (k + 1)
    turned_more next short call asked z' bytes out' called given =
        let right : bytes ≡ answer n (store_up_to k n t script) (call_at script (8 * k)) = rw (← h.store, ← asked) called.answered in
        let more : answers_up_to k n t script ++ answer n (store_up_to k n t script) (call_at script (8 * k)) ≡ answers_up_to (k + 1) n t script =
        rw add-one (sym (answers-more k n t script)) in
        let eight : length bytes ≡ 8 = ap length right ∙ answer-length n (store_up_to k n t script) (call_at script (8 * k)) in
        let wrote : out' ≡ sets out (8 * k) bytes = given ∙ as_sets out bytes (8 * k) eight (omega (arith, h.long)) in
        record {
          sized = called.sized;
          clear = called.clear;
          store = rw (add-one, store-more, ← h.store, ← asked) called.store;
          long = ap length wrote ∙ length-sets out (8 * k) bytes ∙ h.long;
          written =
              wrote
              ∙ ap (λ (l : List ℕ). sets l (8 * k) bytes) h.written
              ∙ lay (answers_up_to k n t script) bytes out₀ k (answers_up_to-length k n t script) eight (omega arith)
              ∙ ap (λ (l : List ℕ). l ++ drop (8 * (k + 1)) out₀) (ap (λ (b : List ℕ). answers_up_to k n t script ++ b) right ∙ more);
        }

    -- no call is left
    pub turned_all : k ≡ length script / 8 → length script % 8 ≡ 0 → Ran n t script out₀ out z
    unfolding calls_of
    turned_all all whole =
        let end : 8 * k ≡ length script = omega arith in
        record {
          answered =
              h.written
              ∙ ap (λ (l : List ℕ). l ++ drop (8 * k) out₀) (ap (λ (i : ℕ). answers_up_to i n t script) all ∙ answers-whole n t script)
              ∙ ap (λ (i : ℕ). answers n (fresh t) (calls_of script) ++ drop i out₀) end;
          sized = h.sized;
          clear = h.clear;
          store = h.store ∙ store_up_to_lem k n t script ∙ ap (λ (i : ℕ). run n (fresh t) (calls_from i script 0)) all;
        }
