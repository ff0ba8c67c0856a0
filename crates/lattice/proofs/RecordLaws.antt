-- The eight records as events with slots. Assumes nothing.
use mathlib.Core.Path.{◌≡◌, refl, sym, ap, ap₂, ◌∙◌}
use mathlib.Core.Bool.{Bool, true, false, not, ◌&&◌}
use mathlib.Core.List.{List, [], ◌∷◌, ◌++◌, map, append-nil}
use Prim.Native.Nat.{ℕ, ◌+◌, ◌*◌, ◌-◌, ◌<◌, ◌≤◌}
use native.Mathlib.Omega.{arith}
use borrow.Author.Tests.{not-true, leb-true}
use lib.Dec.{leb}
use lib.ListN.{length, get_or, drop, replicate, drop_of_length-le}
use lib.Seq.{sets}
use Rattle.rows.specs.Octets.{little, has_byte}
use Rattle.rows.specs.Lowest.{search_from, lowest, some}
use Rattle.rows.specs.Row.{digit, bit_of, has}
use Rattle.rows.proofs.LowestLaws.{some-none}
use Rattle.rows.proofs.Tests.{and_left, and_right}
use Rattle.record.proofs.SoundLayout.{gcr2-sound}
use Rattle.record.proofs.SlotStored.{slot_said}
use Rattle.record.proofs.WrittenLaws.{slots-more, written}
use Rattle.record.specs.History.{History}
use Rattle.record.specs.Layout.{gcr2, slot_at}
use Rattle.record.specs.Terms.{bare, opening_in, openings_right}
use Rattle.record.specs.Encode.{little_bytes, bits, set_bytes, figure_bytes, opening_bytes, terms_bytes, blocks_for, header_bytes, with_terms, slot_bytes, slot_from, with_slots, sealed, record_bytes, SlotOf}
use Rattle.record.specs.Listed.{member, history_of_events}
use Rattle.consistency.specs.Predicates.{differ}
use Rattle.consistency.specs.Separating.{Separating, no_record, separating, numbered_record, separating_history, separating_bytes}
use Rattle.consistency.proofs.BrokenIff.{differ_same}
use Rattle.consistency.proofs.Separated.{every, every-at}
use Rattle.lattice.specs.Noted.{two_blocks, event_of, events_of}
use Rattle.lattice.specs.declared.records.Event.{Event}
use Rattle.std.specs.List.{range_with_len}
use Rattle.std.proofs.Common.{Bor}
use Rattle.std.proofs.Math.ListN.{get_or-map}
use Rattle.std.proofs.lemmas.List.{length-map, get_or-map as get_or-map-below}
use Rattle.std.proofs.lemmas.List.FromFn.{get_or-map-range_with_len, length-range_with_len}

-- ---- a record's events

-- of a table of slices
pub events-right : (k : ℕ) (x : Bor (List Event)) (table : List (Bor (List Event))) (d : Bor (List Event)) → x ≡ get_or table (k - 1) d
    → map (λ (b : Bor (List Event)). b.now) table ≡ map (λ (r : Separating). events_of (history_of_events r.events)) separating → 1 ≤ k → k ≤ 8
    → x.now ≡ events_of (separating_history k)
unfolding numbered_record
events-right k x table d p q i j =
    ap (λ (b : Bor (List Event)). b.now) p ∙ sym (get_or-map (λ (b : Bor (List Event)). b.now) table (k - 1) d) ∙ ap (λ (t : List (List Event)). get_or t (k - 1) d.now) q
    ∙ get_or-map-below (λ (r : Separating). events_of (history_of_events r.events)) separating (k - 1) no_record d.now (omega arith)

pub events-count : (h : History) → length (events_of h) ≡ h.count
unfolding events_of
events-count h = length-map (range_with_len 0 h.count) (event_of h) ∙ length-range_with_len 0 h.count

pub events-at : (h : History) (e : ℕ) (d : Event) → e < h.count → get_or (events_of h) e d ≡ event_of h e
unfolding events_of
events-at h e d i = get_or-map-range_with_len (event_of h) 0 h.count e e d i (omega arith)

-- ---- how many events

-- one to three events
abbrev is_few : ℕ → Bool
is_few n = leb 1 n && leb n 3

all_few : every 8 (λ k. is_few (separating_history k).count) ≡ true
unfolding search_from lowest some history_of_events numbered_record
all_few = refl

few : (k : ℕ) → 1 ≤ k → k ≤ 8 → is_few (separating_history k).count ≡ true
few = every-at 8 (λ k. is_few (separating_history k).count) all_few

pub few-events : (k : ℕ) → 1 ≤ k → k ≤ 8 → (1 ≤ (separating_history k).count) × ((separating_history k).count ≤ 3)
few-events k i j =
    let n : ℕ = (separating_history k).count in
    (leb-true 1 n (and_left (leb 1 n) (leb n 3) (few k i j)), leb-true n 3 (and_right (leb 1 n) (leb n 3) (few k i j)))

-- ---- what an event sees, as a row of the edition's words

-- a row of one word, and zeros behind it
abbrev pub row_of : ℕ → List ℕ
row_of word = word ∷ replicate (gcr2.row - 1) 0

abbrev seen : ℕ → ℕ → ℕ → Bool
seen k e b = has (row_of (bits 3 ((separating_history k).sees e))) b

abbrev wrong_sight : ℕ → ℕ → Bool
wrong_sight k e = some (64 * gcr2.row) (λ b. differ ((separating_history k).sees e b) (seen k e b))

all_seen : every 8 (λ k. not (some 3 (wrong_sight k))) ≡ true
unfolding search_from lowest some digit bit_of has bits member history_of_events numbered_record
all_seen = refl

sight_right : (k e b : ℕ) → 1 ≤ k → k ≤ 8 → e < 3 → b < 64 * gcr2.row → (separating_history k).sees e b ≡ seen k e b
sight_right k e b i j l m =
    let none : some 3 (wrong_sight k) ≡ false = not-true (some 3 (wrong_sight k)) (every-at 8 (λ k. not (some 3 (wrong_sight k))) all_seen k i j) in
    differ_same ((separating_history k).sees e b) (seen k e b)
    (some-none (64 * gcr2.row) (λ b. differ ((separating_history k).sees e b) (seen k e b)) (some-none 3 (wrong_sight k) none e l) b m)

-- ---- slot by slot

slot_right_lem : (k e : ℕ) → 1 ≤ k → k ≤ 8 → e < 3 → (x : Event) → x ≡ event_of (separating_history k) e → SlotOf (separating_history k) e x.slot (row_of x.sees)
unfolding event_of
slot_right_lem k e i j l x q =
    let p = sym q in
    record {
      is_write = ap (λ (y : Event). y.slot.write) p;
      site = ap (λ (y : Event). y.slot.site) p;
      object = ap (λ (y : Event). y.slot.object) p;
      is_pending = ap (λ (y : Event). y.slot.pending) p;
      is_present = ap (λ (y : Event). y.slot.present) p;
      value = ap (λ (y : Event). y.slot.value) p;
      position = ap (λ (y : Event). y.slot.position) p;
      start = ap (λ (y : Event). y.slot.start) p;
      return = ap (λ (y : Event). y.slot.returned) p;
      sees = λ b m. sight_right k e b i j l m ∙ ap (λ (y : Event). has (row_of y.sees) b) p;
    }

pub slot-put : (k e : ℕ) → 1 ≤ k → k ≤ 8 → e < 3 → (x : Event) → x ≡ event_of (separating_history k) e → (rec₀ rec rec' : List ℕ) (at : ℕ) → at ≡ slot_at gcr2 e
    → rec ≡ with_slots gcr2 (separating_history k) e rec₀ → rec' ≡ sets rec at (slot_from x.slot (row_of x.sees))
    → rec' ≡ with_slots gcr2 (separating_history k) (e + 1) rec₀
slot-put k e i j l x q rec₀ rec rec' at here begun put =
    let h : History = separating_history k in
    let bytes : slot_from x.slot (row_of x.sees) ≡ slot_bytes gcr2 h e = slot_said gcr2 h e x.slot (row_of x.sees) (slot_right_lem k e i j l x q) refl in
    slots-more gcr2 h rec₀ rec rec' e begun (put ∙ ap₂ (λ (p : ℕ) (b : List ℕ). sets rec p b) here bytes)

-- ---- the whole

-- 132 zero bytes say no opening
no_openings_lem : (s : List ℕ) → with_terms gcr2 (record { difference = 0; opening = opening_in (replicate 132 0) 0 }) s ≡ with_terms gcr2 bare s
unfolding with_terms terms_bytes opening_bytes set_bytes figure_bytes little_bytes bits opening_in has_byte bit_of digit little
no_openings_lem s = refl

pub zeros-right : openings_right (replicate 132 0) 0 ≡ true
unfolding openings_right search_from lowest some has_byte bit_of digit little
zeros-right = refl

terms-bare : (k : ℕ) (s : List ℕ) → with_terms gcr2 bare s ≡ with_terms gcr2 (separating_history k).terms s
unfolding history_of_events
terms-bare k s = refl

pub record_written : (k : ℕ) → 1 ≤ k → k ≤ 8 → (n : ℕ) → n ≡ (separating_history k).count → (buffer s₁ s₂ s₃ s₄ s₅ : List ℕ) → length buffer ≡ two_blocks
    → s₁ ≡ replicate two_blocks 0 ++ drop two_blocks buffer → s₂ ≡ sets s₁ 0 (header_bytes gcr2 n 2)
    → s₃ ≡ with_terms gcr2 (record { difference = 0; opening = opening_in (replicate 132 0) 0 }) s₂
    → s₄ ≡ with_slots gcr2 (separating_history k) (separating_history k).count s₃ → s₅ ≡ sealed 2 s₄ → s₅ ≡ separating_bytes k
unfolding separating_bytes
record_written k i j n q buffer s₁ s₂ s₃ s₄ s₅ long e₁ e₂ e₃ e₄ e₅ =
    let h : History = separating_history k in
    let two : 2 ≡ blocks_for gcr2 h.count = omega (arith, (few-events k i j).0, (few-events k i j).1) in
    let whole = written gcr2 gcr2-sound h 2 2 buffer s₁ s₂ s₃ s₄ s₅ two e₁
    (e₂ ∙ ap (λ (m : ℕ). sets s₁ 0 (header_bytes gcr2 m 2)) q) (e₃ ∙ no_openings_lem s₂ ∙ terms-bare k s₂)
    e₄ e₅ in
    let past : drop (512 * blocks_for gcr2 h.count) buffer ≡ [] = drop_of_length-le buffer {i = 512 * blocks_for gcr2 h.count} (omega arith) in
    whole ∙ ap (λ (l : List ℕ). record_bytes gcr2 2 h ++ l) past ∙ append-nil (record_bytes gcr2 2 h)
