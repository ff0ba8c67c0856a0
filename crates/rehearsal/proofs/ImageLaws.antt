-- The record of a run, written in place: slot after slot, and then the whole. Assumes nothing.
use mathlib.Core.Path.{◌≡◌, refl, ap, ap₂, ◌∙◌}
use mathlib.Core.Bool.{Bool, true, false}
use mathlib.Core.List.{List, ◌++◌}
use Prim.Native.Nat.{ℕ, ◌+◌, ◌*◌, ◌<◌}
use native.Mathlib.Omega.{arith}
use lib.ListN.{length, get_or, drop, replicate}
use lib.Seq.{sets}
use borrow.Author.Tests.{lt-ltb}
use Rattle.rows.specs.Row.{has}
use Rattle.record.specs.Layout.{store_layout, slot_at}
use Rattle.record.specs.Terms.{is_value, value_or0, Terms}
use Rattle.record.specs.History.{under}
use Rattle.record.specs.Encode.{slot_bytes, blocks_for, header_bytes, with_terms, with_slots, slot_from, sealed, SlotOf}
use Rattle.record.specs.declared.Slot.{Slot}
use Rattle.record.proofs.SoundLayout.{store-sound}
use Rattle.record.proofs.SlotStored.{slot_said}
use Rattle.record.proofs.WrittenLaws.{slots_same, slots-none, slots-more, written}
use Rattle.store.specs.Store.{Event, Store}
use Rattle.store.specs.Recorded.{rank, recorded, store_record}
use Rattle.calls.specs.Mirror.{shown_of, word_present, word_value}
use Rattle.calls.specs.Lent.{Lent, row_in, event_in, store_in}
use Rattle.calls.proofs.LentLaws.{store-count, event_at_lem}
use Rattle.rehearsal.specs.Runs.{Worded, rank_in, slot_for}

-- ---- slots

value-present : (t : Bool) (v : ℕ) → is_value (shown_of t v) ≡ t
value-present true v = refl
value-present false v = refl

-- the events of a store have the stamps and sites of their words
pub events_worded : (t : Terms) (z : Lent) → Worded (store_in t z).event z.count z.events
events_worded t z e l =
    let at = event_at_lem t z e l in
    (omega (arith, ap (λ (x : Event). x.stamp) at, ap (λ (x : Event). x.site) at), omega (arith, ap (λ (x : Event). x.site) at))

-- the slot of event k
pub slot_of : (t : Terms) (z : Lent) (k : ℕ) → k < z.count
    → SlotOf (recorded (store_in t z)) k (slot_for k (get_or z.events k 0) (has z.puts k) (rank_in (store_in t z).event z.count k)) (row_in z.sees k)
unfolding recorded
slot_of t z k l =
    let at : (store_in t z).event k ≡ event_in z k = event_at_lem t z k l in
    let word : ℕ = get_or z.events k 0 in
    record {
      is_write = ap (λ (x : Event). x.is_put) at;
      site = ap (λ (x : Event). x.site) at;
      object = ap (λ (x : Event). x.object) at;
      is_pending = refl;
      is_present = ap (λ (x : Event). is_value x.shown) at ∙ value-present (word_present word) (word_value word);
      value = ap (λ (x : Event). value_or0 x.shown) at;
      position = rw (lt-ltb k z.count l) (ap (λ (m : ℕ). rank (store_in t z).event m k) (store-count t z));
      start = refl;
      return = refl;
      sees = λ b m. ap (λ (x : Event). x.sees b) at;
    }

-- the first k slots are written
pub record Slotted (st : Store) (rec₀ rec : List ℕ) (k : ℕ) : Type 0 where
  pub long : length rec ≡ length rec₀
  pub written : rec ≡ with_slots store_layout (recorded st) k rec₀

pub slotted_none : (st : Store) (rec₀ : List ℕ) → Slotted st rec₀ rec₀ 0
slotted_none st rec₀ = record { long = refl; written = slots-none store_layout (recorded st) rec₀ }

pub slotted_more : (t : Terms) (z : Lent) (rec₀ rec rec' : List ℕ) (k : ℕ) → k < z.count → Slotted (store_in t z) rec₀ rec k
    → (position : ℕ) → position ≡ rank_in (store_in t z).event z.count k → (put : Bool) → put ≡ has z.puts k
    → (row : List ℕ) → row ≡ row_in z.sees k → length row ≡ store_layout.row → (x : Slot) → x ≡ slot_for k (get_or z.events k 0) put position → length rec' ≡ length rec
    → (at : ℕ) → at ≡ slot_at store_layout k → rec' ≡ sets rec at (slot_from x row)
    → Slotted (store_in t z) rec₀ rec' (k + 1)
slotted_more t z rec₀ rec rec' k next s position placed put told row seen wide x slot long at here wrote =
    let st : Store = store_in t z in
    let right : SlotOf (recorded st) k x row = rw (slot, placed, told, seen) (slot_of t z k next) in record {
      long = long ∙ s.long;
      written = slots-more store_layout (recorded st) rec₀ rec rec' k s.written (wrote ∙ ap₂ (λ (p : ℕ) (b : List ℕ). sets rec p b) here (slot_said store_layout (recorded st) k x row right wide));
    }

-- ---- the whole: slots tell no terms, so those of the events alone are the record's

image_written : (n : ℕ) (t : Terms) (st : Store) (k : ℕ) (buffer s₁ s₂ s₃ s₄ s₅ : List ℕ) → k ≡ blocks_for store_layout st.count
    → s₁ ≡ replicate (512 * k) 0 ++ drop (512 * k) buffer → s₂ ≡ sets s₁ 0 (header_bytes store_layout st.count n) → s₃ ≡ with_terms store_layout t s₂
    → s₄ ≡ with_slots store_layout (recorded st) st.count s₃ → s₅ ≡ sealed k s₄
    → s₅ ≡ store_record store_layout n t st ++ drop (512 * blocks_for store_layout st.count) buffer
unfolding store_record recorded slot_bytes
image_written n t st k buffer s₁ s₂ s₃ s₄ s₅ e₀ e₁ e₂ e₃ e₄ e₅ =
    written store_layout store-sound (under t (recorded st)) n k buffer s₁ s₂ s₃ s₄ s₅ e₀ e₁ e₂ e₃
    (e₄ ∙ slots_same store_layout (recorded st) (under t (recorded st)) st.count (λ e l. refl) s₃) e₅

-- of the arrays of a store
pub record_written : (n : ℕ) (terms t : Terms) (z : Lent) (k : ℕ) (buffer s₁ s₂ s₃ s₄ s₅ : List ℕ) → k ≡ blocks_for store_layout z.count
    → s₁ ≡ replicate (512 * k) 0 ++ drop (512 * k) buffer → s₂ ≡ sets s₁ 0 (header_bytes store_layout z.count n) → s₃ ≡ with_terms store_layout terms s₂
    → s₄ ≡ with_slots store_layout (recorded (store_in t z)) z.count s₃ → s₅ ≡ sealed k s₄
    → s₅ ≡ store_record store_layout n terms (store_in t z) ++ drop (512 * blocks_for store_layout z.count) buffer
unfolding store_in
record_written n terms t z = image_written n terms (store_in t z)
