-- A store's record tells of its first events alone: stores that have the same count and the same events below it leave the same record. Assumes nothing.
use mathlib.Core.Path.{◌≡◌, refl, sym, ap, ap₂, ◌∙◌}
use mathlib.Core.Bool.{false}
use mathlib.Core.List.{List}
use Prim.Native.Nat.{ℕ, ◌+◌, ◌*◌, ◌<◌}
use lib.ListN.{replicate}
use lib.Seq.{sets}
use Rattle.rows.proofs.CountLaws.{many_same}
use Rattle.record.specs.Layout.{Layout}
use Rattle.record.specs.Terms.{is_value, value_or0, Terms, bare}
use Rattle.record.specs.History.{History, under}
use Rattle.record.specs.Encode.{slot_bytes, blocks_for, header_bytes, with_terms, with_slots, sealed, unsealed, record_bytes}
use Rattle.record.proofs.WrittenLaws.{slots_same}
use Rattle.store.specs.Store.{Event, Store}
use Rattle.store.specs.Recorded.{rank, recorded, store_record}
use Rattle.store.proofs.RankLaws.{precedes}

pub rank_same : (events others : ℕ → Event) (k e : ℕ) → ((i : ℕ) → i < k → events i ≡ others i) → events e ≡ others e → rank events k e ≡ rank others k e
unfolding rank
rank_same events others k e h q =
    many_same k (λ i. precedes (events i) (events e)) (λ i. precedes (others i) (others e)) (λ i l. ap₂ precedes (h i l) q)

-- a history of which a slot tells no more than one event and its position
abbrev told : Event → ℕ → History
told x position = record {
  count = 0;
  is_write = λ e. x.is_put;
  site = λ e. x.site;
  object = λ e. x.object;
  is_pending = λ e. false;
  is_present = λ e. is_value x.shown;
  value = λ e. value_or0 x.shown;
  position = λ e. position;
  start = λ e. 2 * e;
  return = λ e. 2 * e + 1;
  sees = λ e b. x.sees b;
  terms = bare;
}

module _ (L : Layout) (T : Terms) where
  abbrev history : Store → History
  history st = under T (recorded st)

  slot-told : (st : Store) (e : ℕ) → slot_bytes L (history st) e ≡ slot_bytes L (told (st.event e) (rank st.event st.count e)) e
  unfolding recorded slot_bytes
  slot-told st e = refl

  begun : ℕ → ℕ → List ℕ
  begun n k = with_terms L T (sets (replicate (512 * blocks_for L k) 0) 0 (header_bytes L k n))

  record_told : (n : ℕ) (st : Store) → store_record L n T st ≡ sealed (blocks_for L st.count) (with_slots L (history st) st.count (begun n st.count))
  unfolding store_record record_bytes unsealed recorded begun
  record_told n st = refl

  module _ (a b : Store) (count : a.count ≡ b.count) (event : (e : ℕ) → e < a.count → a.event e ≡ b.event e) where
    slot_same : (e : ℕ) → e < a.count → slot_bytes L (history a) e ≡ slot_bytes L (history b) e
    slot_same e l =
        slot-told a e
        ∙ ap₂ (λ (x : Event) (p : ℕ). slot_bytes L (told x p) e) (event e l)
        (rank_same a.event b.event a.count e event (event e l) ∙ ap (λ (k : ℕ). rank b.event k e) count)
        ∙ sym (slot-told b e)

    pub record_same : (n : ℕ) → store_record L n T a ≡ store_record L n T b
    record_same n =
        record_told n a
        ∙ ap (sealed (blocks_for L a.count)) (slots_same L (history a) (history b) a.count slot_same (begun n a.count))
        ∙ ap (λ (k : ℕ). sealed (blocks_for L k) (with_slots L (history b) k (begun n k))) count
        ∙ sym (record_told n b)
