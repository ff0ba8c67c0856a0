-- What a record says is well formed where it passes every check; where it passes all but question 8, it is in any arbitration. Assumes nothing.
use mathlib.Core.Path.{◌≡◌, refl, ap}
use mathlib.Core.Bool.{Bool, true, cond, ◌&&◌}
use mathlib.Core.List.{List}
use Prim.Native.Nat.{ℕ, ◌<◌, ◌≤◌}
use native.Mathlib.Omega.{arith}
use borrow.Author.Tests.{leb-true}
use lib.Dec.{leb}
use lib.ListN.{take}
use Rattle.std.specs.Prelude.{Err}
use Rattle.rows.specs.Octets.{little}
use Rattle.rows.proofs.Tests.{split, never, and_left, and_right}
use Rattle.rows.proofs.ByteLaws.{little_lt}
use Rattle.record.specs.declared.Refusal.TheVariants.{WrongPosition}
use Rattle.record.specs.Layout.{Layout, count_in, sites_in, same}
use Rattle.record.specs.Terms.{none, opening_in}
use Rattle.record.specs.History.{History, history_of, vis}
use Rattle.record.specs.Questions.{terms_right, header_right, on_ring}
use Rattle.record.specs.Answers.{SetsRight, RingsRight, BytesRight, Passes, Tells}
use Rattle.record.specs.LaidOut.{LaidOut}
use Rattle.record.specs.WellFormed.{WellFormedEvent, WellFormedTerms, WellFormed}
use Rattle.record.specs.Positioned.{Arbitration, positioned}
use Rattle.record.proofs.StoresLaws.{Bytes}
use Rattle.record.proofs.OpeningLaws.{opening-above, opening-small}
use Rattle.record.proofs.SoundLayout.{Sound}
use Rattle.record.proofs.PositionLaws.{position-says, positions-distinct}
use Rattle.record.proofs.SetLaws.{set-inside}
use Rattle.record.proofs.QuestionLaws.{header-says, sites_say}
use Rattle.record.proofs.SlotWords.{vis-within}
use Rattle.record.proofs.SlotSays.{event_well_formed}
use Rattle.record.proofs.SaidAgain.{event_said}

-- 3 to 8 get a yes: so do 3 to 7, and the positions are an arbitration
module _ (L : Layout) (s : List ℕ) (right : BytesRight L s) where
  pub laid_out : LaidOut L s
  laid_out = record { length = right.length; checks = right.checks; header = right.header; blocks = right.blocks; slots = right.slots }

  pub arbitrated : Arbitration (count_in s) (history_of L s).position
  unfolding history_of
  arbitrated = record {
    below = λ e l. (position-says (history_of L s) e (right.positions e l)).0;
    distinct = positions-distinct (history_of L s) right.positions;
  }

-- so do 3 to 7 where 8 is the first that gets a no, as in a record that logs no order
pub laid_out_at : (L : Layout) (s : List ℕ) (e : ℕ) → Tells L s (Err (WrongPosition e)) → LaidOut L s
laid_out_at L s e a = record { length = a.0; checks = a.1; header = a.2; blocks = a.3; slots = a.4 }

-- ---- terms that were read

module _ (L : Layout) (s : List ℕ) (bytes : Bytes s) where
  terms_well_formed : WellFormedTerms L (history_of L s).terms
  unfolding history_of
  terms_well_formed = record {
    even = λ e. ap (λ (b : Bool). cond b (little 4 s 8) 0) e;
    difference = split L.terms (λ e. rw e (omega (arith, little_lt s bytes 4 8))) (λ e. rw e (omega arith));
    lacking = λ e o. ap (λ (b : Bool). cond b (opening_in s 12 o) none) e;
    above = λ o l. split L.terms (λ e. rw e (opening-above s 12 o l)) (λ e. rw e);
    value = λ o. split L.terms (λ e. rw e (opening-small s bytes 12 o)) (λ e. rw e (omega arith));
  }

-- ---- an event's fields say nothing of its position

event_elsewhere : (f : ℕ → ℕ) (sites : ℕ) (h : History) (e : ℕ) → WellFormedEvent sites h e → WellFormedEvent sites (positioned f h) e
event_elsewhere f sites h e good = record {
  site = good.site;
  object = good.object;
  value = good.value;
  absent = good.absent;
  written = good.written;
  unread = good.unread;
  start = good.start;
  return = good.return;
  pending = good.pending;
  returned = good.returned;
}

-- ---- questions 3 to 7, 9 and 10

module _ (L : Layout) (ok : Sound L) (s : List ℕ) (bytes : Bytes s) (right : LaidOut L s) where
  least_say : 1 ≤ sites_in s
  unfolding header_right
  least_say =
      let tail : Bool = leb (sites_in s) 8 && terms_right L s in
      let rest : Bool = leb 1 (sites_in s) && tail in
      leb-true 1 (sites_in s)
      (and_left (leb 1 (sites_in s)) tail
      (and_right (leb (count_in s) L.events) rest (and_right (same (take 4 s) L.letters) (leb (count_in s) L.events && rest) right.header)))

  pub said_event : (e : ℕ) → e < count_in s → WellFormedEvent (sites_in s) (history_of L s) e
  said_event e l = event_well_formed L s bytes e (event_said L ok s bytes right e l)

  module _ (sets : SetsRight L (count_in s) (vis (history_of L s))) (rings : RingsRight (count_in s) (vis (history_of L s))) where
    inside : (e b : ℕ) → e < count_in s → (history_of L s).sees e b ≡ true → (b < count_in s) × (b ≡ e → ⊥)
    unfolding vis
    inside e b l t = set-inside L.row (count_in s) (vis (history_of L s)) e (sets e l) b (vis-within L s b e t) t

    -- in any arbitration
    pub well_formed_in : (f : ℕ → ℕ) → Arbitration (count_in s) f → WellFormed L (sites_in s) (positioned f (history_of L s))
    unfolding history_of vis on_ring
    well_formed_in f places = record {
      least = least_say;
      most = sites_say L s right.header;
      count = header-says L s right.header;
      terms = terms_well_formed L s bytes;
      event = λ e l. event_elsewhere f (sites_in s) (history_of L s) e (said_event e l);
      position = places.below;
      distinct = places.distinct;
      inside = λ e b l t. (inside e b l t).0;
      not_itself = λ e l. never ((history_of L s).sees e e) (λ t. (inside e e l t).1 refl);
      ringless = rings;
    }

-- ---- all of them

pub passes_well_formed : (L : Layout) → Sound L → (s : List ℕ) → Bytes s → Passes L s → WellFormed L (sites_in s) (history_of L s)
passes_well_formed L ok s bytes right =
    well_formed_in L ok s bytes (laid_out L s right.bytes) right.sets right.rings (history_of L s).position (arbitrated L s right.bytes)
