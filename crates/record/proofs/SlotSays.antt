-- What a yes to question 7 says of an event: its fields, that they are well formed, and that its slot is their bytes. Assumes nothing.
use mathlib.Core.Path.{◌≡◌, refl, sym, ap, ◌∙◌}
use mathlib.Core.Bool.{Bool, true, cond, ◌&&◌, ◌||◌}
use mathlib.Core.List.{List, ◌∷◌, ◌++◌}
use Prim.Native.Nat.{ℕ, zero, suc, ◌+◌, ◌*◌, ◌<◌, ◌≤◌}
use native.Mathlib.Omega.{arith}
use borrow.Author.Tests.{eq-eqb, ne_eqb, eqb-true, eqb-false, leb-true, ltb-true, lt-ltb}
use lib.Dec.{eqb, ltb, leb}
use lib.ListN.{length, get_or, replicate}
use Rattle.rows.specs.Octets.{little, has_byte}
use Rattle.rows.proofs.Tests.{split, and_left, and_right, or_elim}
use Rattle.rows.proofs.ByteLaws.{little_lt}
use Rattle.record.specs.Layout.{Layout, byte, sites_in, slot_at, zeros}
use Rattle.record.specs.History.{history_of}
use Rattle.record.specs.Slots.{place_right, value_right, times_right, gaps_right, event_right}
use Rattle.record.specs.WellFormed.{WellFormedEvent}
use Rattle.record.specs.Encode.{little_bytes, bit, set_bytes, slot_bytes}
use Rattle.record.proofs.StoresLaws.{Stands, stands_cons, stands-append, zero-at, Bytes}
use Rattle.record.proofs.NumberBytes.{length-little, zeros-byte}
use Rattle.record.proofs.WordBytes.{set_bytes-same, little-read, set-read}

-- the fields of the slot at `at`, as numbers
pub record EventSays (s : List ℕ) (at : ℕ) : Type 0 where
  pub kind : byte s at ≤ 1
  pub site : byte s (at + 1) < sites_in s
  pub state : byte s (at + 3) ≤ 1
  pub present : byte s (at + 8) ≤ 1
  pub absent : byte s (at + 8) ≡ 0 → little 4 s (at + 4) ≡ 0
  pub written : byte s at ≡ 1 → byte s (at + 8) ≡ 1
  pub unread : byte s at ≡ 0 → byte s (at + 3) ≡ 1 → byte s (at + 8) ≡ 0
  pub pending : byte s (at + 3) ≡ 1 → little 8 s (at + 24) ≡ 0
  pub returned : byte s (at + 3) ≡ 0 → little 8 s (at + 16) ≤ little 8 s (at + 24)
  pub nine : byte s (at + 9) ≡ 0
  pub gap : (j : ℕ) → j < 4 → byte s (at + 12 + j) ≡ 0

value-says : (p w d v : ℕ) → cond (eqb p 0) (eqb v 0 && eqb w 0) (eqb p 1 && (eqb w 1 || eqb d 0)) ≡ true
    → (p ≤ 1) × (p ≡ 0 → v ≡ 0) × (w ≡ 1 → p ≡ 1) × (w ≡ 0 → d ≡ 1 → p ≡ 0)
value-says p w d v t =
    split (eqb p 0)
    (λ e.
    let both : eqb v 0 && eqb w 0 ≡ true = rw e at t in
    let none : p ≡ 0 = eqb-true p 0 e in
    let value : v ≡ 0 = eqb-true v 0 (and_left (eqb v 0) (eqb w 0) both) in
    let read : w ≡ 0 = eqb-true w 0 (and_right (eqb v 0) (eqb w 0) both) in
    (omega arith, λ x. value, λ x. omega arith, λ x y. none))
    (λ e.
    let both : eqb p 1 && (eqb w 1 || eqb d 0) ≡ true = rw e at t in
    let one : p ≡ 1 = eqb-true p 1 (and_left (eqb p 1) (eqb w 1 || eqb d 0) both) in
    let or : eqb w 1 || eqb d 0 ≡ true = and_right (eqb p 1) (eqb w 1 || eqb d 0) both in (
      omega arith,
      λ x. absurd (omega arith),
      λ x. one,
      λ x y. or_elim (eqb w 1) (eqb d 0) or
          (λ z. absurd (omega (arith, eqb-true w 1 z))) (λ z. absurd (omega (arith, eqb-true d 0 z))),
    ))

times_say : (d a r : ℕ) → cond (eqb d 1) (eqb r 0) (leb a r) ≡ true → (d ≡ 1 → r ≡ 0) × (d ≡ 0 → a ≤ r)
times_say d a r t =
    (λ x. eqb-true r 0 (rw (eq-eqb d 1 x) at t), λ x. leb-true a r (rw (ne_eqb d 1 (λ y. omega arith)) at t))

module _ (s : List ℕ) (at : ℕ) where
  pub event-says : event_right s at ≡ true → EventSays s at
  unfolding event_right place_right value_right times_right gaps_right
  event-says t =
      let more : Bool = times_right s at && gaps_right s at in
      let rest : value_right s at && more ≡ true = and_right (place_right s at) (value_right s at && more) t in
      let last : more ≡ true = and_right (value_right s at) more rest in
      let placed : place_right s at ≡ true = and_left (place_right s at) (value_right s at && more) t in
      let site : Bool = ltb (byte s (at + 1)) (sites_in s) in
      let state : Bool = leb (byte s (at + 3)) 1 in
      let there : site && state ≡ true = and_right (leb (byte s at) 1) (site && state) placed in
      let value = value-says (byte s (at + 8)) (byte s at) (byte s (at + 3)) (little 4 s (at + 4)) (and_left (value_right s at) more rest) in
      let times = times_say (byte s (at + 3)) (little 8 s (at + 16)) (little 8 s (at + 24)) (and_left (times_right s at) (gaps_right s at) last) in
      let gaps : gaps_right s at ≡ true = and_right (times_right s at) (gaps_right s at) last in
      record {
        kind = leb-true (byte s at) 1 (and_left (leb (byte s at) 1) (site && state) placed);
        site = ltb-true (byte s (at + 1)) (sites_in s) (and_left site state there);
        state = leb-true (byte s (at + 3)) 1 (and_right site state there);
        present = value.0;
        absent = value.1;
        written = value.2;
        unread = value.3;
        pending = times.0;
        returned = times.1;
        nine = eqb-true (byte s (at + 9)) 0 (and_left (eqb (byte s (at + 9)) 0) (zeros 4 s (at + 12)) gaps);
        gap = λ j l. zeros-byte 4 s (at + 12) j (and_right (eqb (byte s (at + 9)) 0) (zeros 4 s (at + 12)) gaps) l;
      }

-- ---- what stands from `at` on, and then what does from `next` on

pub then : (s : List ℕ) (at next : ℕ) (a b : List ℕ) → Stands s at a → next ≡ at + length a → Stands s next b → Stands s at (a ++ b)
then s at next a b f e g = stands-append s at a b (length a) refl f (rw e at g)

pub byte-then : (s : List ℕ) (at next x : ℕ) (l : List ℕ) → get_or s at 0 ≡ x → next ≡ at + 1 → Stands s next l → Stands s at (x ∷ l)
byte-then s at next x l e q g = stands_cons s at x l e (rw q at g)

pub number-then : (s : List ℕ) → Bytes s → (k at next : ℕ) (l : List ℕ) → next ≡ at + k → Stands s next l → Stands s at (little_bytes k (little k s at) ++ l)
number-then s bytes k at next l q g =
    stands-append s at (little_bytes k (little k s at)) l k (length-little k (little k s at)) (little-read s bytes k at) (rw q at g)

-- ---- as a history

-- a byte that is 0 or 1, as a test and back
bit_again : (x : ℕ) → x ≤ 1 → bit (eqb x 1) ≡ x
bit_again zero h = refl
bit_again (suc zero) h = refl
bit_again (suc (suc x)) h = absurd (omega arith)

module _ (L : Layout) (s : List ℕ) (bytes : Bytes s) (e : ℕ) (says : EventSays s (slot_at L e)) where
  abbrev at : ℕ
  at = slot_at L e

  pub event_well_formed : WellFormedEvent (sites_in s) (history_of L s) e
  unfolding history_of
  event_well_formed = record {
    site = says.site;
    object = bytes (at + 2);
    value = omega (arith, little_lt s bytes 4 (at + 4));
    absent = λ t. says.absent (omega (arith, says.present, eqb-false (byte s (at + 8)) 1 t));
    written = λ t. eq-eqb (byte s (at + 8)) 1 (says.written (eqb-true (byte s at) 1 t));
    unread = λ t u. ne_eqb (byte s (at + 8)) 1
        (λ q. omega (arith, says.unread (omega (arith, says.kind, eqb-false (byte s at) 1 t)) (eqb-true (byte s (at + 3)) 1 u)));
    start = omega (arith, little_lt s bytes 8 (at + 16));
    return = omega (arith, little_lt s bytes 8 (at + 24));
    pending = λ t. says.pending (eqb-true (byte s (at + 3)) 1 t);
    returned = λ t. says.returned (omega (arith, says.state, eqb-false (byte s (at + 3)) 1 t));
  }

  -- ---- and as bytes again

  sees_again : Stands s (slot_at L e + 32) (set_bytes (8 * L.row) ((history_of L s).sees e))
  unfolding history_of
  sees_again =
      let k : ℕ = 8 * L.row in
      let f : ℕ → Bool = (history_of L s).sees e in
      rw (set_bytes-same k f (has_byte s (at + 32)) (λ b l. ap (λ (t : Bool). t && has_byte s (at + 32) b) (lt-ltb b (64 * L.row) (omega arith))))
      (set-read s bytes k (at + 32))

  gap_again : Stands s (slot_at L e + 12) (replicate 4 0)
  gap_again j l = says.gap j (omega arith) ∙ sym (zero-at 4 j)

  pub slot_again : Stands s (slot_at L e) (slot_bytes L (history_of L s) e)
  unfolding slot_bytes history_of
  slot_again =
      let sees : List ℕ = set_bytes (8 * L.row) ((history_of L s).sees e) in
      let returns : List ℕ = little_bytes 8 (little 8 s (at + 24)) ++ sees in
      let starts : List ℕ = little_bytes 8 (little 8 s (at + 16)) ++ returns in
      let place : List ℕ = little_bytes 2 (little 2 s (at + 10)) ++ (replicate 4 0 ++ starts) in
      let shown : List ℕ = bit (eqb (byte s (at + 8)) 1) ∷ 0 ∷ place in
      let value : List ℕ = little_bytes 4 (little 4 s (at + 4)) ++ shown in
      let object : List ℕ = byte s (at + 2) ∷ bit (eqb (byte s (at + 3)) 1) ∷ value in
      byte-then s at (at + 1) (bit (eqb (byte s at) 1)) (byte s (at + 1) ∷ object) (sym (bit_again (byte s at) says.kind)) (omega arith)
      (byte-then s (at + 1) (at + 2) (byte s (at + 1)) object refl (omega arith)
      (byte-then s (at + 2) (at + 3) (byte s (at + 2)) (bit (eqb (byte s (at + 3)) 1) ∷ value) refl (omega arith)
      (byte-then s (at + 3) (at + 4) (bit (eqb (byte s (at + 3)) 1)) value (sym (bit_again (byte s (at + 3)) says.state)) (omega arith)
      (number-then s bytes 4 (at + 4) (at + 8) shown (omega arith)
      (byte-then s (at + 8) (at + 9) (bit (eqb (byte s (at + 8)) 1)) (0 ∷ place) (sym (bit_again (byte s (at + 8)) says.present)) (omega arith)
      (byte-then s (at + 9) (at + 10) 0 place says.nine (omega arith)
      (number-then s bytes 2 (at + 10) (at + 12) (replicate 4 0 ++ starts) (omega arith)
      (then s (at + 12) (at + 16) (replicate 4 0) starts gap_again (omega arith)
      (number-then s bytes 8 (at + 16) (at + 24) returns (omega arith)
      (number-then s bytes 8 (at + 24) (at + 32) sees (omega arith) sees_again))))))))))
