-- Laws of one slot: where its bytes stand, its fields are found again, and they are as laid out. Assumes nothing.
use mathlib.Core.Path.{◌≡◌, refl, ◌∙◌, subst}
use mathlib.Core.Bool.{Bool, true, false, cond, ◌&&◌, ◌||◌, true≢false, false≢true}
use mathlib.Core.List.{List, ◌∷◌, ◌++◌}
use Prim.Native.Nat.{ℕ, ◌+◌, ◌*◌, ◌^◌, ◌<◌, ◌≤◌}
use native.Mathlib.Omega.{arith}
use lib.Dec.{eqb, ltb, leb}
use lib.ListN.{length, get_or, take, drop, replicate}
use borrow.Author.Tests.{eq-eqb, lt-ltb, le-leb}
use Rattle.rows.specs.Octets.{little, has_byte}
use Rattle.rows.proofs.Tests.{and_both}
use Rattle.record.specs.Layout.{Layout, byte, sites_in, zeros}
use Rattle.record.specs.History.{History}
use Rattle.record.specs.Slots.{place_right, value_right, times_right, gaps_right, event_right}
use Rattle.record.specs.WellFormed.{WellFormedEvent}
use Rattle.record.specs.Encode.{little_bytes, bit, set_bytes, slot_bytes}
use Rattle.record.proofs.StoresLaws.{Stands, stands_head, stands-front, stands-back, zero-at, Bytes, bytes_cons, bytes_append, bytes_zero}
use Rattle.record.proofs.NumberBytes.{little-stands, zeros_stand, bit_le, length-set_bytes, bytes_set_bytes, bytes_little, set-stands}

-- the fields of event e of h, in s from `at` on, with w words of a visible set
pub record Laid (w : ℕ) (s : List ℕ) (at : ℕ) (h : History) (e : ℕ) : Type 0 where
  pub kind : byte s at ≡ bit (h.is_write e)
  pub site : byte s (at + 1) ≡ h.site e
  pub object : byte s (at + 2) ≡ h.object e
  pub state : byte s (at + 3) ≡ bit (h.is_pending e)
  pub value : little 4 s (at + 4) ≡ h.value e
  pub present : byte s (at + 8) ≡ bit (h.is_present e)
  pub nine : byte s (at + 9) ≡ 0
  pub position : little 2 s (at + 10) ≡ h.position e
  pub gap : zeros 4 s (at + 12) ≡ true
  pub start : little 8 s (at + 16) ≡ h.start e
  pub return : little 8 s (at + 24) ≡ h.return e
  pub sees : (b : ℕ) → b < 64 * w → has_byte s (at + 32) b ≡ h.sees e b

pub length-slot : (L : Layout) (h : History) (e : ℕ) → length (slot_bytes L h e) ≡ 32 + 8 * L.row
unfolding slot_bytes little_bytes
length-slot L h e = omega (arith, length-set_bytes (8 * L.row) (h.sees e))

-- a number whose k bytes stand at offset `off` of what stands at `at`
number_at : (s : List ℕ) (at : ℕ) (l : List ℕ) (off k x : ℕ) → Stands s at l → x < 256 ^ k
    → l ≡ take off l ++ (little_bytes k x ++ drop (off + k) l) → length (take off l) ≡ off → little k s (at + off) ≡ x
number_at s at l off k x st h e len =
    little-stands k x s (at + off) h
    (stands-front s (at + off) (little_bytes k x) (drop (off + k) l)
    (stands-back s at (take off l) (little_bytes k x ++ drop (off + k) l) off len (subst (λ (m : List ℕ). Stands s at m) e st)))

module _ (L : Layout) (h : History) (e : ℕ) (s : List ℕ) (at : ℕ) (st : Stands s at (slot_bytes L h e)) where
  byte_at : (off : ℕ) → off < 32 → byte s (at + off) ≡ get_or (slot_bytes L h e) off 0
  byte_at off l = st off (omega (arith, length-slot L h e))

  sees-at : (b : ℕ) → b < 64 * L.row → has_byte s (at + 32) b ≡ h.sees e b
  unfolding slot_bytes little_bytes
  sees-at b l =
      set-stands (8 * L.row) (h.sees e) s (at + 32) b (omega arith)
      (stands-back s at (take 32 (slot_bytes L h e)) (set_bytes (8 * L.row) (h.sees e)) 32 refl st)

  gap_at : zeros 4 s (at + 12) ≡ true
  unfolding slot_bytes little_bytes
  gap_at =
      zeros_stand 4 s (at + 12)
      (λ j l. stands-front s (at + 12) (replicate 4 0) (drop 16 (slot_bytes L h e))
      (stands-back s at (take 12 (slot_bytes L h e)) (drop 12 (slot_bytes L h e)) 12 refl st) j l
      ∙ zero-at 4 j)

  pub slot_laid : (sites : ℕ) → WellFormedEvent sites h e → h.position e < 256 ^ 2 → Laid L.row s at h e
  unfolding slot_bytes little_bytes
  slot_laid sites ok pos =
      let l : List ℕ = slot_bytes L h e in
      record {
        kind = stands_head s at (bit (h.is_write e)) (drop 1 l) st;
        site = byte_at 1 (omega arith);
        object = byte_at 2 (omega arith);
        state = byte_at 3 (omega arith);
        value = number_at s at l 4 4 (h.value e) st (omega (arith, ok.value)) refl refl;
        present = byte_at 8 (omega arith);
        nine = byte_at 9 (omega arith);
        position = number_at s at l 10 2 (h.position e) st pos refl refl;
        gap = gap_at;
        start = number_at s at l 16 8 (h.start e) st (omega (arith, ok.start)) refl refl;
        return = number_at s at l 24 8 (h.return e) st (omega (arith, ok.return)) refl refl;
        sees = sees-at;
      }

-- ---- question 7, of one event

value_right_lem : (p w d : Bool) (v : ℕ) → (p ≡ false → v ≡ 0) → (w ≡ true → p ≡ true) → (w ≡ false → d ≡ true → p ≡ false)
    → cond (eqb (bit p) 0) (eqb v 0 && eqb (bit w) 0) (eqb (bit p) 1 && (eqb (bit w) 1 || eqb (bit d) 0)) ≡ true
value_right_lem false true d v absent written unread = absurd (false≢true (written refl))
value_right_lem false false d v absent written unread = and_both (eqb v 0) true (eq-eqb v 0 (absent refl)) refl
value_right_lem true true d v absent written unread = refl
value_right_lem true false true v absent written unread = absurd (true≢false (unread refl refl))
value_right_lem true false false v absent written unread = refl

times_right_lem : (d : Bool) (a r : ℕ) → (d ≡ true → r ≡ 0) → (d ≡ false → a ≤ r) → cond (eqb (bit d) 1) (eqb r 0) (leb a r) ≡ true
times_right_lem true a r pending returned = eq-eqb r 0 (pending refl)
times_right_lem false a r pending returned = le-leb a r (returned refl)

module _ (w sites : ℕ) (s : List ℕ) (at : ℕ) (h : History) (e : ℕ) (ok : WellFormedEvent sites h e) (l : Laid w s at h e) (known : sites_in s ≡ sites) where
  place_laid : place_right s at ≡ true
  unfolding place_right
  place_laid =
      rw (l.kind, l.site, l.state, known)
      (and_both (leb (bit (h.is_write e)) 1) (ltb (h.site e) sites && leb (bit (h.is_pending e)) 1)
      (le-leb (bit (h.is_write e)) 1 (bit_le (h.is_write e)))
      (and_both (ltb (h.site e) sites) (leb (bit (h.is_pending e)) 1)
      (lt-ltb (h.site e) sites ok.site)
      (le-leb (bit (h.is_pending e)) 1 (bit_le (h.is_pending e)))))

  value_laid : value_right s at ≡ true
  unfolding value_right
  value_laid =
      rw (l.present, l.value, l.kind, l.state)
      (value_right_lem (h.is_present e) (h.is_write e) (h.is_pending e) (h.value e) ok.absent ok.written ok.unread)

  times_laid : times_right s at ≡ true
  unfolding times_right
  times_laid = rw (l.state, l.return, l.start) (times_right_lem (h.is_pending e) (h.start e) (h.return e) ok.pending ok.returned)

  gaps_laid : gaps_right s at ≡ true
  unfolding gaps_right
  gaps_laid = and_both (eqb (byte s (at + 9)) 0) (zeros 4 s (at + 12)) (eq-eqb (byte s (at + 9)) 0 l.nine) l.gap

  pub event_laid : event_right s at ≡ true
  unfolding event_right
  event_laid =
      and_both (place_right s at) (value_right s at && (times_right s at && gaps_right s at)) place_laid
      (and_both (value_right s at) (times_right s at && gaps_right s at) value_laid
      (and_both (times_right s at) (gaps_right s at) times_laid gaps_laid))

-- ---- its bytes are bytes

bit_byte : (t : Bool) → bit t < 256
bit_byte t = omega (arith, bit_le t)

pub bytes_slot : (L : Layout) (sites : ℕ) (h : History) (e : ℕ) → sites ≤ 256 → WellFormedEvent sites h e → Bytes (slot_bytes L h e)
unfolding slot_bytes
bytes_slot L sites h e most ok =
    let sees : List ℕ = set_bytes (8 * L.row) (h.sees e) in
    let times : List ℕ = little_bytes 8 (h.start e) ++ (little_bytes 8 (h.return e) ++ sees) in
    let place : List ℕ = little_bytes 2 (h.position e) ++ (replicate 4 0 ++ times) in
    let value : List ℕ = little_bytes 4 (h.value e) ++ (bit (h.is_present e) ∷ 0 ∷ place) in
    let times-b : Bytes times =
    bytes_append (little_bytes 8 (h.start e)) (little_bytes 8 (h.return e) ++ sees) (bytes_little 8 (h.start e))
    (bytes_append (little_bytes 8 (h.return e)) sees (bytes_little 8 (h.return e)) (bytes_set_bytes (8 * L.row) (h.sees e))) in
    let place-b : Bytes place =
    bytes_append (little_bytes 2 (h.position e)) (replicate 4 0 ++ times) (bytes_little 2 (h.position e))
    (bytes_append (replicate 4 0) times (bytes_zero 4) times-b) in
    let value-b : Bytes value =
    bytes_append (little_bytes 4 (h.value e)) (bit (h.is_present e) ∷ 0 ∷ place) (bytes_little 4 (h.value e))
    (bytes_cons (bit (h.is_present e)) (0 ∷ place) (bit_byte (h.is_present e)) (bytes_cons 0 place (omega arith) place-b)) in
    bytes_cons (bit (h.is_write e)) (h.site e ∷ h.object e ∷ bit (h.is_pending e) ∷ value) (bit_byte (h.is_write e))
    (bytes_cons (h.site e) (h.object e ∷ bit (h.is_pending e) ∷ value) (omega (arith, ok.site))
    (bytes_cons (h.object e) (bit (h.is_pending e) ∷ value) ok.object
    (bytes_cons (bit (h.is_pending e)) value (bit_byte (h.is_pending e)) value-b)))
