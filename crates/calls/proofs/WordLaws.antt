-- Words of events and cells: what one has that is put together, and the larger of two. Assumes nothing.
use mathlib.Core.Path.{◌≡◌, refl, sym, ap, ap₂, ◌∙◌}
use mathlib.Core.Bool.{Bool, true, false, not, cond}
use Prim.Native.Nat.{ℕ, suc, ◌+◌, ◌*◌, ◌/◌, ◌%◌, ◌^◌, ◌≤◌, ◌<◌, max}
use native.Mathlib.Omega.{arith}
use lib.Dec.{eqb}
use borrow.Author.Tests.{eq-eqb, ne_eqb, eqb-true, eqb-false}
use Rattle.std.specs.Bool.{then_some}
use Rattle.std.specs.Prelude.{Option}
use Rattle.rows.proofs.Tests.{split}
use Rattle.record.specs.Terms.{value}
use Rattle.store.specs.Store.{full, cell_value, before, merge}
use Rattle.store.proofs.Invariant.{before_key, not-before_key}
use Rattle.calls.specs.Mirror.{held_of, shown_of, shown_bits, word_value, word_object, word_site, word_stamp, word_shown, cell_of}

last_bit : (h y d : ℕ) → d ≡ 2 * h + y → d % 2 ≡ y % 2
last_bit h y d e = omega arith

-- ---- an event's word

module _ (clock s o x : ℕ) (site : s < 8) (object : o ≤ 31) (low : x < 2 ^ 33) (word : ℕ) (made : word ≡ (8 * (clock + 1) + s) * 2 ^ 40 + (o * 2 ^ 33 + x)) where
  pub word_stamp_lem : word_stamp word ≡ suc clock
  word_stamp_lem = omega arith

  pub word_site_lem : word_site word ≡ s
  word_site_lem = omega arith

  pub word_object_lem : word_object word ≡ o
  word_object_lem = omega arith

  pub word_shown_lem : word_shown word ≡ word_shown x
  word_shown_lem =
      let v : word_value word ≡ word_value x = omega arith in
      let high : ℕ = (8 * (clock + 1) + s) * 128 + o in
      let bits : word / 2 ^ 32 ≡ 2 * high + x / 2 ^ 32 = omega arith in
      let p : word / 2 ^ 32 % 2 ≡ x / 2 ^ 32 % 2 = last_bit high (x / 2 ^ 32) (word / 2 ^ 32) bits in
      ap₂ (λ (b v : ℕ). shown_of (eqb b 1) v) p v

-- a value with its bit
pub shown-bit : (v : ℕ) → v < 2 ^ 32 → word_shown (2 ^ 32 + v) ≡ value v
shown-bit v l =
    let p : (2 ^ 32 + v) / 2 ^ 32 % 2 ≡ 1 = omega arith in
    let low : (2 ^ 32 + v) % 2 ^ 32 ≡ v = omega arith in
    rw (eq-eqb _ _ p) (ap value low)

-- ---- cells

-- a cell that a put came to
pub full-cell : (x : ℕ) → 1 ≤ word_stamp x → cell_of x ≡ full (word_value x) (word_stamp x) (word_site x)
full-cell x l = rw (ne_eqb (word_stamp x) 0 (λ q. omega arith)) refl

pub cell_value_lem : (x : ℕ) → cell_value (cell_of x) ≡ shown_of (not (eqb x 0)) (word_value x)
cell_value_lem x =
    split (eqb (word_stamp x) 0) (λ t. rw t refl)
    (λ t. let some : word_stamp x ≡ 0 → ⊥ = eqb-false (word_stamp x) 0 t in rw (t, ne_eqb x 0 (λ q. some (ap word_stamp q))) refl)

-- what a get finds in a cell
pub record Finds (x : ℕ) (found : Option ℕ) : Type 0 where
  pub held : held_of found ≡ cell_value (cell_of x)
  pub shown : word_shown (shown_bits found) ≡ held_of found
  pub low : shown_bits found < 2 ^ 33

pub finds : (x : ℕ) → Finds x (then_some (not (eqb x 0)) (word_value x))
finds x =
    split (eqb x 0)
    (λ t. rw t (record { held = sym (cell_value_lem x ∙ rw t refl); shown = refl; low = omega arith }))
    (λ t. rw t (record { held = sym (cell_value_lem x ∙ rw t refl); shown = shown-bit (word_value x) (omega arith); low = omega arith }))

-- the later put's word is the larger
pub merged : (x w : ℕ) → 1 ≤ word_stamp w → (word_stamp x ≡ word_stamp w → word_site x ≡ word_site w → ⊥)
    → cell_of (max x w) ≡ merge (cell_of x) (word_value w) (word_stamp w) (word_site w)
merged x w stamped apart =
    split (eqb (word_stamp x) 0)
    (λ t.
    let none : word_stamp x ≡ 0 = eqb-true (word_stamp x) 0 t in
    let new : max x w ≡ w = omega arith in
    rw (new, t) (full-cell w stamped))
    (λ t.
    let some : word_stamp x ≡ 0 → ⊥ = eqb-false (word_stamp x) 0 t in
    rw t (go (before (word_stamp x) (word_site x) (word_stamp w) (word_site w)) refl some))
  where
    go : (b : Bool) → before (word_stamp x) (word_site x) (word_stamp w) (word_site w) ≡ b → (word_stamp x ≡ 0 → ⊥)
        → cell_of (max x w) ≡ cond b (full (word_value w) (word_stamp w) (word_site w)) (full (word_value x) (word_stamp x) (word_site x))
    go true e some =
        let new : max x w ≡ w = omega (arith, before_key (word_stamp x) (word_site x) (word_stamp w) (word_site w) (omega arith) e) in
        rw new (full-cell w stamped)
    go false e some =
        let least = not-before_key (word_stamp x) (word_site x) (word_stamp w) (word_site w) (omega arith) e in
        let stamps : word_stamp w ≤ word_stamp x = omega arith in
        let old : max x w ≡ x = split (eqb (word_stamp x) (word_stamp w))
        (λ p.
        let same : word_stamp x ≡ word_stamp w = eqb-true (word_stamp x) (word_stamp w) p in
        let other : word_site x ≡ word_site w → ⊥ = apart same in
        omega arith)
        (λ p. let other : word_stamp x ≡ word_stamp w → ⊥ = eqb-false (word_stamp x) (word_stamp w) p in omega arith) in
        rw old (full-cell x (omega arith))
