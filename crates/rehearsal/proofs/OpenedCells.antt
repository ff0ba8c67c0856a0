-- The cells that a rehearsal starts with: an object's opening, where it has one. Assumes nothing.
use mathlib.Core.Path.{◌≡◌, refl, ap, ◌∙◌}
use mathlib.Core.Bool.{true, false}
use mathlib.Core.List.{List}
use Prim.Native.Nat.{ℕ, ◌+◌, ◌*◌, ◌^◌, ◌≤◌, ◌<◌}
use native.Mathlib.Omega.{arith}
use lib.Dec.{ltb}
use lib.ListN.{length, get_or, set, length-set}
use lib.Seq.{get_or-set_same, get_or-set_other}
use borrow.Author.Tests.{lt-ltb, ltb-true, ltb-false, eq-eqb, ne_eqb}
use Rattle.rows.specs.Octets.{little, has_byte}
use Rattle.rows.proofs.Tests.{split}
use Rattle.record.specs.Terms.{opening_in, value}
use Rattle.record.proofs.OpeningLaws.{opening-above}
use Rattle.store.specs.Store.{untouched}
use Rattle.store.specs.Rehearsal.{terms_of}
use Rattle.store.proofs.UpdateLaws.{lt_suc_elim}
use Rattle.calls.specs.Mirror.{word_value, word_stamp, cell_of}
use Rattle.rehearsal.specs.Runs.{Opened}

module _ (openings : List ℕ) where
  -- ---- one object

  pub cell-none : (o : ℕ) → o < 32 → has_byte openings 0 o ≡ false → cell_of 0 ≡ untouched (opening_in openings 0 o)
  unfolding opening_in
  cell-none o l h = rw (lt-ltb o 32 l, h) refl

  pub cell-some : (o : ℕ) → o < 32 → has_byte openings 0 o ≡ true
      → (v : ℕ) → v < 2 ^ 32 → v ≡ little 4 openings (4 + 4 * o) → cell_of (2 ^ 32 + v) ≡ untouched (opening_in openings 0 o)
  unfolding opening_in
  cell-some o l h v small e =
      let low : word_value (2 ^ 32 + v) ≡ v = omega arith in
      let none : word_stamp (2 ^ 32 + v) ≡ 0 = omega arith in
      rw (eq-eqb (word_stamp (2 ^ 32 + v)) 0 none, ne_eqb (2 ^ 32 + v) 0 (λ q. omega arith), lt-ltb o 32 l, h, low) (ap (λ (x : ℕ). untouched (value x)) e)

-- ---- a site's cells: a loop has stored those below i

pub record OpenedTo (openings cells : List ℕ) (i : ℕ) : Type 0 where
  pub within : i ≤ 32
  pub long : length cells ≡ 32
  pub below : (o : ℕ) → o < i → cell_of (get_or cells o 0) ≡ untouched (opening_in openings 0 o)

pub opened-none : (openings cells : List ℕ) → length cells ≡ 32 → OpenedTo openings cells 0
opened-none openings cells long = record { within = omega arith; long = long; below = λ o l. absurd (omega arith) }

module _ (openings cells : List ℕ) (i : ℕ) (h : OpenedTo openings cells i) where
  pub opened-more : (x : ℕ) → i < 32 → cell_of x ≡ untouched (opening_in openings 0 i) → OpenedTo openings (set cells i x) (i + 1)
  opened-more x l e = record {
    within = omega arith;
    long = length-set cells i x ∙ h.long;
    below = λ o k.
        lt_suc_elim o i (omega arith)
        (λ q. rw (get_or-set_other cells i o x 0 (λ p. omega arith)) (h.below o q))
        (λ q. rw (q, get_or-set_same cells i x 0 (omega (arith, h.long))) e);
  }

  pub opened_all : 32 ≤ i → Opened (terms_of openings) cells
  opened_all all = record {
    long = h.long;
    cell = λ o.
        split (ltb o 32)
        (λ t. let low : o < 32 = ltb-true o 32 t in rw t (h.below o (omega arith)))
        (λ t. rw (t, opening-above openings 0 o (ltb-false o 32 t)) refl);
  }
