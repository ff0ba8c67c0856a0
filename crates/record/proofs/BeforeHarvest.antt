-- A record of an older edition, up to 19,456 bytes, is read as before there were harvest records. Assumes nothing.
use mathlib.Core.Path.{◌≡◌, refl, sym, ap, ◌∙◌}
use mathlib.Core.Bool.{Bool, true, false, cond, ◌&&◌}
use mathlib.Core.List.{List}
use Prim.Native.Nat.{ℕ, ◌%◌, ◌≤◌}
use native.Mathlib.Omega.{arith}
use borrow.Author.Tests.{le-leb}
use lib.Dec.{eqb, leb}
use lib.ListN.{length, take}
use Rattle.record.specs.Layout.{Layout, GCR1, GCR2, edition, gcr2, edition_of, same, longest_record}
use Rattle.record.specs.Questions.{Reading, length_right, byte_questions, questions, reading, packed_reading}
use Rattle.record.specs.BeforeHarvest.{longest_before, layout_before, edition_before, length_before, questions_in, questions_before, OfBefore, KeepsReading, KeepsReadNumber}
use Rattle.record.proofs.QuestionLaws.{reading-long}

-- the older editions are as they were
layout_kept : (termed : Bool) → edition (cond termed GCR2 GCR1) ≡ layout_before termed
layout_kept true = refl
layout_kept false = refl

-- question 3 is asked as it was of a record that is as long as they could be
pub length-kept : (s : List ℕ) → length s ≤ longest_before → length_right s ≡ length_before s
unfolding length_right
length-kept s short =
    ap (λ (t : Bool). leb 512 (length s) && (t && eqb (length s % 512) 0))
    (le-leb (length s) longest_record (omega (arith, short)) ∙ sym (le-leb (length s) longest_before short))

module _ (s : List ℕ) (old : OfBefore s) where
  pub edition-kept : edition_of s ≡ edition_before s
  edition-kept = rw old.letters (layout_kept (same (take 4 s) gcr2.letters))

  -- questions 3 to 10, with their numbers and places
  pub questions-kept : questions (edition_of s) s ≡ questions_before s
  unfolding questions byte_questions
  questions-kept = rw (length-kept s old.short) (ap (λ (L : Layout). questions_in L s) edition-kept)

-- a reading, and its number for a host
pub reading-kept : (words : ℕ) (s : List ℕ) {r : Reading} → r ≡ reading (edition_of s) words s → KeepsReading words s r
reading-kept words s q room old = q ∙ reading-long (edition_of s) words s room ∙ questions-kept s old

pub read-number-kept : (words : ℕ) (s : List ℕ) {answer : ℕ} → answer ≡ packed_reading (reading (edition_of s) words s) → KeepsReadNumber words s answer
read-number-kept words s q room old = q ∙ ap packed_reading (reading-kept words s refl room old)
