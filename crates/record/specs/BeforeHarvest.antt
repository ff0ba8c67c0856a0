-- What was asked of records before there were harvest records (Change 8): two editions, of 256 events and slots of 64 bytes, and no record above 19,456 bytes.
-- What moved is written out here; what each question after 3 asks, and what a record says, are the definitions of today, of which no word moved then.
use Rattle.std.specs.Prelude.{◌≡◌, Bool, false, cond, ◌&&◌, List, [], ◌∷◌, ℕ, ◌%◌, ◌≤◌, eqb, leb, length, take, Err}
use Rattle.record.specs.Layout.{Layout, gcr3, count_in, same, work_words}
use Rattle.record.specs.History.{history_of, vis}
use Rattle.record.specs.Questions.{Reading, ask, after_length, set_questions, and_then, packed_reading}
use Rattle.record.specs.declared.Refusal.TheVariants.{WrongLength}

abbrev pub longest_before : ℕ
longest_before = 19456

-- the editions that there were, in numbers; letters that are not those of `GCR2` were taken for a `GCR1`'s
abbrev pub layout_before : Bool → Layout
layout_before termed = record { letters = 71 ∷ 67 ∷ 82 ∷ cond termed 50 49 ∷ []; slot = 64; per_block = 7; row = 4; events = 256; terms = termed }

abbrev pub edition_before : List ℕ → Layout
edition_before s = layout_before (same (take 4 s) (71 ∷ 67 ∷ 82 ∷ 50 ∷ []))

-- question 3
abbrev pub length_before : List ℕ → Bool
length_before s = leb 512 (length s) && (leb (length s) longest_before && eqb (length s % 512) 0)

-- 3 to 10
abbrev pub questions_in : Layout → List ℕ → Reading
questions_in L s = and_then (ask (length_before s) (Err WrongLength) (after_length L s)) (set_questions L (count_in s) (vis (history_of L s)))

abbrev pub questions_before : List ℕ → Reading
questions_before s = questions_in (edition_before s) s

-- a record of an older edition, as long as they could be: its letters are not those of `GCR3`
pub record OfBefore (s : List ℕ) : Type 0 where
  pub letters : same (take 4 s) gcr3.letters ≡ false
  pub short : length s ≤ longest_before

-- a reading r of s, over a work slice of so many words that question 1 lets it pass; and its number for a host
abbrev pub KeepsReading : ℕ → List ℕ → Reading → Type 0
KeepsReading words s r = work_words ≤ words → OfBefore s → r ≡ questions_before s

abbrev pub KeepsReadNumber : ℕ → List ℕ → ℕ → Type 0
KeepsReadNumber words s answer = work_words ≤ words → OfBefore s → answer ≡ packed_reading (questions_before s)
