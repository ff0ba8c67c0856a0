-- What an explanation tells, beside what the judging call of the same predicate, record and work slice answers.
use Rattle.std.specs.Prelude.{true, ◌≡◌, List, ℕ, ◌<◌, ◌≤◌, length, None, Ok, Err}
use Rattle.record.specs.Layout.{work_words}
use Rattle.record.specs.declared.Refusal.{Refusal}
use Rattle.record.specs.declared.Refusal.TheVariants.{ShortWork}
use Rattle.consistency.specs.Predicates.{numbered}
use Rattle.consistency.specs.Holds.{Holds}
use Rattle.consistency.specs.Breaks.{FirstBreak}
use Rattle.consistency.specs.Explained.{Explains}
use Rattle.consistency.specs.Models.{broken_at}
use Rattle.packed.specs.Packed.{packed_refusal}
use Rattle.judge.specs.Judgments.{Judgment, is_number, packed_outcome, said_by}
use Rattle.judge.specs.Means.{Admitted}
use Rattle.judge.specs.declared.Unjudged.TheVariants.{NoSuchNumber, Refused}
use Rattle.explain.specs.Explanations.{Explanation, entries_asked, over}
use Rattle.explain.specs.declared.Unexplained.TheVariants.{Unjudged, FewEntries, NoBreak}

-- predicate p of a record s: what is judged over a work slice of so many words, what is answered, and the slice `out` of entries afterwards
pub data TellsWhy (words p : ℕ) (s out : List ℕ) : Judgment → Explanation → List ℕ → Type 0 where
  -- 1 and 2 refuse the judging call too
  short-work : words < work_words → TellsWhy words p s out (Err (Refused ShortWork)) (Err (Unjudged (Refused ShortWork))) out
  no_such_number : TellsWhy words p s out (Err NoSuchNumber) (Err (Unjudged NoSuchNumber)) out
  -- 41: they got a yes, and the slice has too few entries
  few : {j : Judgment} → Admitted words p → length out < entries_asked → TellsWhy words p s out j (Err FewEntries) out
  -- 3 to 10 refuse the judging call too, at the same place
  refused : {r : Refusal} → entries_asked ≤ length out → TellsWhy words p s out (Err (Refused r)) (Err (Unjudged (Refused r))) out
  -- 42: the predicate holds
  met : entries_asked ≤ length out → Holds (numbered p) (said_by s) → TellsWhy words p s out (Ok None) (Err NoBreak) out
  -- (a, b) is the first pair that breaks it: a list that explains that, which the entries asked for have room for, is written over the slice's front, and its length answered
  broken : (a b : ℕ) (l : List ℕ) → entries_asked ≤ length out → FirstBreak p (said_by s) a b → Explains (numbered p) (said_by s) a b l → length l ≤ entries_asked
      → TellsWhy words p s out (Ok (broken_at p (a, b))) (Ok (length l)) (over l out)

-- the same of the hosts' numbers, that of the judging call first
pub data TellsHostsWhy (p : ℕ) (s out : List ℕ) : ℕ → ℕ → List ℕ → Type 0 where
  no_such_number : TellsHostsWhy p s out (packed_refusal 2 0) (packed_refusal 2 0) out
  few : {j : ℕ} → is_number p ≡ true → length out < entries_asked → TellsHostsWhy p s out j (packed_refusal 41 0) out
  refused : (number place : ℕ) → entries_asked ≤ length out → TellsHostsWhy p s out (packed_refusal number place) (packed_refusal number place) out
  met : entries_asked ≤ length out → Holds (numbered p) (said_by s) → TellsHostsWhy p s out 0 (packed_refusal 42 0) out
  broken : (a b : ℕ) (l : List ℕ) → entries_asked ≤ length out → FirstBreak p (said_by s) a b → Explains (numbered p) (said_by s) a b l → length l ≤ entries_asked
      → TellsHostsWhy p s out (packed_outcome (broken_at p (a, b))) (length l) (over l out)
