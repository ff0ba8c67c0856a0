-- The explaining call: questions 1, 2 and 41, then the record's, then 42; what it writes and leaves; and the host's number for its answer.
use Rattle.std.specs.Prelude.{cond, List, [], ◌++◌, ℕ, eqb, leb, length, drop, Some, None, Result, Ok, Err}
use Rattle.record.specs.Layout.{Layout, edition_of, most_events}
use Rattle.record.specs.History.{History, history_of}
use Rattle.record.specs.Questions.{number_of, place_of, ask, if_passed, questions}
use Rattle.record.specs.Words.{work_after}
use Rattle.consistency.specs.Predicates.{numbered, verdict}
use Rattle.consistency.specs.Explained.{explained}
use Rattle.consistency.specs.declared.Predicate.{Predicate}
use Rattle.consistency.specs.FirstPair.{Verdict}
use Rattle.packed.specs.Packed.{packed_refusal}
use Rattle.judge.specs.Judgments.{admission, admit}
use Rattle.judge.specs.declared.Unjudged.TheVariants.{NoSuchNumber, Refused}
use Rattle.explain.specs.declared.Unexplained.{Unexplained}
use Rattle.explain.specs.declared.Unexplained.TheVariants.{Unjudged, FewEntries, NoBreak}

-- the answer of an explaining call: how many entries were written, or what refused it
abbrev pub Explanation : Type 0
Explanation = Result ℕ Unexplained

-- 41: the slice has an entry for every event that a record may have, of whatever edition
abbrev pub entries_asked : ℕ
entries_asked = most_events

-- the events that are told of a verdict: none where the predicate is met
abbrev pub events_told : Predicate → History → Verdict → List ℕ
events_told p h None = []
events_told p h (Some x) = explained p h x.0 x.1

-- 42: the predicate is met; else the answer is how many events are told
abbrev pub answer_to : Predicate → History → Verdict → Explanation
answer_to p h None = Err NoBreak
answer_to p h (Some x) = Ok (length (explained p h x.0 x.1))

-- questions 3 to 10, and then 42
unfoldable pub explained_record : Layout → ℕ → List ℕ → Explanation
explained_record L p s =
    if_passed (questions L s) (λ r. Err (Unjudged (Refused r)))
    (answer_to (numbered p) (history_of L s) (verdict (numbered p) (history_of L s)))

-- questions 1, 2 and 41 before them, with a work slice of so many words, and a slice of so many entries
unfoldable pub explanation : Layout → ℕ → ℕ → ℕ → List ℕ → Explanation
explanation L words entries p s =
    admit (admission words p) (λ e. Err (Unjudged e))
    (ask (leb entries_asked entries) (Err FewEntries) (explained_record L p s))

-- a list written over the front of a slice; the entries beyond it stay
abbrev pub over : List ℕ → List ℕ → List ℕ
over l out = l ++ drop (length l) out

-- the number of the question that refused, 0 where none did, and its place
abbrev pub refusal_number : Explanation → ℕ
refusal_number (Ok k) = 0
refusal_number (Err (Unjudged NoSuchNumber)) = 2
refusal_number (Err (Unjudged (Refused r))) = number_of (Err r)
refusal_number (Err FewEntries) = 41
refusal_number (Err NoBreak) = 42

abbrev pub refusal_place : Explanation → ℕ
refusal_place (Ok k) = 0
refusal_place (Err (Unjudged NoSuchNumber)) = 0
refusal_place (Err (Unjudged (Refused r))) = place_of (Err r)
refusal_place (Err FewEntries) = 0
refusal_place (Err NoBreak) = 0

-- the slice of entries after an explanation: a refusal, whatever its number, writes none
unfoldable pub entries_after : Layout → ℕ → ℕ → List ℕ → List ℕ → List ℕ
entries_after L number p s out = cond (eqb number 0) (over (events_told (numbered p) (history_of L s) (verdict (numbered p) (history_of L s))) out) out

-- the work slice after it: as after a judgment, but that 41, which is asked before 3, leaves it unchanged, and 42, which is asked after 10, with the visible sets
unfoldable pub work_left : Layout → ℕ → List ℕ → List ℕ → List ℕ
work_left L number s work = cond (eqb number 41) work (cond (eqb number 42) (work_after L 0 s work) (work_after L number s work))

-- the host's number: the entries that were written, or 2,097,152 + 1,024 × number + place refused
abbrev pub packed_explanation : Explanation → ℕ
packed_explanation (Ok k) = k
packed_explanation (Err e) = packed_refusal (refusal_number (Err e)) (refusal_place (Err e))

-- ---- of a record's bytes alone, whose letters say the edition

abbrev pub explanation_of : ℕ → ℕ → ℕ → List ℕ → Explanation
explanation_of words entries p s = explanation (edition_of s) words entries p s

-- both slices after an explanation
abbrev pub entries_after_it : Explanation → ℕ → List ℕ → List ℕ → List ℕ
entries_after_it e p s out = entries_after (edition_of s) (refusal_number e) p s out

abbrev pub work_after_it : Explanation → List ℕ → List ℕ → List ℕ
work_after_it e s work = work_left (edition_of s) (refusal_number e) s work
