-- The judging calls: questions 1 and 2, then the record's, then the verdict; and the host's number for an answer.
use Rattle.std.specs.Prelude.{Bool, ◌&&◌, List, [], ◌∷◌, ◌++◌, ℕ, zero, suc, ◌+◌, leb, length, take, drop, Some, None, Result, Ok, Err, ⊤}
use Rattle.packed.specs.Packed.{packed_break, packed_refusal}
use Rattle.record.specs.Layout.{Layout, edition_of, work_words}
use Rattle.record.specs.History.{History, history_of}
use Rattle.record.specs.Questions.{refusal_number, refusal_place, ask, if_passed, questions}
use Rattle.record.specs.Words.{work_after}
use Rattle.record.specs.declared.Refusal.TheVariants.{ShortWork}
use Rattle.consistency.specs.Models.{list_of, Outcome, first_broken}
use Rattle.judge.specs.declared.Unjudged.{Unjudged}
use Rattle.judge.specs.declared.Unjudged.TheVariants.{NoSuchNumber, Refused}

-- the answer of a judging call: the outcome, or why there is none
abbrev pub Judgment : Type 0
Judgment = Result Outcome Unjudged

-- how questions 1 and 2 were answered
abbrev pub Admission : Type 0
Admission = Result ⊤ Unjudged

-- 2: the predicate or model number is 1–13
abbrev pub is_number : ℕ → Bool
is_number k = leb 1 k && leb k 13

-- questions 1 and 2, which every judging call asks first
unfoldable pub admission : ℕ → ℕ → Admission
admission words number = ask (leb work_words words) (Err (Refused ShortWork)) (ask (is_number number) (Err NoSuchNumber) (Ok tt))

-- what comes after a yes to both, and what a no to one of them is to another call
abbrev pub admit : {A : Type 0} → Admission → (Unjudged → A) → A → A
admit (Ok u) refused next = next
admit (Err e) refused next = refused e

-- questions 3 to 10, and then the outcome of a list of predicates
unfoldable pub judged_list : Layout → List ℕ → List ℕ → Judgment
judged_list L s ps = if_passed (questions L s) (λ r. Err (Refused r)) (Ok (first_broken ps (history_of L s)))

-- questions 1 and 2 before them
unfoldable pub judged : Layout → ℕ → ℕ → List ℕ → List ℕ → Judgment
judged L words number s ps = admit (admission words number) Err (judged_list L s ps)

-- a predicate's judgment, and a model's
unfoldable pub predicate_judgment : Layout → ℕ → ℕ → List ℕ → Judgment
predicate_judgment L words p s = judged L words p s (p ∷ [])

unfoldable pub model_judgment : Layout → ℕ → ℕ → List ℕ → Judgment
model_judgment L words m s = judged L words m s (list_of m)

-- the number of the question that refused, 0 where none did
abbrev pub refused_number : Judgment → ℕ
refused_number (Ok o) = 0
refused_number (Err NoSuchNumber) = 2
refused_number (Err (Refused r)) = refusal_number r

-- the host's number: 0 met; 1,048,576 + 1,024 × a + b broken; 2,097,152 + 1,024 × number + place refused
abbrev pub packed_outcome : Outcome → ℕ
packed_outcome None = 0
packed_outcome (Some x) = packed_break x.first x.second

abbrev pub packed_judgment : Judgment → ℕ
packed_judgment (Ok o) = packed_outcome o
packed_judgment (Err NoSuchNumber) = packed_refusal 2 0
packed_judgment (Err (Refused r)) = packed_refusal (refusal_number r) (refusal_place r)

-- the numbers of the first k predicates' judgments, in the paper's order
unfoldable pub packed_judgments : Layout → ℕ → ℕ → List ℕ → List ℕ
packed_judgments L words zero s = []
packed_judgments L words (suc k) s = packed_judgments L words k s ++ (packed_judgment (predicate_judgment L words (k + 1) s) ∷ [])

-- the first of vs, as many as fit, over the front of out
abbrev pub laid_over : List ℕ → List ℕ → List ℕ
laid_over vs out = take (length out) vs ++ drop (length vs) out

-- ---- of a record's bytes alone, whose letters say the edition

-- what a record says
abbrev pub said_by : List ℕ → History
said_by s = history_of (edition_of s) s

abbrev pub predicate_judgment_of : ℕ → ℕ → List ℕ → Judgment
predicate_judgment_of words p s = predicate_judgment (edition_of s) words p s

abbrev pub model_judgment_of : ℕ → ℕ → List ℕ → Judgment
model_judgment_of words m s = model_judgment (edition_of s) words m s

-- the hosts' numbers of all thirteen predicates' judgments
abbrev pub packed_judgments_of : ℕ → List ℕ → List ℕ
packed_judgments_of words s = packed_judgments (edition_of s) words 13 s

-- the work slice after a judgment
abbrev pub work_after_judgment : Judgment → List ℕ → List ℕ → List ℕ
work_after_judgment j s work = work_after (edition_of s) (refused_number j) s work
