-- 'Records of older editions, up to 19,456 bytes, keep their verdicts' (Change 8): what a judging call answered before there were harvest records, and that it
-- still does.
use Rattle.std.specs.Prelude.{◌≡◌, List, [], ◌∷◌, ℕ, ◌-◌, ◌≤◌, length, get_or, Ok, Err}
use Rattle.record.specs.Layout.{work_words}
use Rattle.record.specs.History.{history_of}
use Rattle.record.specs.Questions.{ask, if_passed}
use Rattle.record.specs.BeforeHarvest.{edition_before, questions_before, OfBefore}
use Rattle.consistency.specs.Models.{first_broken}
use Rattle.judge.specs.Judgments.{Judgment, is_number, packed_judgment}
use Rattle.judge.specs.declared.Unjudged.TheVariants.{NoSuchNumber, Refused}

-- questions 2 to 10, and then the outcome of a list ps of predicates, as they were
abbrev pub judgment_before : ℕ → List ℕ → List ℕ → Judgment
judgment_before number ps s =
    ask (is_number number) (Err NoSuchNumber)
    (if_passed (questions_before s) (λ r. Err (Refused r)) (Ok (first_broken ps (history_of (edition_before s) s))))

-- the answer j about a record s, over a work slice that question 1 lets pass
abbrev pub KeepsVerdict : ℕ → ℕ → List ℕ → List ℕ → Judgment → Type 0
KeepsVerdict words number ps s j = work_words ≤ words → OfBefore s → j ≡ judgment_before number ps s

-- a host's number
abbrev pub KeepsNumber : ℕ → List ℕ → List ℕ → ℕ → Type 0
KeepsNumber number ps s answer = OfBefore s → answer ≡ packed_judgment (judgment_before number ps s)

-- the numbers of predicates 1 to 13, p's at place p − 1, as many as a slice has places for
abbrev pub KeepsThirteen : ℕ → List ℕ → List ℕ → Type 0
KeepsThirteen words s out =
    work_words ≤ words → OfBefore s → (p : ℕ) → 1 ≤ p → p ≤ 13 → p ≤ length out → get_or out (p - 1) 0 ≡ packed_judgment (judgment_before p (p ∷ []) s)
