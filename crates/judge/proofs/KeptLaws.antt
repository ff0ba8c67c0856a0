-- Records of older editions, up to 19,456 bytes, are judged as before there were harvest records: refusals 2 to 10, verdicts and pairs. Assumes nothing.
use mathlib.Core.Path.{◌≡◌, refl, ap, ap₂, ◌∙◌}
use mathlib.Core.Bool.{Bool, true, false}
use mathlib.Core.List.{List, [], ◌∷◌}
use Prim.Native.Nat.{ℕ, ◌-◌, ◌≤◌}
use Rattle.std.specs.Prelude.{Ok, Err}
use native.Mathlib.Nat.{le_refl}
use borrow.Author.Tests.{le-leb}
use lib.ListN.{length, get_or}
use Rattle.record.specs.Layout.{Layout, edition_of, work_words}
use Rattle.record.specs.History.{history_of}
use Rattle.record.specs.Questions.{Reading, ask, if_passed}
use Rattle.record.specs.BeforeHarvest.{edition_before, questions_before, OfBefore}
use Rattle.record.specs.declared.Refusal.TheVariants.{ShortWork}
use Rattle.record.proofs.BeforeHarvest.{edition-kept, questions-kept}
use Rattle.consistency.specs.Models.{list_of, first_broken}
use Rattle.judge.specs.Judgments.{Judgment, is_number, admission, admit, judged_list, judged, predicate_judgment, model_judgment, predicate_judgment_of, model_judgment_of, packed_judgment}
use Rattle.judge.specs.Kept.{KeepsVerdict, KeepsNumber, KeepsThirteen}
use Rattle.judge.specs.declared.Unjudged.TheVariants.{NoSuchNumber, Refused}

-- 2, and what comes after it
number_asked : (t : Bool) (j : Judgment) → admit (ask t (Err NoSuchNumber) (Ok tt)) Err j ≡ ask t (Err NoSuchNumber) j
number_asked true j = refl
number_asked false j = refl

module _ (words number : ℕ) (ps s : List ℕ) where
  list_kept : OfBefore s → judged_list (edition_of s) s ps ≡ if_passed (questions_before s) (λ r. Err (Refused r)) (Ok (first_broken ps (history_of (edition_before s) s)))
  unfolding judged_list
  list_kept old =
      ap₂ (λ (r : Reading) (L : Layout). if_passed {A = Judgment} r (λ x. Err (Refused x)) (Ok (first_broken ps (history_of L s)))) (questions-kept s old) (edition-kept s old)

  pub verdict-kept : {j : Judgment} → j ≡ judged (edition_of s) words number s ps → KeepsVerdict words number ps s j
  unfolding judged admission
  verdict-kept q room old =
      q ∙ ap (λ (t : Bool). admit (ask t (Err (Refused ShortWork)) (ask (is_number number) (Err NoSuchNumber) (Ok tt))) Err (judged_list (edition_of s) s ps)) (le-leb work_words words room)
      ∙ number_asked (is_number number) (judged_list (edition_of s) s ps) ∙ ap (ask (is_number number) (Err NoSuchNumber)) (list_kept old)

-- the hosts' numbers of a predicate's judgment and of a model's
pub predicate_number-kept : (p : ℕ) (s : List ℕ) {answer : ℕ} → answer ≡ packed_judgment (predicate_judgment_of work_words p s) → KeepsNumber p (p ∷ []) s answer
unfolding predicate_judgment
predicate_number-kept p s q old = q ∙ ap packed_judgment (verdict-kept work_words p (p ∷ []) s refl (le_refl work_words) old)

pub model_number-kept : (m : ℕ) (s : List ℕ) {answer : ℕ} → answer ≡ packed_judgment (model_judgment_of work_words m s) → KeepsNumber m (list_of m) s answer
unfolding model_judgment
model_number-kept m s q old = q ∙ ap packed_judgment (verdict-kept work_words m (list_of m) s refl (le_refl work_words) old)

-- those of all thirteen
pub thirteen-kept : (words : ℕ) (s out : List ℕ)
    → ((p : ℕ) → 1 ≤ p → p ≤ 13 → p ≤ length out → get_or out (p - 1) 0 ≡ packed_judgment (predicate_judgment (edition_of s) words p s)) → KeepsThirteen words s out
unfolding predicate_judgment
thirteen-kept words s out at room old p i j l = at p i j l ∙ ap packed_judgment (verdict-kept words p (p ∷ []) s refl room old)
