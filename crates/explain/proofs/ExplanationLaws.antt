-- The explaining call by its tests, one question after the other. Assumes nothing.
use mathlib.Core.Path.{◌≡◌, refl, sym, ap, ◌∙◌, subst}
use mathlib.Core.Logic.{◌≢◌}
use mathlib.Core.Bool.{Bool, true, false, true≢false}
use Rattle.std.specs.Prelude.{is_err}
use mathlib.Core.List.{List}
use Prim.Native.Nat.{ℕ, ◌<◌, ◌≤◌}
use native.Mathlib.Omega.{arith}
use borrow.Author.Tests.{ne_eqb, le-leb, lt-leb}
use lib.Dec.{leb}
use Rattle.record.specs.Layout.{edition_of, work_words}
use Rattle.record.specs.History.{History, history_of, Agree}
use Rattle.std.specs.Prelude.{Some, None, Ok, Err}
use Rattle.record.specs.Questions.{number_of, ask, questions}
use Rattle.record.specs.Words.{work_after}
use Rattle.record.specs.declared.Refusal.{Refusal}
use Rattle.record.specs.declared.Refusal.TheVariants.{ShortWork}
use Rattle.consistency.specs.Predicates.{numbered, verdict}
use Rattle.consistency.specs.declared.Predicate.{Predicate}
use Rattle.consistency.specs.FirstPair.{Verdict}
use Rattle.consistency.proofs.SameVerdict.{verdict-same}
use Rattle.consistency.proofs.ExplainedLaws.{explained-same}
use Rattle.record.proofs.QuestionsAnswered.{number_passed, number-most}
use Rattle.judge.specs.Judgments.{Admission, admission, is_number}
use Rattle.judge.specs.declared.Unjudged as judge
use Rattle.judge.specs.declared.Unjudged.TheVariants.{NoSuchNumber, Refused}
use Rattle.explain.specs.Explanations.{Explanation, entries_asked, refusal_number, events_told, answer_to, explained_record, explanation, over, entries_after, work_left}
use Rattle.explain.specs.declared.Unexplained.TheVariants.{Unjudged, FewEntries}

-- ---- questions 1, 2 and 41

module _ (words entries number : ℕ) (s : List ℕ) where
  pub not_admitted : (e : judge.Unjudged) → admission words number ≡ Err e → Err (Unjudged e) ≡ explanation (edition_of s) words entries number s
  unfolding explanation
  not_admitted e f = rw f refl

  module _ (admitted : admission words number ≡ Ok tt) where
    pub few_entries : entries < entries_asked → Err FewEntries ≡ explanation (edition_of s) words entries number s
    unfolding explanation
    few_entries m = rw (admitted, lt-leb entries_asked entries m) refl

    pub enough_entries : entries_asked ≤ entries → {r : Explanation} → r ≡ explained_record (edition_of s) number s → r ≡ explanation (edition_of s) words entries number s
    unfolding explanation
    enough_entries m e = rw (admitted, le-leb entries_asked entries m) e

-- ---- questions 3 to 10

-- a refusal has a number
refused-numbered : (r : Refusal) → number_of (Err r) ≢ 0
refused-numbered r z = absurd (true≢false (ap is_err (number_passed (Err r) z)))

module _ (number : ℕ) (s : List ℕ) where
  pub record_refused : (r : Refusal) → questions (edition_of s) s ≡ Err r → Err (Unjudged (Refused r)) ≡ explained_record (edition_of s) number s
  unfolding explained_record
  record_refused r e = rw e refl

  pub record_passed : questions (edition_of s) s ≡ Ok tt → answer_to (numbered number) (history_of (edition_of s) s) (verdict (numbered number) (history_of (edition_of s) s)) ≡ explained_record (edition_of s) number s
  unfolding explained_record
  record_passed e = rw e refl

  -- the slices: a refusal by 1 to 10 leaves them as it does for a judgment
  pub entries_refused : (r : Refusal) (out : List ℕ) → out ≡ entries_after (edition_of s) (number_of (Err r)) number s out
  unfolding entries_after
  entries_refused r out = rw (ne_eqb (number_of (Err r)) 0 (refused-numbered r)) refl

  pub work-refused : (r : Refusal) (work : List ℕ) → work_after (edition_of s) (number_of (Err r)) s work ≡ work_left (edition_of s) (number_of (Err r)) s work
  unfolding work_left
  work-refused r work = rw (ne_eqb (number_of (Err r)) 41 (λ e. omega (arith, number-most (Err r))), ne_eqb (number_of (Err r)) 42 (λ e. omega (arith, number-most (Err r)))) refl

-- a refusal by 1 or 2 leaves both slices
module _ (words number : ℕ) (s work out : List ℕ) where
  Leaves : Admission → Type 0
  Leaves (Ok u) = Unit
  Leaves (Err e) =
      (out ≡ entries_after (edition_of s) (refusal_number (Err (Unjudged e))) number s out) × (work ≡ work_left (edition_of s) (refusal_number (Err (Unjudged e))) s work)

  pub not_admitted-leaves : (e : judge.Unjudged) → admission words number ≡ Err e
      → (out ≡ entries_after (edition_of s) (refusal_number (Err (Unjudged e))) number s out) × (work ≡ work_left (edition_of s) (refusal_number (Err (Unjudged e))) s work)
  unfolding admission entries_after work_left work_after Leaves
  not_admitted-leaves e f = subst Leaves f (go (leb work_words words) (is_number number))
    where
      go : (t u : Bool) → Leaves (ask t (Err (Refused ShortWork)) (ask u (Err NoSuchNumber) (Ok tt)))
      go false u = (refl, refl)
      go true false = (refl, refl)
      go true true = tt

-- ---- 42, and what is told

-- the slices, for the answer to a verdict
module _ (p : ℕ) (s : List ℕ) where
  abbrev judged : Verdict
  judged = verdict (numbered p) (history_of (edition_of s) s)

  pub entries_told : (r : Explanation) → r ≡ answer_to (numbered p) (history_of (edition_of s) s) judged → (out : List ℕ)
      → over (events_told (numbered p) (history_of (edition_of s) s) judged) out ≡ entries_after (edition_of s) (refusal_number r) p s out
  unfolding entries_after
  entries_told r e out = rw e (go judged refl)
    where
      go : (v : Verdict) → judged ≡ v
          → over (events_told (numbered p) (history_of (edition_of s) s) v) out ≡ entries_after (edition_of s) (refusal_number (answer_to (numbered p) (history_of (edition_of s) s) v)) p s out
      go None f = refl
      go (Some x) f = rw f refl

  pub work-told : (r : Explanation) → r ≡ answer_to (numbered p) (history_of (edition_of s) s) judged → (work : List ℕ) → work_after (edition_of s) 0 s work ≡ work_left (edition_of s) (refusal_number r) s work
  unfolding work_left
  work-told r e work = rw e (go judged)
    where
      go : (v : Verdict) → work_after (edition_of s) 0 s work ≡ work_left (edition_of s) (refusal_number (answer_to (numbered p) (history_of (edition_of s) s) v)) s work
      go None = refl
      go (Some x) = refl

-- histories that agree
module _ (p : Predicate) (h k : History) (same : Agree h k) where
  told-alike : events_told p h (verdict p h) ≡ events_told p k (verdict p k)
  told-alike = go (verdict p h) refl ∙ ap (events_told p k) (verdict-same h k same p)
    where
      go : (v : Verdict) → verdict p h ≡ v → events_told p h v ≡ events_told p k v
      go None e = refl
      go (Some x) e = explained-same p h x.0 x.1 e k same.events

  answer-alike : answer_to p h (verdict p h) ≡ answer_to p k (verdict p k)
  answer-alike = go (verdict p h) refl ∙ ap (answer_to p k) (verdict-same h k same p)
    where
      go : (v : Verdict) → verdict p h ≡ v → answer_to p h v ≡ answer_to p k v
      go None e = refl
      go (Some x) e = rw (explained-same p h x.0 x.1 e k same.events)

  -- the answer and the slice, by the one, are those by the other
  pub both-alike : {r : Explanation} (out : List ℕ) {out' : List ℕ} → (r ≡ answer_to p k (verdict p k)) × (out' ≡ over (events_told p k (verdict p k)) out)
      → (r ≡ answer_to p h (verdict p h)) × (out' ≡ over (events_told p h (verdict p h)) out)
  both-alike out e = (e.0 ∙ sym answer-alike, e.1 ∙ ap (λ (l : List ℕ). over l out) (sym told-alike))
