-- The second demand: each answer of a judging call is given exactly if what it says of the record is so, for every record, number, list and length of
-- work slice. Assumes nothing.
use mathlib.Core.Path.{◌≡◌, refl, sym, ap, ◌∙◌, subst}
use mathlib.Core.Bool.{Bool, true, false}
use mathlib.Core.List.{List, [], ◌∷◌}
use Prim.Native.Nat.{ℕ, ◌≤◌}
use borrow.Author.Tests.{le-leb, lt-leb, leb-true, leb-false}
use lib.Dec.{leb}
use Rattle.std.specs.Prelude.{Some, None, Ok, Err}
use Rattle.record.specs.Layout.{Layout, count_in, work_words}
use Rattle.record.specs.History.{History, history_of, vis}
use Rattle.record.specs.Questions.{Reading, ask, if_passed, questions}
use Rattle.record.specs.Answers.{Passes}
use Rattle.record.specs.declared.Refusal.{Refusal}
use Rattle.record.specs.declared.Refusal.TheVariants.{ShortWork}
use Rattle.record.proofs.PositionLaws.{positions-distinct}
use Rattle.record.proofs.QuestionsAnswered.{answer_of, answer-only, ring_iff_steps}
use Rattle.consistency.specs.Models.{list_of, Outcome, first_broken}
use Rattle.consistency.specs.Holds.{DistinctPositions}
use Rattle.consistency.proofs.BrokenIff.{list_met_iff, list_broken_iff}
use Rattle.consistency.proofs.ReturnsBefore.{by_cases}
use Rattle.consistency.proofs.HappensBefore.{hb_iff_chain}
use Rattle.judge.specs.Judgments.{Judgment, is_number, admission, admit, judged_list, judged, predicate_judgment, model_judgment}
use Rattle.judge.specs.Means.{Admitted, RefusedBy, short, named, Means, Exact}
use Rattle.judge.specs.declared.Unjudged.TheVariants.{NoSuchNumber, Refused}

-- what question 8 asks
right-distinct : (L : Layout) (s : List ℕ) → Passes L s → DistinctPositions (history_of L s)
unfolding history_of
right-distinct L s r = positions-distinct (history_of L s) r.bytes.positions

module _ (L : Layout) (words number : ℕ) (ps s : List ℕ) where
  abbrev h : History
  h = history_of L s

  abbrev M : Judgment → Type 0
  M = Means L words number ps s

  -- ---- what the answer says is so

  outcome_means : Admitted words number → Passes L s → (o : Outcome) → first_broken ps h ≡ o → M (Ok o)
  outcome_means a r None e = (a, r, (list_met_iff h (right-distinct L s r) ps).0 e)
  outcome_means a r (Some x) e =
      let k = (list_broken_iff h (right-distinct L s r) ps x.predicate x.first x.second).0 e in
      (a, r, k.0, k.1)

  list_means : Admitted words number → M (judged_list L s ps)
  unfolding judged_list
  list_means a = go (questions L s) refl
    where
      go : (r : Reading) → questions L s ≡ r → M (if_passed r (λ x. Err (Refused x)) (Ok (first_broken ps h)))
      go (Ok u) e = outcome_means a (answer_of L s (Ok tt) e) (first_broken ps h) refl
      go (Err r) e = named a (answer_of L s (Err r) e)

  answer-means : M (judged L words number s ps)
  unfolding judged admission
  answer-means = work (leb work_words words) refl
    where
      numbers : work_words ≤ words → (t : Bool) → is_number number ≡ t → M (admit (ask t (Err NoSuchNumber) (Ok tt)) Err (judged_list L s ps))
      numbers w true e = list_means (record { work = w; in_range = e })
      numbers w false e = (w, e)

      work : (t : Bool) → leb work_words words ≡ t → M (admit (ask t (Err (Refused ShortWork)) (ask (is_number number) (Err NoSuchNumber) (Ok tt))) Err (judged_list L s ps))
      work true e = numbers (leb-true work_words words e) (is_number number) refl
      work false e = short (leb-false work_words words e)

  -- ---- and what says so is the answer

  to_list : Admitted words number → judged L words number s ps ≡ judged_list L s ps
  unfolding judged admission
  to_list a = rw (le-leb work_words words a.work, a.in_range)

  pub to_outcome : Admitted words number → Passes L s → judged L words number s ps ≡ Ok (first_broken ps h)
  unfolding judged_list
  to_outcome a r = to_list a ∙ rw (answer-only L s (Ok tt) r)

  to-refusal : (r : Refusal) → RefusedBy L words number s r → judged L words number s ps ≡ Err (Refused r)
  unfolding judged admission judged_list
  to-refusal r (short w) = rw (lt-leb work_words words w)
  to-refusal r (named a k) = to_list a ∙ rw (answer-only L s (Err r) k)

  means-answer : (k : Judgment) → M k → judged L words number s ps ≡ k
  unfolding judged admission
  means-answer (Ok None) m = to_outcome m.0 m.1 ∙ ap Ok ((list_met_iff h (right-distinct L s m.1) ps).1 m.2)
  means-answer (Ok (Some x)) m = to_outcome m.0 m.1 ∙ ap Ok ((list_broken_iff h (right-distinct L s m.1) ps x.predicate x.first x.second).1 (m.2, m.3))
  means-answer (Err NoSuchNumber) m = rw (le-leb work_words words m.0, m.1)
  means-answer (Err (Refused r)) m = to-refusal r m

  pub judged-exact : Exact L words number ps s (judged L words number s ps)
  judged-exact = record {
    exactly = λ k. (λ e. subst M e answer-means, means-answer k);
    returns = by_cases h;
    chains = hb_iff_chain h;
    rings = ring_iff_steps (count_in s) (vis h);
  }

  -- the same of an answer that code gives
  pub exact_of : {j : Judgment} → j ≡ judged L words number s ps → Exact L words number ps s j
  exact_of e = subst (Exact L words number ps s) (sym e) judged-exact

-- the two judging calls
pub predicate_exact : (L : Layout) (words p : ℕ) (s : List ℕ) → Exact L words p (p ∷ []) s (predicate_judgment L words p s)
unfolding predicate_judgment
predicate_exact L words p s = judged-exact L words p (p ∷ []) s

pub model_exact : (L : Layout) (words m : ℕ) (s : List ℕ) → Exact L words m (list_of m) s (model_judgment L words m s)
unfolding model_judgment
model_exact L words m s = judged-exact L words m (list_of m) s
