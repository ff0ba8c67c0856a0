-- What an explanation tells beside the judgment of the same predicate, for every record, number and length of slices; and the same of the hosts' numbers. Assumes nothing.
use mathlib.Core.Path.{◌≡◌, refl, ap, ◌∙◌, subst}
use mathlib.Core.Bool.{Bool, true, false}
use mathlib.Core.List.{List, [], ◌∷◌}
use Prim.Native.Nat.{ℕ, ◌^◌, ◌<◌, ◌≤◌}
use native.Mathlib.Omega.{arith}
use borrow.Author.Tests.{leb-true, leb-false}
use lib.Dec.{leb}
use lib.ListN.{length}
use Rattle.record.specs.Layout.{Layout, edition_of, work_words}
use Rattle.record.specs.History.{History, history_of}
use Rattle.record.specs.Questions.{Reading, number_of, place_of, ask, if_passed, questions}
use Rattle.record.specs.Answers.{Passes}
use Rattle.record.specs.declared.Refusal.TheVariants.{ShortWork}
use Rattle.std.specs.Prelude.{Some, None, Ok, Err}
use Rattle.record.proofs.QuestionsAnswered.{number-most, passed-count, answer_of}
use Rattle.consistency.specs.Predicates.{numbered, verdict}
use Rattle.consistency.specs.Models.{Outcome, or_else, broken_at, first_broken}
use Rattle.consistency.specs.Explained.{explained}
use Rattle.consistency.specs.FirstPair.{Verdict}
use Rattle.consistency.proofs.ExplainedLaws.{explains, explained-fits}
use Rattle.judge.specs.Judgments.{Judgment, Admission, is_number, admission, admit, judged_list, judged, predicate_judgment, packed_judgment}
use Rattle.judge.specs.Means.{Admitted, Means}
use Rattle.judge.proofs.MeansLaws.{to_outcome, predicate_exact}
use Rattle.judge.specs.declared.Unjudged.TheVariants.{NoSuchNumber, Refused}
use Rattle.judge.proofs.ReadsBack.{Fitting}
use Rattle.explain.specs.Explanations.{Explanation, entries_asked, answer_to, explained_record, explanation, refusal_number, entries_after, packed_explanation}
use Rattle.explain.specs.Means.{TellsWhy, TellsHostsWhy}
use Rattle.explain.specs.Means as means
use Rattle.explain.specs.declared.Unexplained.TheVariants.{Unjudged, FewEntries}
use Rattle.explain.proofs.ExplanationLaws.{entries_refused}

module _ (words p : ℕ) (s out : List ℕ) where
  abbrev L : Layout
  L = edition_of s

  abbrev h : History
  h = history_of L s

  -- a judgment, the answer beside it, and the slice after that answer
  abbrev T : Judgment → Explanation → Type 0
  T j r = TellsWhy words p s out j r (entries_after L (refusal_number r) p s out)

  -- what the second demand says of a record that passes
  exactly : Admitted words p → Passes L s → (o : Outcome) → first_broken (p ∷ []) h ≡ o → Means L words p (p ∷ []) s (Ok o)
  unfolding predicate_judgment
  exactly a r o e = ((predicate_exact L words p s).exactly (Ok o)).0 (to_outcome L words p (p ∷ []) s a r ∙ ap Ok e)

  verdict-tells : Admitted words p → questions L s ≡ Ok tt → entries_asked ≤ length out → (v : Verdict) → verdict (numbered p) h ≡ v → T (Ok (or_else p v None)) (answer_to (numbered p) h v)
  unfolding entries_after history_of first_broken
  verdict-tells a q room None e = means.met room (exactly a (answer_of L s (Ok tt) q) None (ap (λ (v : Verdict). or_else p v None) e)).2.0
  verdict-tells a q room (Some x) e =
      rw e (means.broken x.0 x.1 (explained (numbered p) h x.0 x.1) room (exactly a (answer_of L s (Ok tt) q) (broken_at p x) (ap (λ (v : Verdict). or_else p v None) e)).3
      (explains (numbered p) h x.0 x.1 e) (explained-fits (numbered p) h x.0 x.1 e entries_asked (passed-count s q) (omega arith)))

  record_tells : Admitted words p → entries_asked ≤ length out → T (judged_list L s (p ∷ [])) (explained_record L p s)
  unfolding judged_list explained_record first_broken
  record_tells a room = go (questions L s) refl
    where
      go : (r : Reading) → questions L s ≡ r
          → T (if_passed r (λ r. Err (Refused r)) (Ok (or_else p (verdict (numbered p) h) None))) (if_passed r (λ r. Err (Unjudged (Refused r))) (answer_to (numbered p) h (verdict (numbered p) h)))
      go (Ok u) e = verdict-tells a e room (verdict (numbered p) h) refl
      go (Err r) e = subst (TellsWhy words p s out (Err (Refused r)) (Err (Unjudged (Refused r)))) (entries_refused p s r out) (means.refused room)

  all_tells : T (predicate_judgment L words p s) (explanation L words (length out) p s)
  unfolding entries_after predicate_judgment judged explanation admission
  all_tells = work (leb work_words words) refl
    where
      -- by how questions 1 and 2 are answered
      by : Admission → Type 0
      by x = T (admit x Err (judged_list L s (p ∷ []))) (admit x (λ e. Err (Unjudged e)) (ask (leb entries_asked (length out)) (Err FewEntries) (explained_record L p s)))

      entries : Admitted words p → (t : Bool) → leb entries_asked (length out) ≡ t → T (judged_list L s (p ∷ [])) (ask t (Err FewEntries) (explained_record L p s))
      entries a true e = record_tells a (leb-true entries_asked (length out) e)
      entries a false e = means.few a (leb-false entries_asked (length out) e)

      numbers : work_words ≤ words → (t : Bool) → is_number p ≡ t → by (ask t (Err NoSuchNumber) (Ok tt))
      numbers w true e = entries (record { work = w; in_range = e }) (leb entries_asked (length out)) refl
      numbers w false e = means.no_such_number

      work : (t : Bool) → leb work_words words ≡ t → by (ask t (Err (Refused ShortWork)) (ask (is_number p) (Err NoSuchNumber) (Ok tt)))
      work true e = numbers (leb-true work_words words e) (is_number p) refl
      work false e = means.short-work (leb-false work_words words e)

  -- of an answer that code gives, and the slice that it leaves
  pub tells_why : (r : Explanation) (out' : List ℕ) → r ≡ explanation L words (length out) p s → out' ≡ entries_after L (refusal_number r) p s out → TellsWhy words p s out (predicate_judgment L words p s) r out'
  tells_why r out' e f = rw (f, e) all_tells

-- ---- the hosts' numbers

pub tells_hosts : (p : ℕ) (s out : List ℕ) {j : Judgment} {r : Explanation} {out' : List ℕ} → TellsWhy work_words p s out j r out' → TellsHostsWhy p s out (packed_judgment j) (packed_explanation r) out'
tells_hosts p s out (means.short-work m) = absurd (omega arith)
tells_hosts p s out means.no_such_number = means.no_such_number
tells_hosts p s out (means.few a m) = means.few a.in_range m
tells_hosts p s out (means.refused {r} m) = means.refused (number_of (Err r)) (place_of (Err r)) m
tells_hosts p s out (means.met m e) = means.met m e
tells_hosts p s out (means.broken a b l m x e f) = means.broken a b l m x e f

-- they fit where the judgment's do
pub why_small : {words p : ℕ} {s out : List ℕ} {j : Judgment} {r : Explanation} {out' : List ℕ} → TellsWhy words p s out j r out' → Fitting j → packed_explanation r < 2 ^ 32
why_small (means.short-work m) f = omega arith
why_small means.no_such_number f = omega arith
why_small (means.few a m) f = omega arith
why_small (means.refused {r} m) f = omega (arith, f, number-most (Err r))
why_small (means.met m e) f = omega arith
why_small (means.broken a b l m x e fits) f = omega arith
