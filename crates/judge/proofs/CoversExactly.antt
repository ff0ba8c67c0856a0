-- 'Which guarantee covers which': a model covers another exactly if that follows from it. What follows is covered for every record that passes, of every edition,
-- and where a second model does not follow from a first, one of the eight records meets the first and breaks the second. Assumes nothing.
use mathlib.Core.Path.{◌≡◌, refl, sym, ap, ◌∙◌, subst}
use mathlib.Core.Logic.{◌↔◌}
use mathlib.Core.Bool.{true, false}
use mathlib.Core.List.{List}
use Prim.Native.Nat.{ℕ, ◌≤◌}
use native.Mathlib.Omega.{arith}
use Rattle.std.specs.Prelude.{Some, None, Ok, Err}
use Rattle.rows.proofs.Tests.{split, tell}
use Rattle.record.specs.Layout.{Layout, gcr2, edition_of, work_words}
use Rattle.record.specs.History.{history_of}
use Rattle.record.specs.Encode.{record_bytes}
use Rattle.record.proofs.QuestionsAnswered.{answer_of}
use Rattle.record.proofs.EncodedPasses.{Encoded, gcr2_encoded, gcr2-back}
use Rattle.record.proofs.ListedLaws.{listed_well_formed}
use Rattle.consistency.specs.Models.{list_of, Outcome, first_broken}
use Rattle.consistency.specs.Lattice.{implications, listed, follows}
use Rattle.consistency.specs.Separating.{numbered_record, separating_history, separating_bytes, separator}
use Rattle.consistency.proofs.SameVerdict.{first_broken-same}
use Rattle.consistency.proofs.ModelsGive.{follows_gives, follows-models}
use Rattle.consistency.proofs.ChainLaws.{model_small, listed-follows}
use Rattle.consistency.proofs.Separated.{is_met, record_right, separated}
use Rattle.judge.specs.Judgments.{Judgment, is_number, model_judgment}
use Rattle.judge.specs.Covers.{IsBroken, broken-at, answer, Covers, Separates, TellsOthers}
use Rattle.judge.proofs.MeansLaws.{to_outcome, model_exact}

-- ---- what follows

module _ (words : ℕ) (s : List ℕ) where
  abbrev L : Layout
  L = edition_of s

  met_too : (i j : ℕ) → follows i j ≡ true → model_judgment L words i s ≡ Ok None → model_judgment L words j s ≡ Ok None
  met_too i j f e =
      let m = ((model_exact L words i s).exactly (Ok None)).0 e in
      ((model_exact L words j s).exactly (Ok None)).1
      (record { work = m.0.work; in_range = (follows-models i j f).1 }, m.1, follows_gives i j f (history_of L s) m.2)

  broken_too : (m : ℕ) (told : Judgment) → told ≡ model_judgment L words m s → IsBroken told → (i : ℕ) → follows i m ≡ true → IsBroken (model_judgment L words i s)
  unfolding model_judgment
  broken_too m told q (broken-at {x}) i f =
      let k = ((model_exact L words m s).exactly (Ok (Some x))).0 (sym q) in
      let known = to_outcome L words i (list_of i) s (record { work = k.0.work; in_range = (follows-models i m f).0 }) k.1 in
      go (first_broken (list_of i) (history_of L s)) known
    where
      go : (o : Outcome) → model_judgment L words i s ≡ Ok o → IsBroken (model_judgment L words i s)
      go None e = absurd (apart (met_too i m f e))
        where
          apart : model_judgment L words m s ≡ Ok None → ⊥
          apart z = let z : ◌≡◌ {A = ℕ} 0 1 = cc in omega arith
      go (Some x) e = subst IsBroken (sym e) broken-at

-- what an answer that code gives tells of other models
pub tells_others : (words m : ℕ) (s : List ℕ) {told : Judgment} → told ≡ model_judgment (edition_of s) words m s → TellsOthers words m s told
tells_others words m s {told} e = record {
  met = λ q j f. met_too words s m j f (sym e ∙ q);
  broken = broken_too words s m told e;
}

pub covers_following : (i j : ℕ) → follows i j ≡ true → Covers i j
covers_following i j f s = met_too work_words s i j f

-- each of the eighteen
pub covers_listed : (i j : ℕ) → listed implications i j ≡ true → Covers i j
covers_listed i j e = covers_following i j (listed-follows i j e)

-- ---- what does not

module _ (k : ℕ) (least : 1 ≤ k) (most : k ≤ 8) where
  abbrev bytes : List ℕ
  bytes = record_bytes gcr2 2 (separating_history k)

  -- the answer about record k's bytes is that about its history
  pub answer_is : (m : ℕ) → is_number m ≡ true → answer (separating_bytes k) m ≡ Ok (first_broken (list_of m) (separating_history k))
  unfolding separating_bytes model_judgment
  answer_is m e =
      let well = listed_well_formed 2 (numbered_record k).events (record_right k least most) in
      let written : Encoded gcr2 2 (separating_history k) = gcr2_encoded 2 (separating_history k) well in
      ap (λ (L : Layout). model_judgment L work_words m bytes) (gcr2-back 2 (separating_history k) well)
      ∙ to_outcome gcr2 work_words m (list_of m) bytes (record { work = omega arith; in_range = e }) (answer_of gcr2 bytes (Ok tt) written.passes)
      ∙ ap Ok (sym (first_broken-same (separating_history k) (history_of gcr2 bytes) written.agrees (list_of m)))

outcome_met : (o : Outcome) → is_met o ≡ true → o ≡ None
outcome_met None e = refl
outcome_met (Some x) e = absurd (tell false e refl)

outcome_broken : (o : Outcome) → is_met o ≡ false → IsBroken (Ok o)
outcome_broken None e = absurd (tell true refl e)
outcome_broken (Some x) e = broken-at

-- a record that separates two models shows that the second is not covered
not_covered : (i j : ℕ) (s : List ℕ) → Separates s i j → Covers i j → ⊥
not_covered i j s t c = go (answer s j) t.breaks (c s t.meets)
  where
    go : (told : Judgment) → IsBroken told → told ≡ Ok None → ⊥
    go (Ok o) broken-at e = let z : ◌≡◌ {A = ℕ} 0 1 = cc in omega arith
    go (Err u) b e = elim b [ ]

module _ (i j : ℕ) (first : is_number i ≡ true) (second : is_number j ≡ true) (other : i ≡ j → ⊥) where
  -- which of the eight records separates two models of which the second does not follow from the first
  pub separates : follows i j ≡ false → (1 ≤ separator i j) × (separator i j ≤ 8) × Separates (separating_bytes (separator i j)) i j
  separates free =
      let in-range = model_small i first in
      let in-range' = model_small j second in
      let at = separated i j in-range.0 in-range.1 in-range'.0 in-range'.1 other free in
      let k : ℕ = separator i j in (
        at.least,
        at.most,
        record {
          meets = answer_is k at.least at.most i first ∙ ap Ok (outcome_met (first_broken (list_of i) (separating_history k)) at.meets);
          breaks = subst IsBroken (sym (answer_is k at.least at.most j second)) (outcome_broken (first_broken (list_of j) (separating_history k)) at.breaks);
        },
      )

  -- the lattice: model i covers model j exactly if j follows from i
  pub covers_exactly : Covers i j ↔ (follows i j ≡ true)
  covers_exactly = (
    λ c. split (follows i j) (λ e. e) (λ e. absurd (not_covered i j (separating_bytes (separator i j)) (separates e).2 c)),
    covers_following i j,
  )
