-- Judgments by their tests, and the host's number of each: a break is at two events, so every part of the number fits. Assumes nothing.
use mathlib.Core.Path.{◌≡◌, refl, sym, ap, ap₂, ◌∙◌, subst}
use mathlib.Core.Logic.{◌⊎◌, ⊎_elim}
use mathlib.Core.Bool.{Bool, true, false, ◌&&◌, false≢true}
use mathlib.Core.List.{List, [], ◌∷◌, ◌++◌}
use Prim.Native.Nat.{ℕ, zero, suc, ◌+◌, ◌^◌, ◌<◌, ◌≤◌, min}
use native.Mathlib.Omega.{arith}
use borrow.Author.Tests.{eqb-true, le-leb, lt-leb, leb-true, leb-false, ltb-true, ltb-false}
use lib.Dec.{eqb, leb, ltb}
use lib.ListN.{length, take, drop, replicate, length-take, drop_of_length-le}
use lib.Seq.{take_all}
use native.Mathlib.Numerals.{add-one}
use Rattle.rows.specs.Lowest.{some}
use Rattle.rows.proofs.Tests.{split}
use Rattle.rows.proofs.FrontLaws.{replicate_more}
use Rattle.std.specs.Prelude.{Some, None, Ok, Err, is_ok, is_err}
use Rattle.packed.specs.Packed.{places}
use Rattle.record.specs.Layout.{edition_of, count_in, most_events, work_words}
use Rattle.record.specs.History.{History, history_of, Agree}
use Rattle.record.specs.Questions.{Reading, place_of, ask, if_passed, questions, reading}
use Rattle.record.specs.Words.{work_after}
use Rattle.record.specs.declared.Refusal.{Refusal}
use Rattle.record.specs.declared.Refusal.TheVariants.{ShortWork}
use Rattle.record.proofs.QuestionLaws.{reading-short, reading-long}
use Rattle.record.proofs.QuestionsAnswered.{number-most, place_small, passed-count}
use Rattle.consistency.specs.FirstPair.{Verdict}
use Rattle.consistency.specs.Predicates.{breaks, rule, numbered, verdict}
use Rattle.consistency.specs.Models.{list_of, Outcome, or_else, first_broken}
use Rattle.judge.specs.Judgments.{Judgment, Admission, is_number, admission, admit, judged_list, judged, predicate_judgment, model_judgment, packed_judgment, packed_judgments, laid_over, work_after_judgment}
use Rattle.judge.specs.Lists.{predicate_number, packed_verdict, packed_verdicts}
use Rattle.consistency.specs.declared.Predicate.{Predicate}
use Rattle.consistency.specs.declared.Predicate.TheVariants.{RVal, SingleOrder, RealTime, RealTimeWrites, MonotonicReads, ReadYourWrites, MonotonicWrites, WritesFollowReads, Pram, CausalVisibility, CausalArbitration, PerObjectPram, PerObjectSingleOrder}
use Rattle.judge.specs.declared.Unjudged.{Unjudged}
use Rattle.judge.specs.declared.Unjudged.TheVariants.{NoSuchNumber, Refused}
use Rattle.consistency.proofs.Separated.{every-at}
use Rattle.consistency.proofs.FirstPairLaws.{Says, first_says}
use Rattle.consistency.proofs.SameVerdict.{verdict-same}
use Rattle.judge.proofs.ReadsBack.{Fitting}

-- ---- questions 3 to 10, and then a list

module _ (s ps : List ℕ) (r : Reading) (asked : r ≡ questions (edition_of s) s) where
  pub list_refused : (x : Refusal) → r ≡ Err x → Err (Refused x) ≡ judged_list (edition_of s) s ps
  unfolding judged_list
  list_refused x e = rw (← asked, e)

  pub list_judged : r ≡ Ok tt → (o : Outcome) → o ≡ first_broken ps (history_of (edition_of s) s) → Ok o ≡ judged_list (edition_of s) s ps
  unfolding judged_list
  list_judged z o e = rw (← asked, z, e)

-- ---- questions 1 and 2 before them

-- a yes to both
abbrev yes : Admission
yes = Ok tt

module _ (words number : ℕ) where
  pub admit-short : words < work_words → Err (Refused ShortWork) ≡ admission words number
  unfolding admission
  admit-short h = rw (lt-leb work_words words h)

  pub admit_low : work_words ≤ words → number < 1 → Err NoSuchNumber ≡ admission words number
  unfolding admission
  admit_low h k = rw (le-leb work_words words h, lt-leb 1 number k)

  pub admit_high : work_words ≤ words → 13 < number → Err NoSuchNumber ≡ admission words number
  unfolding admission
  admit_high h k = let l : 1 ≤ number = omega arith in rw (le-leb work_words words h, le-leb 1 number l, lt-leb number 13 k)

  pub admit_out : work_words ≤ words → (number < 1) ⊎ ((1 ≤ number) × (13 < number)) → Err NoSuchNumber ≡ admission words number
  admit_out h k = ⊎_elim (admit_low h) (λ p. admit_high h p.1) k

  pub admit-both : work_words ≤ words → 1 ≤ number → number ≤ 13 → Ok tt ≡ admission words number
  unfolding admission
  admit-both h l k = rw (le-leb work_words words h, le-leb 1 number l, le-leb number 13 k)

  -- what a yes to both says
  pub granted : admission words number ≡ Ok tt → (work_words ≤ words) × (1 ≤ number) × (number ≤ 13)
  unfolding admission
  granted e = work (leb work_words words) refl e
    where
      high : work_words ≤ words → 1 ≤ number → (t : Bool) → leb number 13 ≡ t → ask t (Err NoSuchNumber) yes ≡ yes → (work_words ≤ words) × (1 ≤ number) × (number ≤ 13)
      high w l true q f = (w, l, leb-true number 13 q)
      high w l false q f = absurd (false≢true (ap is_ok f))

      low : work_words ≤ words → (t : Bool) → leb 1 number ≡ t → ask (t && leb number 13) (Err NoSuchNumber) yes ≡ yes → (work_words ≤ words) × (1 ≤ number) × (number ≤ 13)
      low w true q f = high w (leb-true 1 number q) (leb number 13) refl f
      low w false q f = absurd (false≢true (ap is_ok f))

      work : (t : Bool) → leb work_words words ≡ t → ask t (Err (Refused ShortWork)) (ask (is_number number) (Err NoSuchNumber) yes) ≡ yes → (work_words ≤ words) × (1 ≤ number) × (number ≤ 13)
      work true q f = low (leb-true work_words words q) (leb 1 number) refl f
      work false q f = absurd (false≢true (ap is_ok f))

-- the work slice stays where one got a no
pub left_alone : (words number : ℕ) (e : Unjudged) → admission words number ≡ Err e → (s work : List ℕ) → work ≡ work_after_judgment (Err e) s work
unfolding admission work_after
left_alone words number e q s work = work_asked (leb work_words words) q
  where
    same : (x : Unjudged) → x ≡ e → work ≡ work_after_judgment (Err x) s work → work ≡ work_after_judgment (Err e) s work
    same x f w = subst (λ (y : Unjudged). work ≡ work_after_judgment (Err y) s work) f w

    number_asked : (t : Bool) → ask t (Err NoSuchNumber) yes ≡ Err e → work ≡ work_after_judgment (Err e) s work
    number_asked true f = absurd (false≢true (ap is_err f))
    number_asked false f = same NoSuchNumber (cc) refl

    work_asked : (t : Bool) → ask t (Err (Refused ShortWork)) (ask (is_number number) (Err NoSuchNumber) yes) ≡ Err e → work ≡ work_after_judgment (Err e) s work
    work_asked true f = number_asked (is_number number) f
    work_asked false f = same (Refused ShortWork) (cc) refl

-- an answer that goes by them, r being how they were answered
pub by-admission : {A : Type 0} (words number : ℕ) (refused : Unjudged → A) (next : A) {r q : Admission} → r ≡ admission words number → r ≡ q
    → admit q refused next ≡ admit (admission words number) refused next
by-admission words number refused next e f = ap (λ (t : Admission). admit t refused next) (sym f ∙ e)

module _ (words number : ℕ) (s ps : List ℕ) where
  pub judged_as : {r q : Admission} → r ≡ admission words number → r ≡ q → admit q Err (judged_list (edition_of s) s ps) ≡ judged (edition_of s) words number s ps
  unfolding judged
  judged_as e f = by-admission words number Err (judged_list (edition_of s) s ps) e f

-- ---- predicates by number

pub number_back : (p : Predicate) → numbered (predicate_number p) ≡ p
unfolding numbered
number_back RVal = refl
number_back SingleOrder = refl
number_back RealTime = refl
number_back RealTimeWrites = refl
number_back MonotonicReads = refl
number_back ReadYourWrites = refl
number_back MonotonicWrites = refl
number_back WritesFollowReads = refl
number_back Pram = refl
number_back CausalVisibility = refl
number_back CausalArbitration = refl
number_back PerObjectPram = refl
number_back PerObjectSingleOrder = refl

pub numbered_back : (k : ℕ) → 1 ≤ k → k ≤ 13 → predicate_number (numbered k) ≡ k
unfolding numbered some
numbered_back k i j = eqb-true (predicate_number (numbered k)) k (every-at 13 (λ k. eqb (predicate_number (numbered k)) k) refl k i j)

-- ---- all thirteen

pub packed-same : (h k : History) → Agree h k → (m : ℕ) → packed_verdicts m h ≡ packed_verdicts m k
unfolding packed_verdicts
packed-same h k s zero = refl
packed-same h k s (suc m) =
    ap₂ (λ (l : List ℕ) (v : Verdict). l ++ (packed_verdict v ∷ [])) (packed-same h k s m) (verdict-same h k s (numbered (m + 1)))

-- the number of a verdict is that of a list of one
verdict-packed : (p : ℕ) (v : Verdict) → packed_verdict v ≡ packed_judgment (Ok (or_else p v None))
verdict-packed p None = refl
verdict-packed p (Some x) = refl

module _ (words : ℕ) (s : List ℕ) (r : Reading) (asked : r ≡ reading (edition_of s) words s) where
  -- a record that is not read has the same judgment for every number
  predicate_refused : (x : Refusal) → r ≡ Err x → (p : ℕ) → 1 ≤ p → p ≤ 13 → predicate_judgment (edition_of s) words p s ≡ Err (Refused x)
  unfolding predicate_judgment
  predicate_refused x f p i j = split (leb work_words words) long short
    where
      short : leb work_words words ≡ false → judged (edition_of s) words p s (p ∷ []) ≡ Err (Refused x)
      short t =
          let l = leb-false work_words words t in
          let refused : Refusal → Judgment = λ y. Err (Refused y) in
          let same : Err ShortWork ≡ Err x = sym (reading-short (edition_of s) words s l) ∙ sym asked ∙ f in
          sym (judged_as words p s (p ∷ []) (admit-short words p l) refl) ∙ ap refused cc

      long : leb work_words words ≡ true → judged (edition_of s) words p s (p ∷ []) ≡ Err (Refused x)
      long t =
          let l = leb-true work_words words t in
          sym (list_refused s (p ∷ []) r (asked ∙ reading-long (edition_of s) words s l) x f ∙ judged_as words p s (p ∷ []) (admit-both words p l i j) refl)

  pub judgments_refused : (x : Refusal) → r ≡ Err x → (k : ℕ) → k ≤ 13 → replicate k (packed_judgment (Err (Refused x))) ≡ packed_judgments (edition_of s) words k s
  unfolding packed_judgments
  judgments_refused x f zero l = refl
  judgments_refused x f (suc k) l =
      let y : ℕ = packed_judgment (Err (Refused x)) in
      ap (λ (j : ℕ). replicate j y) (sym (add-one k)) ∙ replicate_more k y
      ∙ ap₂ (λ (m : List ℕ) (j : Judgment). m ++ (packed_judgment j ∷ [])) (judgments_refused x f k (omega arith)) (sym (predicate_refused x f (k + 1) (omega arith) (omega arith)))

  predicate_judged : r ≡ Ok tt → (p : ℕ) → 1 ≤ p → p ≤ 13 → predicate_judgment (edition_of s) words p s ≡ Ok (first_broken (p ∷ []) (history_of (edition_of s) s))
  unfolding predicate_judgment
  predicate_judged z p i j = split (leb work_words words) long short
    where
      short : leb work_words words ≡ false → judged (edition_of s) words p s (p ∷ []) ≡ Ok (first_broken (p ∷ []) (history_of (edition_of s) s))
      short t = absurd (false≢true (ap is_ok (sym (reading-short (edition_of s) words s (leb-false work_words words t)) ∙ sym asked ∙ z)))

      long : leb work_words words ≡ true → judged (edition_of s) words p s (p ∷ []) ≡ Ok (first_broken (p ∷ []) (history_of (edition_of s) s))
      long t =
          let l = leb-true work_words words t in
          sym (list_judged s (p ∷ []) r (asked ∙ reading-long (edition_of s) words s l) z (first_broken (p ∷ []) (history_of (edition_of s) s)) refl ∙ judged_as words p s (p ∷ []) (admit-both words p l i j) refl)

  pub judgments_judged : r ≡ Ok tt → (k : ℕ) → k ≤ 13 → packed_verdicts k (history_of (edition_of s) s) ≡ packed_judgments (edition_of s) words k s
  unfolding packed_verdicts packed_judgments first_broken
  judgments_judged z zero l = refl
  judgments_judged z (suc k) l =
      let v : Verdict = verdict (numbered (k + 1)) (history_of (edition_of s) s) in
      ap₂ (λ (m : List ℕ) (x : ℕ). m ++ (x ∷ [])) (judgments_judged z k (omega arith))
      (verdict-packed (k + 1) v ∙ ap packed_judgment (sym (predicate_judged z (k + 1) (omega arith) (omega arith))))

-- ---- a host's buffer

-- the first n of vs are copied, for the lesser n of the two lengths
pub over-front : (vs out : List ℕ) (n : ℕ) → n ≡ min (length vs) (length out) → take n vs ++ drop (length (take n vs)) out ≡ laid_over vs out
over-front vs out n e = split (ltb (length out) (length vs)) short long
  where
    short : ltb (length out) (length vs) ≡ true → take n vs ++ drop (length (take n vs)) out ≡ laid_over vs out
    short t =
        let l = ltb-true (length out) (length vs) t in
        let q : n ≡ length out = omega arith in
        ap₂ ◌++◌ (ap (λ (k : ℕ). take k vs) q) (drop_of_length-le out {i = length (take n vs)} (omega (arith, length-take n vs)) ∙ sym (drop_of_length-le out {i = length vs} (omega arith)))

    long : ltb (length out) (length vs) ≡ false → take n vs ++ drop (length (take n vs)) out ≡ laid_over vs out
    long t =
        let l = ltb-false (length out) (length vs) t in
        let q : length (take n vs) ≡ length vs = omega (arith, length-take n vs) in
        ap₂ ◌++◌ (take_all n vs (omega arith) ∙ sym (take_all (length out) vs l)) (ap (λ (k : ℕ). drop k out) q)

-- ---- a break is at two events

abbrev pub PairBelow : ℕ → Outcome → Type 0
PairBelow n None = Unit
PairBelow n (Some x) = (x.first < n) × (x.second < n)

pub broken-below : (h : History) (ps : List ℕ) → PairBelow h.count (first_broken ps h)
unfolding first_broken verdict
broken-below h [] = tt
broken-below h (p ∷ ps) = go (broken-below h ps) (verdict (numbered p) h) (first_says h.count (breaks h (rule (numbered p) h)))
  where
    go : PairBelow h.count (first_broken ps h) → (v : Verdict) → Says h.count (breaks h (rule (numbered p) h)) v
        → PairBelow h.count (or_else p v (first_broken ps h))
    go rest None f = rest
    go rest (Some x) f = (f.left, f.right)

-- ---- so the parts of every judgment fit into the host's number

outcome_fits : (n : ℕ) → n ≤ most_events → (o : Outcome) → PairBelow n o → Fitting (Ok o)
outcome_fits n h None f = tt
outcome_fits n h (Some x) f = (omega (arith, f.0), omega (arith, f.1))

module _ (s : List ℕ) where
  questions_place : place_of (questions (edition_of s) s) < places
  unfolding reading
  questions_place = place_small work_words s

  passed-fits : (ps : List ℕ) → questions (edition_of s) s ≡ Ok tt → Fitting (Ok (first_broken ps (history_of (edition_of s) s)))
  unfolding history_of
  passed-fits ps q = outcome_fits (count_in s) (passed-count s q) (first_broken ps (history_of (edition_of s) s)) (broken-below (history_of (edition_of s) s) ps)

  pub judged-fits : (words number : ℕ) (ps : List ℕ) → Fitting (judged (edition_of s) words number s ps)
  unfolding judged judged_list admission
  judged-fits words number ps = work (leb work_words words)
    where
      asked : (r : Reading) → questions (edition_of s) s ≡ r → Fitting (if_passed r (λ x. Err (Refused x)) (Ok (first_broken ps (history_of (edition_of s) s))))
      asked (Ok u) e = passed-fits ps e
      asked (Err x) e = subst (λ (r : Reading). place_of r < places) e questions_place

      numbers : (t : Bool) → Fitting (admit (ask t (Err NoSuchNumber) (Ok tt)) Err (if_passed (questions (edition_of s) s) (λ x. Err (Refused x)) (Ok (first_broken ps (history_of (edition_of s) s)))))
      numbers true = asked (questions (edition_of s) s) refl
      numbers false = tt

      work : (t : Bool)
          → Fitting (admit (ask t (Err (Refused ShortWork)) (ask (is_number number) (Err NoSuchNumber) (Ok tt))) Err (if_passed (questions (edition_of s) s) (λ x. Err (Refused x)) (Ok (first_broken ps (history_of (edition_of s) s)))))
      work true = numbers (is_number number)
      work false = omega arith

  pub predicate_fits : (words p : ℕ) → Fitting (predicate_judgment (edition_of s) words p s)
  unfolding predicate_judgment
  predicate_fits words p = judged-fits words p (p ∷ [])

  pub model_fits : (words m : ℕ) → Fitting (model_judgment (edition_of s) words m s)
  unfolding model_judgment
  model_fits words m = judged-fits words m (list_of m)

pub fitting_small : (j : Judgment) → Fitting j → packed_judgment j < 2 ^ 32
fitting_small (Ok None) f = omega arith
fitting_small (Ok (Some x)) f = omega (arith, f.0, f.1)
fitting_small (Err NoSuchNumber) f = omega arith
fitting_small (Err (Refused r)) f = omega (arith, f, number-most (Err r))
