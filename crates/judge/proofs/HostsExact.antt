-- The second demand, of the hosts' numbers, for every record, number and length of work slice. Assumes nothing.
use mathlib.Core.Path.{◌≡◌, refl, sym, ap, ◌∙◌}
use mathlib.Core.List.{List, [], ◌∷◌, ◌++◌}
use Prim.Native.Nat.{ℕ, zero, suc, ◌+◌, ◌-◌, ◌<◌, ◌≤◌}
use native.Mathlib.Omega.{arith}
use borrow.Author.Tests.{ltb-true, ltb-false}
use lib.Dec.{ltb}
use lib.ListN.{length, get_or, take, drop, length-append, length-take, length-drop, get_or-append}
use lib.Seq.{get_or-append-add, get_or-take}
use Rattle.rows.proofs.Tests.{split}
use Rattle.record.specs.Layout.{edition_of}
use Rattle.consistency.specs.Models.{list_of}
use Rattle.judge.specs.Judgments.{Judgment, judged, predicate_judgment, model_judgment, packed_judgment, packed_judgments, laid_over}
use Rattle.packed.specs.Packed.{unpacked}
use Rattle.judge.specs.Hosts.{ExactHost, ExactThirteen}
use Rattle.judge.proofs.MeansLaws.{judged-exact}
use Rattle.judge.proofs.ReadsBack.{reads-back}
use Rattle.judge.proofs.JudgmentLaws.{judged-fits}

module _ (words : ℕ) (s : List ℕ) where
  -- the parts of every judgment fit, so its number reads back
  list_host : (number : ℕ) (ps : List ℕ) {answer : ℕ} → answer ≡ packed_judgment (judged (edition_of s) words number s ps) → ExactHost words number ps s answer
  list_host number ps e =
      let j : Judgment = judged (edition_of s) words number s ps in
      record {
        judgment = j;
        exact = judged-exact (edition_of s) words number ps s;
        packed = e;
        reads = ap unpacked e ∙ reads-back j (judged-fits s words number ps);
      }

  pub predicate_host : (p : ℕ) {answer : ℕ} → answer ≡ packed_judgment (predicate_judgment (edition_of s) words p s) → ExactHost words p (p ∷ []) s answer
  unfolding predicate_judgment
  predicate_host p e = list_host p (p ∷ []) e

  pub model_host : (m : ℕ) {answer : ℕ} → answer ≡ packed_judgment (model_judgment (edition_of s) words m s) → ExactHost words m (list_of m) s answer
  unfolding model_judgment
  model_host m e = list_host m (list_of m) e

  -- ---- all thirteen

  -- the numbers of the first k predicates, and that of predicate p
  abbrev numbers : ℕ → List ℕ
  numbers k = packed_judgments (edition_of s) words k s

  abbrev packed_of : ℕ → ℕ
  packed_of p = packed_judgment (predicate_judgment (edition_of s) words p s)

  numbers-long : (k : ℕ) → length (numbers k) ≡ k
  unfolding packed_judgments
  numbers-long zero = refl
  numbers-long (suc k) = omega (arith, length-append (numbers k) (packed_of (k + 1) ∷ []), numbers-long k)

  -- the number at place i is predicate i + 1's
  number_at : (k i : ℕ) → i < k → get_or (numbers k) i 0 ≡ packed_of (i + 1)
  unfolding packed_judgments
  number_at zero i l = absurd (omega arith)
  number_at (suc k) i l =
      split (ltb i k)
      (λ t. let h = ltb-true i k t in get_or-append (numbers k) (packed_of (k + 1) ∷ []) 0 i (omega (arith, numbers-long k)) ∙ number_at k i h)
      (λ t. let h = ltb-false i k t in last (omega arith))
    where
      last : i ≡ k → get_or (numbers k ++ (packed_of (k + 1) ∷ [])) i 0 ≡ packed_of (i + 1)
      last e =
          let end : i ≡ length (numbers k) + 0 = omega (arith, numbers-long k) in
          ap (λ (j : ℕ). get_or (numbers k ++ (packed_of (k + 1) ∷ [])) j 0) end ∙ get_or-append-add (numbers k) (packed_of (k + 1) ∷ []) 0 0 ∙ ap (λ (j : ℕ). packed_of (j + 1)) (sym e)

  predicate_at : (p : ℕ) → 1 ≤ p → p ≤ 13 → get_or (numbers 13) (p - 1) 0 ≡ packed_of p
  predicate_at p i j =
      let back : p - 1 + 1 ≡ p = omega arith in
      number_at 13 (p - 1) (omega arith) ∙ ap packed_of back

  pub thirteen-at : {out : List ℕ} → out ≡ numbers 13 → (p : ℕ) → 1 ≤ p → p ≤ 13 → get_or out (p - 1) 0 ≡ packed_of p
  thirteen-at e p i j = ap (λ (v : List ℕ). get_or v (p - 1) 0) e ∙ predicate_at p i j

  pub thirteen_hosts : {out : List ℕ} → out ≡ numbers 13 → ExactThirteen words s out
  thirteen_hosts e p i j l = predicate_host p (thirteen-at e p i j)

  -- in a host's buffer
  pub laid_at : (out : List ℕ) {after : List ℕ} → after ≡ laid_over (numbers 13) out → (p : ℕ) → 1 ≤ p → p ≤ 13 → p ≤ length after → get_or after (p - 1) 0 ≡ packed_of p
  laid_at out e p i j l =
      let v : List ℕ = numbers 13 in
      let front : List ℕ = take (length out) v in
      let rest : List ℕ = drop (length v) out in
      let below : p ≤ length out = omega (arith, ap length e, length-append front rest, length-take (length out) v, length-drop (length v) out, numbers-long 13) in
      let within : p - 1 < length front = omega (arith, length-take (length out) v, numbers-long 13) in
      ap (λ (x : List ℕ). get_or x (p - 1) 0) e ∙ get_or-append front rest 0 (p - 1) within ∙ get_or-take (length out) v (p - 1) 0 (omega arith) ∙ predicate_at p i j

  pub laid_hosts : (out : List ℕ) {after : List ℕ} → after ≡ laid_over (numbers 13) out → ExactThirteen words s after
  laid_hosts out e p i j l = predicate_host p (laid_at out e p i j l)
