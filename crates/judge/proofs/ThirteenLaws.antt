-- Laws of the numbers of the thirteen verdicts. Assumes nothing.
use mathlib.Core.Path.{◌≡◌, sym, ap, ap₂, ◌∙◌}
use mathlib.Core.List.{List, [], ◌∷◌, ◌++◌}
use Prim.Native.Nat.{ℕ, ◌+◌, ◌-◌, ◌^◌, ◌≤◌, ◌<◌}
use native.Mathlib.Numerals.{add-one}
use native.Mathlib.Omega.{arith}
use lib.ListN.{length, get_or, take, set}
use lib.Seq.{take_all, take-suc-set}
use Rattle.std.specs.Prelude.{Some, None}
use Rattle.rows.specs.Relation.{Rel}
use Rattle.record.specs.Layout.{most_events}
use Rattle.record.specs.History.{History}
use Rattle.consistency.specs.FirstPair.{Verdict}
use Rattle.consistency.specs.Predicates.{rule, breaks, verdict, predicates, numbered}
use Rattle.judge.specs.Lists.{packed_verdict, packed_verdicts}
use Rattle.consistency.specs.declared.Predicate.{Predicate}
use Rattle.consistency.specs.declared.Predicate.TheVariants.{RVal}
use Rattle.consistency.proofs.FirstPairLaws.{Says, says_of}

-- ---- events are few, so a verdict's number is small

small_said : (n : ℕ) (f : Rel) → n ≤ most_events → (v : Verdict) → Says n f v → packed_verdict v < 2 ^ 32
small_said n f i None s = omega arith
small_said n f i (Some x) s = omega (arith, s.left, s.right)

pub packed-small : (p : Predicate) (h : History) (v : Verdict) → h.count ≤ most_events → v ≡ verdict p h → packed_verdict v < 2 ^ 32
unfolding verdict
packed-small p h v i e = small_said h.count (breaks h (rule p h)) i v (says_of h.count (breaks h (rule p h)) v (sym e))

-- ---- the answers up to k are those of the first k predicates

module _ (h : History) (l : List ℕ) (k : ℕ) (i : take k l ≡ packed_verdicts k h) where
  pub packed_more : (v : Verdict) (x : ℕ) → k < length l → v ≡ verdict (get_or predicates k RVal) h → x ≡ packed_verdict v → take (k + 1) (set l k x) ≡ packed_verdicts (k + 1) h
  unfolding packed_verdicts numbered
  packed_more v x j f g =
      let place : k ≡ k + 1 - 1 = omega arith in
      rw add-one
      (take-suc-set l k x j
      ∙ ap₂ (λ (m : List ℕ) (y : ℕ). m ++ (y ∷ [])) i (g ∙ ap packed_verdict (f ∙ ap (λ (n : ℕ). verdict (get_or predicates n RVal) h) place)))

  pub packed_all : k ≡ 13 → length l ≡ 13 → l ≡ packed_verdicts 13 h
  packed_all e f = sym (take_all k l (omega arith)) ∙ i ∙ ap (λ (j : ℕ). packed_verdicts j h) e
