-- Laws of lists of predicates: the first broken predicate of what is left of a list from place k on. Assumes nothing.
use mathlib.Core.Path.{◌≡◌, refl, sym, ap, ◌∙◌}
use mathlib.Core.List.{List}
use Prim.Native.Nat.{ℕ, ◌+◌, ◌<◌, ◌≤◌}
use lib.ListN.{length, get_or, drop, drop_of_length-le}
use Rattle.std.specs.Prelude.{Some, None}
use Rattle.std.proofs.lemmas.List.{drop_more}
use Rattle.record.specs.History.{History}
use Rattle.consistency.specs.FirstPair.{Verdict}
use Rattle.consistency.specs.Predicates.{verdict}
use Rattle.consistency.specs.Models.{Outcome, or_else, broken_at, first_broken}
use denote.Enum.Declared.{tag_of}
use Rattle.consistency.specs.contracts.Predicate.{the_type}
use Rattle.consistency.specs.declared.Predicate.{Predicate}
use Rattle.consistency.specs.declared.Predicate.TheVariants.{RVal, SingleOrder, RealTime, RealTimeWrites, MonotonicReads, ReadYourWrites, MonotonicWrites, WritesFollowReads, Pram, CausalVisibility, CausalArbitration, PerObjectPram, PerObjectSingleOrder}
use Rattle.judge.specs.Lists.{predicate_number, numbers_of}
use Rattle.judge.proofs.JudgmentLaws.{number_back}

-- a predicate's place among the variants, counted from 1, is its number
pub tag_number : (p : Predicate) → tag_of the_type p + 1 ≡ predicate_number p
tag_number RVal = refl
tag_number SingleOrder = refl
tag_number RealTime = refl
tag_number RealTimeWrites = refl
tag_number MonotonicReads = refl
tag_number ReadYourWrites = refl
tag_number MonotonicWrites = refl
tag_number WritesFollowReads = refl
tag_number Pram = refl
tag_number CausalVisibility = refl
tag_number CausalArbitration = refl
tag_number PerObjectPram = refl
tag_number PerObjectSingleOrder = refl

module _ (h : History) (ps : List Predicate) (k : ℕ) where
  -- the list is at its end
  pub left_past : length ps ≤ k → first_broken (numbers_of (drop k ps)) h ≡ None
  unfolding first_broken
  left_past i = rw (drop_of_length-le ps {i = k} i)

  -- the predicate at place k has verdict v; o is the whole list's outcome
  module _ (i : k < length ps) (v : Verdict) (f : v ≡ verdict (get_or ps k RVal) h) (o : Outcome) (e : o ≡ first_broken (numbers_of (drop k ps)) h) where
    next : o ≡ or_else (predicate_number (get_or ps k RVal)) v (first_broken (numbers_of (drop (k + 1) ps)) h)
    unfolding first_broken
    next = e ∙ ap (λ (qs : List Predicate). first_broken (numbers_of qs) h) (drop_more ps k RVal i)
        ∙ ap (λ (u : Verdict). or_else (predicate_number (get_or ps k RVal)) u (first_broken (numbers_of (drop (k + 1) ps)) h)) (ap (λ (q : Predicate). verdict q h) (number_back (get_or ps k RVal)) ∙ sym f)

    pub left-met : v ≡ None → o ≡ first_broken (numbers_of (drop (k + 1) ps)) h
    left-met g = next ∙ ap (λ (u : Verdict). or_else (predicate_number (get_or ps k RVal)) u (first_broken (numbers_of (drop (k + 1) ps)) h)) g

    pub left-broken : (x : ℕ × ℕ) → v ≡ Some x → broken_at (predicate_number (get_or ps k RVal)) x ≡ o
    left-broken x g = sym (next ∙ ap (λ (u : Verdict). or_else (predicate_number (get_or ps k RVal)) u (first_broken (numbers_of (drop (k + 1) ps)) h)) g)
