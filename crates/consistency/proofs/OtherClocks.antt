-- The same events and openings, under clocks that differ by more or less: all but predicates 3 and 4 have the same verdict, and what a smaller difference
-- met, a larger meets. Assumes nothing.
use mathlib.Core.Path.{◌≡◌, refl, sym, ap₂, ◌∙◌}
use mathlib.Core.Bool.{Bool, true, false, ◌||◌, true≢false}
use mathlib.Core.List.{List, [], ◌∷◌}
use Prim.Native.Nat.{ℕ, ◌-◌, ◌<◌, ◌≤◌}
use native.Mathlib.Omega.{arith}
use borrow.Author.Tests.{lt-ltb, ltb-true}
use Rattle.std.specs.Prelude.{Some, None}
use Rattle.rows.proofs.Tests.{split, or_elim, or_left, or_right, and_both, and_left, and_right}
use Rattle.record.specs.History.{History, SameEvents}
use Rattle.consistency.specs.FirstPair.{Verdict}
use Rattle.consistency.specs.Relations.{rb, so, ar, write, from}
use Rattle.consistency.specs.Predicates.{rule, by_clocks, verdict, numbered}
use Rattle.consistency.specs.Holds.{Holds, Obeys, Within}
use Rattle.consistency.specs.Models.{timed, or_else, first_broken}
use Rattle.consistency.specs.declared.Predicate.{Predicate}
use Rattle.consistency.specs.declared.Predicate.TheVariants.{RVal, SingleOrder, RealTime, RealTimeWrites, MonotonicReads, ReadYourWrites, MonotonicWrites, WritesFollowReads, Pram, CausalVisibility, CausalArbitration, PerObjectPram, PerObjectSingleOrder}
use Rattle.consistency.proofs.ClockLaws.{returned, rb_far}
use Rattle.consistency.proofs.MetIffHolds.{met_holds, within-met}
use Rattle.consistency.proofs.SameVerdict.{SameFor, so-same, ar-same, verdict_for}

module _ (h k : History) (s : SameEvents h k) (o : SameFor RVal h.terms k.terms) where
  -- ---- all but 3 and 4

  same_but_clocks : (p : Predicate) → by_clocks p ≡ false → SameFor p h.terms k.terms
  same_but_clocks RVal e = o
  same_but_clocks SingleOrder e = tt
  same_but_clocks RealTime e = absurd (true≢false e)
  same_but_clocks RealTimeWrites e = absurd (true≢false e)
  same_but_clocks MonotonicReads e = tt
  same_but_clocks ReadYourWrites e = tt
  same_but_clocks MonotonicWrites e = tt
  same_but_clocks WritesFollowReads e = tt
  same_but_clocks Pram e = tt
  same_but_clocks CausalVisibility e = tt
  same_but_clocks CausalArbitration e = tt
  same_but_clocks PerObjectPram e = tt
  same_but_clocks PerObjectSingleOrder e = tt

  pub other_eleven : (p : Predicate) → by_clocks p ≡ false → verdict p h ≡ verdict p k
  other_eleven p e = verdict_for h k s p (same_but_clocks p e)

  pub list_steady : (ps : List ℕ) → timed ps ≡ false → first_broken ps h ≡ first_broken ps k
  unfolding first_broken
  list_steady [] e = refl
  list_steady (p ∷ ps) e = go (list_steady ps) (by_clocks (numbered p)) refl e
    where
      go : (timed ps ≡ false → first_broken ps h ≡ first_broken ps k) → (t : Bool) → by_clocks (numbered p) ≡ t → t || timed ps ≡ false
          → or_else p (verdict (numbered p) h) (first_broken ps h) ≡ or_else p (verdict (numbered p) k) (first_broken ps k)
      go rest true q f = absurd (true≢false f)
      go rest false q f = ap₂ (or_else p) (other_eleven (numbered p) q) (rest f)

  -- ---- a larger difference

  module _ (more : h.terms.difference ≤ k.terms.difference) where
    sooner : (a b : ℕ) → a < h.count → b < h.count → returned k a (k.start b - k.terms.difference) ≡ true → returned h a (h.start b - h.terms.difference) ≡ true
    sooner a b i j e =
        split (h.is_pending a)
        (λ p. absurd (true≢false (sym e ∙ rw (sym (s.is_pending a i) ∙ p) refl)))
        (λ p. let f = ltb-true (k.return a) (k.start b - k.terms.difference) (rw (sym (s.is_pending a i) ∙ p) at e) in
        rw p (lt-ltb (h.return a) (h.start b - h.terms.difference) (omega (arith, more, s.return a i p, s.start b j, f))))

    rb_less : (a b : ℕ) → a < h.count → b < h.count → rb k a b ≡ true → rb h a b ≡ true
    rb_less a b i j e =
        rb_far h a b
        ∙ or_elim (returned k a (k.start b - k.terms.difference)) (so k a b) (sym (rb_far k a b) ∙ e)
        (λ f. or_left (returned h a (h.start b - h.terms.difference)) (so h a b) (sooner a b i j f))
        (λ f. or_right (returned h a (h.start b - h.terms.difference)) (so h a b) (so-same h k s a b i j ∙ f))

    -- for every pair, or only those that begin in a set
    within-ar : (f g : ℕ → Bool) → ((a : ℕ) → a < h.count → f a ≡ g a) → Within h.count (from f (rb h)) (ar h) → Within k.count (from g (rb k)) (ar k)
    within-ar f g same w a b i j e =
        let i' : a < h.count = omega (arith, s.count) in
        let j' : b < h.count = omega (arith, s.count) in
        sym (ar-same h k s a b i' j')
        ∙ w a b i' j' (and_both (f a) (rb h a b) (same a i' ∙ and_left (g a) (rb k a b) e) (rb_less a b i' j' (and_right (g a) (rb k a b) e)))

    pub met-larger : (p : Predicate) → verdict p h ≡ None → verdict p k ≡ None
    unfolding Holds Obeys rule
    met-larger RVal e = sym (other_eleven RVal refl) ∙ e
    met-larger SingleOrder e = sym (other_eleven SingleOrder refl) ∙ e
    met-larger RealTime e = within-met RealTime k (rb k) (ar k) refl (within-ar (λ a. true) (λ a. true) (λ a i. refl) (met_holds RealTime h e))
    met-larger RealTimeWrites e = within-met RealTimeWrites k (from (write k) (rb k)) (ar k) refl (within-ar (write h) (write k) s.is_write (met_holds RealTimeWrites h e))
    met-larger MonotonicReads e = sym (other_eleven MonotonicReads refl) ∙ e
    met-larger ReadYourWrites e = sym (other_eleven ReadYourWrites refl) ∙ e
    met-larger MonotonicWrites e = sym (other_eleven MonotonicWrites refl) ∙ e
    met-larger WritesFollowReads e = sym (other_eleven WritesFollowReads refl) ∙ e
    met-larger Pram e = sym (other_eleven Pram refl) ∙ e
    met-larger CausalVisibility e = sym (other_eleven CausalVisibility refl) ∙ e
    met-larger CausalArbitration e = sym (other_eleven CausalArbitration refl) ∙ e
    met-larger PerObjectPram e = sym (other_eleven PerObjectPram refl) ∙ e
    met-larger PerObjectSingleOrder e = sym (other_eleven PerObjectSingleOrder refl) ∙ e

    pub list_larger : (ps : List ℕ) → first_broken ps h ≡ None → first_broken ps k ≡ None
    unfolding first_broken
    list_larger [] e = refl
    list_larger (p ∷ ps) e = go (list_larger ps) (verdict (numbered p) h) refl e
      where
        go : (first_broken ps h ≡ None → first_broken ps k ≡ None) → (v : Verdict) → verdict (numbered p) h ≡ v → or_else p v (first_broken ps h) ≡ None
            → or_else p (verdict (numbered p) k) (first_broken ps k) ≡ None
        go rest None q f = ap₂ (or_else p) (met-larger (numbered p) q) (rest f)
        go rest (Some (a, b)) q f = let z : ◌≡◌ {A = ℕ} 0 1 = cc in absurd (omega arith)
