-- Predicates that follow from one or two others, of every history, by their numbers. Assumes nothing.
use mathlib.Core.Path.{◌≡◌, refl, sym, ap, ◌∙◌}
use mathlib.Core.Bool.{Bool, true, false, not, ◌&&◌, and-true, and-false}
use Prim.Native.Nat.{ℕ, ◌<◌}
use native.Mathlib.Omega.{arith}
use borrow.Author.Tests.{lt-ltb, ltb-true}
use Rattle.rows.specs.Lowest.{lowest}
use Rattle.rows.specs.Relation.{Rel, one, more}
use Rattle.rows.proofs.LowestLaws.{some_at}
use Rattle.rows.proofs.Tests.{tell, never, or_elim, or_left, or_right, and_both, and_left, and_right, not_of}
use Rattle.record.specs.History.{History, vis}
use Rattle.consistency.specs.Relations.{ss, ob, rb, so, ar, step, hb, Chain, write, read, through}
use Rattle.consistency.specs.Predicates.{rule, numbered}
use Rattle.consistency.specs.Holds.{Within, Fits, Obeys, Holds}
use Rattle.consistency.proofs.HappensBefore.{chain-hb, chained_within}

module _ (h : History) where
  abbrev n : ℕ
  n = h.count

  -- ---- so

  so-rb : (a b : ℕ) → so h a b ≡ true → rb h a b ≡ true
  unfolding so
  so-rb a b e = and_left (rb h a b) (ss h a b) e

  rb-returned : (a b : ℕ) → rb h a b ≡ true → h.is_pending a ≡ false
  unfolding rb
  rb-returned a b e = never (h.is_pending a) (λ p. tell false (sym (rw p refl) ∙ e) refl)

  -- ---- 2 and 13: what returned is seen by whatever is after it, and nothing sees what is after it

  module _ (q r : Rel) (fits : Fits h q r) (a b : ℕ) (i : a < h.count) (j : b < h.count) where
    fits-right : q a b ≡ true → r a b ≡ true
    fits-right e = and_left (r a b) (not (fits.set a)) (sym (fits.pairs a b i j) ∙ e)

    fits-left : h.is_pending a ≡ false → r a b ≡ true → q a b ≡ true
    fits-left p e =
        fits.pairs a b i j
        ∙ and_both (r a b) (not (fits.set a)) e (not_of (fits.set a) (never (fits.set a) (λ s. tell (h.is_pending a) (fits.pending a i s) p)))

  ar_join : (a b c : ℕ) → ar h a b ≡ true → ar h b c ≡ true → ar h a c ≡ true
  unfolding ar
  ar_join a b c e f =
      lt-ltb (h.position a) (h.position c) (omega (arith, ltb-true (h.position a) (h.position b) e, ltb-true (h.position b) (h.position c) f))

  module _ (single : Fits h (vis h) (ar h)) where
    -- vis is transitive: who sees an event sees what that one sees
    vis_join : (a b c : ℕ) → a < n → b < n → c < n → vis h a b ≡ true → vis h b c ≡ true → vis h a c ≡ true
    vis_join a b c i j k e f =
        let kept : not (single.set a) ≡ true = and_right (ar h a b) (not (single.set a)) (sym (single.pairs a b i j) ∙ e) in
        single.pairs a c i k
        ∙ and_both (ar h a c) (not (single.set a))
        (ar_join a b c (fits-right (vis h) (ar h) single a b i j e) (fits-right (vis h) (ar h) single b c j k f)) kept

    module _ (pram : Within n (so h) (vis h)) where
      step-vis : (a b : ℕ) → a < n → b < n → step h a b ≡ true → vis h a b ≡ true
      unfolding step
      step-vis a b i j e = or_elim (so h a b) (vis h a b) e (pram a b i j) (λ f. f)

      chain-vis : (a b : ℕ) → a < n → b < n → Chain h a b → vis h a b ≡ true
      chain-vis a b i j (one e) = step-vis a b i j e
      chain-vis a b i j (more {b = c} e k s) = vis_join a c b i k j (step-vis a c i k e) (chain-vis c b k j s)

      hb-vis : Within n (hb h) (vis h)
      hb-vis = chained_within h (vis h) chain-vis

      hb-ar : Within n (hb h) (ar h)
      hb-ar a b i j e = fits-right (vis h) (ar h) single a b i j (hb-vis a b i j e)

  -- ---- one or two steps are hb

  so-hb : (a b : ℕ) → so h a b ≡ true → hb h a b ≡ true
  unfolding step
  so-hb a b e = chain-hb h a b (one (or_left (so h a b) (vis h a b) e))

  through-hb : (a c : ℕ) → through h (read h) (vis h) (so h) a c ≡ true → hb h a c ≡ true
  unfolding step through
  through-hb a c e =
      let f : ℕ → Bool = λ b. vis h a b && (read h b && so h b c) in
      let b : ℕ = lowest n f in
      let at = some_at n f e in
      let rest : read h b && so h b c ≡ true = and_right (vis h a b) (read h b && so h b c) at.1 in
      chain-hb h a c
      (more (or_right (so h a b) (vis h a b) (and_left (vis h a b) (read h b && so h b c) at.1)) at.0
      (one (or_left (so h b c) (vis h b c) (and_right (read h b) (so h b c) rest))))

  -- ---- predicates that follow from one or two others

  -- predicate p holds
  abbrev pub On : ℕ → Type 0
  On p = Holds (numbered p) h

  pub three_gives_four : On 3 → On 4
  unfolding Holds Obeys rule numbered
  three_gives_four w a b i j e = w a b i j (and_right (write h a) (rb h a b) e)

  pub two_three_give_nine : On 2 → On 3 → On 9
  unfolding Holds Obeys rule numbered
  two_three_give_nine o w a b i j e =
      let r = so-rb a b e in
      fits-left (vis h) (ar h) o a b i j (rb-returned a b r) (w a b i j r)

  pub two_nine_give_ten : On 2 → On 9 → On 10
  unfolding Holds Obeys rule numbered
  two_nine_give_ten o w = hb-vis o w

  pub two_nine_give_eleven : On 2 → On 9 → On 11
  unfolding Holds Obeys rule numbered
  two_nine_give_eleven o w = hb-ar o w

  pub two_gives_thirteen : On 2 → On 13
  unfolding Holds Obeys rule numbered
  two_gives_thirteen o = record {
    set = o.set;
    pending = o.pending;
    pairs = λ a b i j. ap (λ (t : Bool). t && ob h a b) (o.pairs a b i j) ∙ exchange (ar h a b) (not (o.set a)) (ob h a b);
  }
    where
      exchange : (x y z : Bool) → (x && y) && z ≡ (x && z) && y
      exchange true true z = sym (and-true z)
      exchange true false z = sym (and-false z)
      exchange false y z = refl

  pub nine_gives_six : On 9 → On 6
  unfolding Holds Obeys rule numbered
  nine_gives_six w a b i j e = w a b i j (and_right (read h b) (so h a b) (and_right (write h a) (read h b && so h a b) e))

  pub nine_gives_twelve : On 9 → On 12
  unfolding Holds Obeys rule numbered
  nine_gives_twelve w a b i j e = w a b i j (and_left (so h a b) (ob h a b) e)

  pub ten_gives_nine : On 10 → On 9
  unfolding Holds Obeys rule numbered
  ten_gives_nine w a b i j e = w a b i j (so-hb a b e)

  pub ten_gives_five : On 10 → On 5
  unfolding Holds Obeys rule numbered
  ten_gives_five w a c i j e = w a c i j (through-hb a c (and_right (read h c) (through h (read h) (vis h) (so h) a c) e))

  pub eleven_gives_seven : On 11 → On 7
  unfolding Holds Obeys rule numbered
  eleven_gives_seven w a b i j e = w a b i j (so-hb a b (and_right (write h b) (so h a b) (and_right (write h a) (write h b && so h a b) e)))

  pub eleven_gives_eight : On 11 → On 8
  unfolding Holds Obeys rule numbered
  eleven_gives_eight w a c i j e =
      let q : Bool = through h (read h) (vis h) (so h) a c in
      w a c i j (through-hb a c (and_right (write h c) q (and_right (write h a) (write h c && q) e)))

  pub two_four_give_six : On 2 → On 4 → On 6
  unfolding Holds Obeys rule numbered
  two_four_give_six o w a b i j e =
      let r = so-rb a b (and_right (read h b) (so h a b) (and_right (write h a) (read h b && so h a b) e)) in
      fits-left (vis h) (ar h) o a b i j (rb-returned a b r)
      (w a b i j (and_both (write h a) (rb h a b) (and_left (write h a) (read h b && so h a b) e) r))

  pub four_gives_seven : On 4 → On 7
  unfolding Holds Obeys rule numbered
  four_gives_seven w a b i j e =
      let r = so-rb a b (and_right (write h b) (so h a b) (and_right (write h a) (write h b && so h a b) e)) in
      w a b i j (and_both (write h a) (rb h a b) (and_left (write h a) (write h b && so h a b) e) r)
