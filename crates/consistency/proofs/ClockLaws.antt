-- Clocks: so goes by one site's own, and rb is found without a sum. Assumes nothing.
use mathlib.Core.Path.{◌≡◌, refl, sym, ap, ◌∙◌}
use mathlib.Core.Bool.{Bool, true, false, cond, ◌&&◌, ◌||◌, and-true, and-false}
use Prim.Native.Nat.{ℕ, ◌+◌, ◌-◌}
use native.Mathlib.Omega.{arith}
use borrow.Author.Tests.{lt-ltb, ltb-true}
use lib.Dec.{ltb}
use Rattle.rows.proofs.Tests.{split, same_test}
use Rattle.record.specs.History.{History}
use Rattle.consistency.specs.Relations.{ss, rb, so}

-- a returned before the time t, by one clock
abbrev pub returned : History → ℕ → ℕ → Bool
returned h a t = cond (h.is_pending a) false (ltb (h.return a) t)

-- a sum on the left is a difference on the right, which is 0 where it would be less
sum_left : (r d s : ℕ) → ltb (r + d) s ≡ ltb r (s - d)
sum_left r d s =
    same_test (ltb (r + d) s) (ltb r (s - d))
    (λ e. lt-ltb r (s - d) (omega (arith, ltb-true (r + d) s e)))
    (λ e. lt-ltb (r + d) s (omega (arith, ltb-true r (s - d) e)))

module _ (h : History) (a b : ℕ) where
  abbrev d : ℕ
  d = h.terms.difference

  at-one-site : ss h a b ≡ true → rb h a b ≡ returned h a (h.start b)
  unfolding rb
  at-one-site e = rw e refl

  between_sites : ss h a b ≡ false → rb h a b ≡ returned h a (h.start b - h.terms.difference)
  unfolding rb
  between_sites e = rw e (ap (λ (t : Bool). cond (h.is_pending a) false t) (sum_left (h.return a) d (h.start b)))

  pub rb-even : h.terms.difference ≡ 0 → rb h a b ≡ returned h a (h.start b)
  rb-even e =
      split (ss h a b) at-one-site
      (λ f. between_sites f ∙ ap (returned h a) (omega (arith, e)))

  pub so-own : so h a b ≡ returned h a (h.start b) && ss h a b
  unfolding so
  so-own =
      split (ss h a b)
      (λ e. ap (λ (t : Bool). t && ss h a b) (at-one-site e))
      (λ e. rw e (and-false (rb h a b) ∙ sym (and-false (returned h a (h.start b)))))

  -- who returned long enough before b is so before it at its own site too
  sooner : returned h a (h.start b - d) ≡ true → returned h a (h.start b) ≡ true
  sooner = go (h.is_pending a)
    where
      go : (p : Bool) → cond p false (ltb (h.return a) (h.start b - d)) ≡ true → cond p false (ltb (h.return a) (h.start b)) ≡ true
      go true e = e
      go false e = lt-ltb (h.return a) (h.start b) (omega (arith, ltb-true (h.return a) (h.start b - d) e))

  -- rb is to have returned before b's start less the difference, or so
  pub rb_far : rb h a b ≡ returned h a (h.start b - h.terms.difference) || so h a b
  rb_far =
      split (ss h a b)
      (λ e. at-one-site e ∙ absorb (returned h a (h.start b - d)) (returned h a (h.start b)) sooner ∙ ap (λ (t : Bool). returned h a (h.start b - d) || t) (sym (so-own ∙ rw e (and-true (returned h a (h.start b))))))
      (λ e. between_sites e ∙ sym (ap (λ (t : Bool). returned h a (h.start b - d) || t) (so-own ∙ rw e (and-false (returned h a (h.start b)))) ∙ or-false (returned h a (h.start b - d))))
    where
      absorb : (x y : Bool) → (x ≡ true → y ≡ true) → y ≡ x || y
      absorb true y f = f refl
      absorb false y f = refl

      or-false : (x : Bool) → x || false ≡ x
      or-false true = refl
      or-false false = refl
