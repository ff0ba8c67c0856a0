-- Laws of predicate 1: what a read holds, and the lowest read that holds something else, from what tests told on the way. Assumes nothing.
use mathlib.Core.Path.{◌≡◌, refl, sym, ap, ap₂, ◌∙◌}
use mathlib.Core.Bool.{Bool, true, false, not, cond, ◌&&◌, and-false}
use Prim.Native.Nat.{ℕ, ◌<◌}
use native.Mathlib.Omega.{arith}
use lib.Dec.{eqb}
use borrow.Author.Tests.{eq-eqb, ne_eqb, not-true, not-false}
use Rattle.std.specs.Prelude.{Some, None}
use Rattle.record.specs.History.{History}
use Rattle.consistency.specs.FirstPair.{first}
use Rattle.record.specs.Terms.{Held, none, value}
use Rattle.consistency.specs.Reads.{last_write, same_held, held, left_by, expected, wrong_read, last_or, wrong, Last}
use Rattle.consistency.proofs.FirstPairLaws.{first-at, first-none}
use Rattle.consistency.proofs.LastWriteLaws.{last_or_lt}

-- ---- what a read holds, beside x; t is whether it holds anything

module _ (h : History) (e : ℕ) (x : Held) (t : Bool) (present : t ≡ h.is_present e) where
  pub held_none : x ≡ none → not t ≡ same_held (held h e) x
  held_none q = rw (q, ← present) (go t)
    where
      go : (s : Bool) → not s ≡ same_held (cond s (value (h.value e)) none) none
      go true = refl
      go false = refl

  pub held-absent : (v : ℕ) → x ≡ value v → not t ≡ true → false ≡ same_held (held h e) x
  held-absent v q f = rw (q, ← present, not-true t f)

  pub held-present : (v y z : ℕ) → x ≡ value v → not t ≡ false → y ≡ h.value e → z ≡ v → eqb y z ≡ same_held (held h e) x
  held-present v y z q f u w = rw (q, ← present, not-false t f) (ap₂ eqb u w)

-- ---- whether a read is wrong; s is whether it is a write, t whether it is pending

module _ (h : History) (e : ℕ) (s : Bool) (wrote : s ≡ h.is_write e) where
  pub right-write : not s ≡ false → wrong_read h e ≡ false
  unfolding wrong_read
  right-write f = rw (← wrote, not-false s f)

  module _ (t : Bool) (pending : t ≡ h.is_pending e) (reads : not s ≡ true) where
    pub right-pending : not t ≡ false → wrong_read h e ≡ false
    unfolding wrong_read
    right-pending f = rw (← wrote, ← pending, not-true s reads, not-false t f)

    -- u is whether it holds what the last write that it sees left
    pub wrong-held : (x : Last) (u v : Bool) → not t ≡ true → x ≡ last_write h e → u ≡ same_held (held h e) (left_by h e x) → not u ≡ v → wrong_read h e ≡ v
    unfolding wrong_read expected
    wrong-held x u v f l i g = rw (← wrote, ← pending, not-true s reads, not-true t f, ← l, ← i) g

-- ---- the lowest wrong read

pub reads-right : (h : History) (n : ℕ) → ((x : ℕ) → x < n → wrong_read h x ≡ false) → None ≡ first n (wrong h)
unfolding wrong
reads-right h n r = sym (first-none n (wrong h) (λ x y i j. ap (λ (t : Bool). t && eqb y (last_or x (last_write h x))) (r x i)))

-- e is wrong and no event below it; b is the last write that e sees, or e
pub read-wrong : (h : History) (e b : ℕ) (x : Last) → e < h.count → ((y : ℕ) → y < e → wrong_read h y ≡ false) → wrong_read h e ≡ true → x ≡ last_write h e → b ≡ last_or e x
    → Some (e, b) ≡ first h.count (wrong h)
unfolding wrong
read-wrong h e b x i r t q p = sym (first-at h.count (wrong h) e b (record {
  left = i;
  right = omega (arith, last_or_lt h e i, place);
  holds = rw (t, place) (eq-eqb (last_or e (last_write h e)) (last_or e (last_write h e)) refl);
  least_a = λ y z l j. ap (λ (s : Bool). s && eqb z (last_or y (last_write h y))) (r y l);
  least_b = λ z l. ap (λ (s : Bool). wrong_read h e && s) (ne_eqb z (last_or e (last_write h e)) (λ u. omega (arith, place))) ∙ and-false (wrong_read h e);
}))
  where
    place : b ≡ last_or e (last_write h e)
    place = p ∙ ap (last_or e) q
