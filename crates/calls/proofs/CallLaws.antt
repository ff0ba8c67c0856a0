-- A call's eight bytes as one word: what the code reads off it is what `call_at` reads off the bytes. Assumes nothing.
use mathlib.Core.Path.{◌≡◌, sym, ap, ◌∙◌}
use mathlib.Core.Bool.{Bool, true, ◌&&◌}
use mathlib.Core.List.{List}
use Prim.Native.Nat.{ℕ, ◌+◌, ◌*◌, ◌/◌, ◌%◌, ◌<◌}
use native.Mathlib.Omega.{arith}
use lib.Dec.{eqb}
use lib.ListN.{get_or}
use borrow.Author.Tests.{ne_eqb, eqb-true}
use Rattle.rows.proofs.Tests.{split, never, and_left, and_right}
use Rattle.rows.specs.Octets.{little}
use Rattle.rows.proofs.ByteLaws.{little_join, little_two, little_lt}
use Rattle.record.specs.Layout.{byte}
use Rattle.store.specs.Calls.{put, get, deliver, close, malformed, call_at}

module _ (s : List ℕ) (bytes : (i : ℕ) → get_or s i 0 < 256) (at : ℕ) where
  -- a word of four bytes and a number of four more
  pub record Word (x : ℕ) : Type 0 where
    kind : x % 256 ≡ byte s at
    site : x / 256 % 256 ≡ byte s (at + 1)
    object : x / 65536 % 256 ≡ byte s (at + 2)
    zero : x / 16777216 % 256 ≡ byte s (at + 3)
    value : x / 4294967296 ≡ little 4 s (at + 4)
    rest : x / 16777216 ≡ byte s (at + 3) + 256 * little 4 s (at + 4)
    event : x / 4294967296 % 65536 ≡ little 2 s (at + 4)
    gap : x / 65536 % 65536 ≡ byte s (at + 2) + 256 * byte s (at + 3)
    last : x / 281474976710656 ≡ little 2 s (at + 6)

  head : little 4 s at ≡ byte s at + (256 * byte s (at + 1) + (65536 * byte s (at + 2) + 16777216 * byte s (at + 3)))
  head =
      let next : at + 2 + 1 ≡ at + 3 = omega arith in
      omega (arith, little_join 2 2 s at, little_two s at, little_two s (at + 2), ap (byte s) next)

  tail : little 4 s (at + 4) ≡ little 2 s (at + 4) + 65536 * little 2 s (at + 6)
  tail = let next : at + 4 + 2 ≡ at + 6 = omega arith in omega (arith, little_join 2 2 s (at + 4), ap (little 2 s) next)

  word : (x : ℕ) → x ≡ little 8 s at → Word x
  word x e =
      let whole : x ≡ byte s at + (256 * byte s (at + 1) + (65536 * byte s (at + 2) + (16777216 * byte s (at + 3) + 4294967296 * little 4 s (at + 4)))) =
      omega (arith, little_join 4 4 s at, head) in
      let b₀ = bytes at in
      let b₁ = bytes (at + 1) in
      let b₂ = bytes (at + 2) in
      let b₃ = bytes (at + 3) in
      let low = little_lt s bytes 2 (at + 4) in
      let parts = tail in record {
        kind = omega arith;
        site = omega arith;
        object = omega arith;
        zero = omega arith;
        value = omega arith;
        rest = omega arith;
        event = omega arith;
        gap = omega arith;
        last = omega arith;
      }

  module _ (x : ℕ) (read : x ≡ little 8 s at) where
    w : Word x
    w = word x read

    kind_is : (k : ℕ) → x % 256 ≡ k → byte s at ≡ k
    kind_is k e = sym w.kind ∙ e

    pub asked_put : x % 256 ≡ 1 → x / 16777216 % 256 ≡ 0 → put (x / 256 % 256) (x / 65536 % 256) (x / 4294967296) ≡ call_at s at
    unfolding call_at
    asked_put k z = rw (← w.zero, z, kind_is 1 k, w.site, w.object, w.value)

    pub asked_no_put : x % 256 ≡ 1 → (x / 16777216 % 256 ≡ 0 → ⊥) → malformed ≡ call_at s at
    unfolding call_at
    asked_no_put k z = rw (← w.zero, ne_eqb (x / 16777216 % 256) 0 z)

    pub asked_get : x % 256 ≡ 2 → x / 16777216 ≡ 0 → get (x / 256 % 256) (x / 65536 % 256) ≡ call_at s at
    unfolding call_at
    asked_get k z =
        let third : byte s (at + 3) ≡ 0 = omega (arith, w.rest) in
        let none : little 4 s (at + 4) ≡ 0 = omega (arith, w.rest) in
        rw (third, kind_is 2 k, none, w.site, w.object)

    pub asked_no_get : x % 256 ≡ 2 → (x / 16777216 ≡ 0 → ⊥) → malformed ≡ call_at s at
    unfolding call_at
    asked_no_get k z = rw (kind_is 2 k) (split (eqb (byte s (at + 3)) 0)
        (λ t. rw (t, ne_eqb (little 4 s (at + 4)) 0 (λ q. z (omega (arith, w.rest, eqb-true (byte s (at + 3)) 0 t)))))
        (λ t. rw t))

    pub asked_deliver : x % 256 ≡ 3 → x / 65536 % 65536 ≡ 0 → x / 281474976710656 ≡ 0 → deliver (x / 4294967296) (x / 256 % 256) ≡ call_at s at
    unfolding call_at
    asked_deliver k g z =
        let third : byte s (at + 3) ≡ 0 = omega (arith, w.gap) in
        let second : byte s (at + 2) ≡ 0 = omega (arith, w.gap) in
        let event : x / 4294967296 ≡ little 2 s (at + 4) = omega (arith, w.event, z) in
        rw (third, kind_is 3 k, second, ← w.last, z, w.site, event)

    pub asked_late : x % 256 ≡ 3 → x / 65536 % 65536 ≡ 0 → (x / 281474976710656 ≡ 0 → ⊥) → malformed ≡ call_at s at
    unfolding call_at
    asked_late k g z =
        let third : byte s (at + 3) ≡ 0 = omega (arith, w.gap) in
        let second : byte s (at + 2) ≡ 0 = omega (arith, w.gap) in
        rw (third, kind_is 3 k, second, ← w.last, ne_eqb (x / 281474976710656) 0 z)

    pub asked_gap : x % 256 ≡ 3 → (x / 65536 % 65536 ≡ 0 → ⊥) → malformed ≡ call_at s at
    unfolding call_at
    asked_gap k g = rw (kind_is 3 k) (split (eqb (byte s (at + 3)) 0)
        (λ t. rw (t, ne_eqb (byte s (at + 2)) 0 (λ q. g (omega (arith, w.gap, eqb-true (byte s (at + 3)) 0 t)))))
        (λ t. rw t))

    pub asked_close : x ≡ 4 → close ≡ call_at s at
    unfolding call_at
    asked_close e =
        let kind : byte s at ≡ 4 = omega (arith, w.kind) in
        let first : byte s (at + 1) ≡ 0 = omega (arith, w.site) in
        let second : byte s (at + 2) ≡ 0 = omega (arith, w.object) in
        let third : byte s (at + 3) ≡ 0 = omega (arith, w.zero) in
        let tail : little 4 s (at + 4) ≡ 0 = omega (arith, w.value) in
        rw (kind, first, second, third, tail)

    pub asked_none : (x % 256 ≡ 1 → ⊥) → (x % 256 ≡ 2 → ⊥) → (x % 256 ≡ 3 → ⊥) → (x ≡ 4 → ⊥) → malformed ≡ call_at s at
    unfolding call_at
    asked_none k₁ k₂ k₃ k₄ =
        rw (ne_eqb (byte s at) 1 (λ q. k₁ (w.kind ∙ q)), ne_eqb (byte s at) 2 (λ q. k₂ (w.kind ∙ q)), ne_eqb (byte s at) 3 (λ q. k₃ (w.kind ∙ q)))
        (split (eqb (byte s (at + 3)) 0) (λ t. rw (t, never is_close (λ e. k₄ (four (eqb-true (byte s (at + 3)) 0 t) e)))) (λ t. rw t))
      where
        is_close : Bool
        is_close = eqb (byte s at) 4 && (eqb (byte s (at + 1)) 0 && (eqb (byte s (at + 2)) 0 && eqb (little 4 s (at + 4)) 0))

        -- the word of a close is 4
        four : byte s (at + 3) ≡ 0 → is_close ≡ true → x ≡ 4
        four z e =
            let c₁ = and_right (eqb (byte s at) 4) (eqb (byte s (at + 1)) 0 && (eqb (byte s (at + 2)) 0 && eqb (little 4 s (at + 4)) 0)) e in
            let c₂ = and_right (eqb (byte s (at + 1)) 0) (eqb (byte s (at + 2)) 0 && eqb (little 4 s (at + 4)) 0) c₁ in
            omega (
              arith,
              read,
              little_join 4 4 s at,
              head,
              z,
              eqb-true (byte s at) 4 (and_left (eqb (byte s at) 4) _ e),
              eqb-true (byte s (at + 1)) 0 (and_left (eqb (byte s (at + 1)) 0) _ c₁),
              eqb-true (byte s (at + 2)) 0 (and_left (eqb (byte s (at + 2)) 0) (eqb (little 4 s (at + 4)) 0) c₂),
              eqb-true (little 4 s (at + 4)) 0 (and_right (eqb (byte s (at + 2)) 0) (eqb (little 4 s (at + 4)) 0) c₂),
            )
