-- `calls::make::answer` meets its contract: the bytes of the event and of the value, where one is found. Assumes nothing.
use mathlib.Core.Path.{◌≡◌, refl, ap, ◌∙◌}
use mathlib.Core.List.{◌∷◌, ◌++◌}
use Prim.Native.Nat.{ℕ, ◌+◌, ◌*◌, ◌/◌, ◌%◌, ◌^◌, ◌<◌, ◌≤◌}
use native.Mathlib.Omega.{arith}
use mir.Val.{bool_byte}
use Rattle.std.specs.Option.{is_some, unwrap_or}
use Rattle.std.specs.Prelude.{Option, Some, None}
use Rattle.record.specs.Encode.{little_bytes}
use Rattle.record.specs.Terms.{value_or0}
use Rattle.store.specs.Rules.{is_found}
use Rattle.calls.specs.Mirror.{held_of}
use Rattle.calls.proofs.CalledLaws.{eight_bytes}
use Rattle.calls.proofs.make.answer.Goals as goal

flag : (found : Option ℕ) → bool_byte (is_some found) ≡ is_found (held_of found)
flag None = refl
flag (Some v) = refl

value : (found : Option ℕ) → unwrap_or found 0 ≡ value_or0 (held_of found)
value None = refl
value (Some v) = refl

-- each byte of the number
pub joined : (x f e v : ℕ) → f ≤ 1 → e < 2 ^ 16 → v < 2 ^ 32 → x ≡ 256 * f + 65536 * e + 4294967296 * v → little_bytes 8 x ≡ 0 ∷ f ∷ (little_bytes 2 e ++ little_bytes 4 v)
unfolding little_bytes
joined x f e v a b c is =
    let b₀ : x % 256 ≡ 0 = omega arith in
    let b₁ : x / 256 % 256 ≡ f = omega arith in
    let b₂ : x / 65536 % 256 ≡ e % 256 = omega arith in
    let b₃ : x / 16777216 % 256 ≡ e / 256 % 256 = omega arith in
    let b₄ : x / 4294967296 % 256 ≡ v % 256 = omega arith in
    let b₅ : x / 1099511627776 % 256 ≡ v / 256 % 256 = omega arith in
    let b₆ : x / 281474976710656 % 256 ≡ v / 256 / 256 % 256 = omega arith in
    let b₇ : x / 72057594037927936 % 256 ≡ v / 256 / 256 / 256 % 256 = omega arith in
    eight_bytes x ∙ rw (b₀, b₁, b₂, b₃, b₄, b₅, b₆, b₇) refl

few : (found : Option ℕ) → is_found (held_of found) ≤ 1
few None = omega arith
few (Some v) = omega arith

pub returns : goal.returns
returns c =
    let found = c.args.found in
    let small = c.unwrap_or-value.type_inv in
    let some : bool_byte c.is_some.result ≡ is_found (held_of found) = ap bool_byte c.is_some.ensures ∙ flag found in
    rw some (joined _ (is_found (held_of found)) c.args.event c.unwrap_or-value.result (few found) c.requires small refl
    ∙ ap (λ (v : ℕ). 0 ∷ is_found (held_of found) ∷ (little_bytes 2 c.args.event ++ little_bytes 4 v)) (c.unwrap_or-value.ensures ∙ value found))
