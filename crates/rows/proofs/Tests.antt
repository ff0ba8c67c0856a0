-- Laws of tests: truth values taken apart and put together. Assumes nothing.
use mathlib.Core.Path.{◌≡◌, refl, sym, ◌∙◌}
use mathlib.Core.Bool.{Bool, true, false, not, ◌&&◌, ◌||◌, true≢false}
use borrow.Author.Rules.{rules}
use borrow.Author.Tests.{lt-ltb, le-ltb, le-leb, lt-leb, eq-eqb, ne_eqb, not-true, not-false}

-- by cases, with the equation kept
pub split : {C : Type 0} (t : Bool) → (t ≡ true → C) → (t ≡ false → C) → C
split true f g = f refl
split false f g = g refl

pub tell : (t : Bool) → t ≡ true → t ≡ false → ⊥
tell t e f = true≢false (sym e ∙ f)

-- tests that imply each other are equal
pub same_test : (s t : Bool) → (s ≡ true → t ≡ true) → (t ≡ true → s ≡ true) → s ≡ t
same_test true t f g = sym (f refl)
same_test false true f g = g refl
same_test false false f g = refl

-- a test that cannot hold
pub never : (t : Bool) → (t ≡ true → ⊥) → t ≡ false
never true f = absurd (f refl)
never false f = refl

pub or_elim : {C : Type 0} (s t : Bool) → s || t ≡ true → (s ≡ true → C) → (t ≡ true → C) → C
or_elim true t e f g = f refl
or_elim false t e f g = g e

pub or_left : (s t : Bool) → s ≡ true → s || t ≡ true
or_left true t e = refl
or_left false t e = cc

pub or_right : (s t : Bool) → t ≡ true → s || t ≡ true
or_right true t e = refl
or_right false t e = e

pub and_both : (s t : Bool) → s ≡ true → t ≡ true → s && t ≡ true
and_both true t e f = f
and_both false t e f = e

pub and_left : (s t : Bool) → s && t ≡ true → s ≡ true
and_left true t e = refl
and_left false t e = e

pub and_right : (s t : Bool) → s && t ≡ true → t ≡ true
and_right true t e = e
and_right false t e = cc

pub not_of : (t : Bool) → t ≡ false → not t ≡ true
not_of true e = cc
not_of false e = refl

-- ---- a row of `if`s with their returns, against a definition that asks the same in the same order

-- for `search`: the value of a test that a contract speaks of, from what the code's own test told
pub ruleset tests = (rules, lt-ltb, le-ltb, le-leb, lt-leb, eq-eqb, ne_eqb)

-- the same where the test is `!f(..)`: r is what f returned, and a what it ensures
pub told_false : {r a : Bool} → r ≡ a → not r ≡ true → a ≡ false
told_false {r} e t = sym e ∙ not-true r t

pub told_true : {r a : Bool} → r ≡ a → not r ≡ false → a ≡ true
told_true {r} e t = sym e ∙ not-false r t
