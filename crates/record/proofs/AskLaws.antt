-- Laws of questions: a yes goes on to the next question, and the first no is the answer. Assumes nothing.
use mathlib.Core.Path.{◌≡◌, refl, sym, ap, ◌∙◌}
use mathlib.Core.Bool.{Bool, true, false, not}
use Prim.Native.Nat.{ℕ, ◌<◌, ◌≤◌}
use native.Mathlib.Omega.{arith}
use lib.Dec.{eqb}
use borrow.Author.Tests.{lt-ltb}
use Rattle.std.specs.Prelude.{Err}
use Rattle.rows.specs.Lowest.{lowest, some}
use Rattle.rows.proofs.Tests.{split, not_of}
use Rattle.rows.proofs.LowestLaws.{lowest_low, lowest_hit, some_at, some-none, none-some}
use Rattle.record.specs.declared.Refusal.{Refusal}
use Rattle.record.specs.Questions.{Reading, number_of, refusal_number, ask, ask_each, and_then}
use Rattle.record.specs.Answers.{LowestWrong}

-- ---- by the test

pub ask_yes : {A : Type 0} (t : Bool) (r next : A) → t ≡ true → ask t r next ≡ next
ask_yes true r next e = refl
ask_yes false r next e = cc

pub ask_no : {A : Type 0} (t : Bool) (r next : A) → t ≡ false → ask t r next ≡ r
ask_no true r next e = cc
ask_no false r next e = refl

pub each_yes : (n : ℕ) (wrong : ℕ → Bool) (r : ℕ → Refusal) (next : Reading) → ((k : ℕ) → k < n → wrong k ≡ false) → ask_each n wrong r next ≡ next
each_yes n wrong r next h = ask_yes (not (some n wrong)) (Err (r (lowest n wrong))) next (not_of (some n wrong) (none-some n wrong h))

-- ---- by the number k that a search answered

pub none_past : (n : ℕ) (wrong : ℕ → Bool) (k : ℕ) → k ≡ lowest n wrong → n ≤ k → (j : ℕ) → j < n → wrong j ≡ false
none_past n wrong k low h j l = (lowest_low n wrong).below j (omega arith)

module _ (n : ℕ) (wrong : ℕ → Bool) (r : ℕ → Refusal) (next : Reading) (k : ℕ) (low : k ≡ lowest n wrong) where
  pub each-found : k < n → ask_each n wrong r next ≡ Err (r k)
  unfolding some
  each-found h = ask_no (not (some n wrong)) (Err (r (lowest n wrong))) next (ap not (lt-ltb (lowest n wrong) n (omega arith))) ∙ ap (λ (j : ℕ). Err (r j)) (sym low)

-- ---- what holds of every answer: of the refusal where the test fails, and of the next question's answers where it does not

pub ask_into : (P : Reading → Type 0) (t : Bool) (r next : Reading) → (t ≡ false → P r) → (t ≡ true → P next) → P (ask t r next)
ask_into P true r next stop go = go refl
ask_into P false r next stop go = stop refl

pub each_into : (P : Reading → Type 0) (n : ℕ) (wrong : ℕ → Bool) (r : ℕ → Refusal) (next : Reading)
    → ((k : ℕ) → LowestWrong n wrong k → P (Err (r k))) → (((k : ℕ) → k < n → wrong k ≡ false) → P next) → P (ask_each n wrong r next)
each_into P n wrong r next stop go =
    split (some n wrong)
    (λ t. rw t (let w = some_at n wrong t in stop (lowest n wrong) (record { within = w.0; fails = w.1; lower = (lowest_low n wrong).below })))
    (λ t. rw t (go (some-none n wrong t)))

pub each_first : (n : ℕ) (wrong : ℕ → Bool) (r : ℕ → Refusal) (next : Reading) (k : ℕ) → LowestWrong n wrong k → ask_each n wrong r next ≡ Err (r k)
each_first n wrong r next k f = each-found n wrong r next k (sym (lowest_hit n wrong k f.within f.lower f.fails)) f.within

-- ---- questions after questions

pub ask-then : (t : Bool) (r next last : Reading) → eqb (number_of r) 0 ≡ false → and_then (ask t r next) last ≡ ask t r (and_then next last)
ask-then true r next last e = refl
ask-then false r next last e = rw e

pub each-then : (n : ℕ) (wrong : ℕ → Bool) (r : ℕ → Refusal) (next last : Reading) → ((k : ℕ) → eqb (refusal_number (r k)) 0 ≡ false)
    → and_then (ask_each n wrong r next) last ≡ ask_each n wrong r (and_then next last)
each-then n wrong r next last e = ask-then (not (some n wrong)) (Err (r (lowest n wrong))) next last (e (lowest n wrong))
