-- Sums over the numbers below n, and how many of these pass a test.
use Rattle.std.specs.Prelude.{Bool, cond, ℕ, zero, suc, ◌+◌}

-- f 0 + .. + f (n - 1)
unfoldable pub sum : ℕ → (ℕ → ℕ) → ℕ
sum zero f = 0
sum (suc k) f = sum k f + f k

-- how many numbers below n pass the test f
abbrev pub how_many : ℕ → (ℕ → Bool) → ℕ
how_many n f = sum n (λ x. cond (f x) 1 0)
