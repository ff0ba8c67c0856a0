-- The lowest and the highest number at which a test holds.
use Rattle.std.specs.Prelude.{Bool, cond, ℕ, zero, suc, ltb, Option, Some, None}

-- the lowest of the m numbers from k on at which f holds, or the number after them
unfoldable pub search_from : (ℕ → Bool) → ℕ → ℕ → ℕ
search_from f k zero = k
search_from f k (suc m) = cond (f k) k (search_from f (suc k) m)

-- the lowest number below n at which f holds, or n
unfoldable pub lowest : ℕ → (ℕ → Bool) → ℕ
unfolding search_from
lowest n f = search_from f 0 n

-- f holds somewhere below n
unfoldable pub some : ℕ → (ℕ → Bool) → Bool
unfolding lowest
some n f = ltb (lowest n f) n

-- the highest number below k at which f holds, or n
unfoldable pub search_down : (ℕ → Bool) → ℕ → ℕ → ℕ
search_down f n zero = n
search_down f n (suc k) = cond (f k) k (search_down f n k)

-- the highest number below n at which f holds, or n
unfoldable pub highest : ℕ → (ℕ → Bool) → ℕ
unfolding search_down
highest n f = search_down f n n

-- k, if it is below n
abbrev pub if_below : ℕ → ℕ → Option ℕ
if_below n k = cond (ltb k n) (Some k) None

-- the lowest and the highest number below n at which f holds, if there is any
abbrev pub found : ℕ → (ℕ → Bool) → Option ℕ
found n f = if_below n (lowest n f)

abbrev pub found_last : ℕ → (ℕ → Bool) → Option ℕ
found_last n f = if_below n (highest n f)
