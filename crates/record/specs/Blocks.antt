-- The two check sums of a block: A starts at the block's number plus 1, B at 0; each of the 254 words before them is added to A, and A to B.
use Rattle.std.specs.Prelude.{Bool, ◌&&◌, List, ℕ, zero, suc, ◌+◌, ◌*◌, ◌%◌, eqb}
use Rattle.rows.specs.Octets.{little}

-- A and B of block k after its first i words
unfoldable pub sum_a : ℕ → List ℕ → ℕ → ℕ
sum_a zero s k = k + 1
sum_a (suc i) s k = (sum_a i s k + little 2 s (512 * k + 2 * i)) % 65521

unfoldable pub sum_b : ℕ → List ℕ → ℕ → ℕ
sum_b zero s k = 0
sum_b (suc i) s k = (sum_b i s k + sum_a (suc i) s k) % 65521

-- the check of block k is right
unfoldable pub block_right : List ℕ → ℕ → Bool
block_right s k = eqb (little 2 s (512 * k + 508)) (sum_a 254 s k) && eqb (little 2 s (512 * k + 510)) (sum_b 254 s k)
