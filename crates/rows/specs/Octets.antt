-- Rows of bits in bytes: number b is bit b % 8 of byte base + b / 8. Bytes as little-endian numbers.
use Rattle.std.specs.Prelude.{Bool, List, [], ◌∷◌, ℕ, zero, suc, ◌+◌, ◌*◌, ◌/◌, ◌%◌, get_or}
use Rattle.rows.specs.Row.{bit_of}

unfoldable pub has_byte : List ℕ → ℕ → ℕ → Bool
unfolding bit_of
has_byte s base b = bit_of (get_or s (base + b / 8) 0) (b % 8)

-- the k bytes from `at` on, lowest first, as one number
unfoldable pub little : ℕ → List ℕ → ℕ → ℕ
little zero s at = 0
little (suc k) s at = get_or s at 0 + 256 * little k s (at + 1)

-- the w words from byte `at` on
unfoldable pub words : ℕ → List ℕ → ℕ → List ℕ
words zero s at = []
words (suc w) s at = little 8 s at ∷ words w s (at + 8)
