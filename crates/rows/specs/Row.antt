-- Rows of bits: a list of 64-bit words is the set of the numbers b whose bit, b % 64 of word b / 64, is set.
use Rattle.std.specs.Prelude.{◌≡◌, Bool, not, ◌&&◌, List, [], ◌∷◌, ◌++◌, ℕ, ◌+◌, ◌-◌, ◌*◌, ◌/◌, ◌%◌, ◌^◌, min, eqb, ltb, length, get_or, set, take, drop}
use Rattle.std.specs.Int.Bits.{bit_and, bit_or}
use Rattle.std.specs.Int.Count.{ones}

-- binary digit k of n
unfoldable pub digit : ℕ → ℕ → ℕ
digit n k = n / 2 ^ k % 2

unfoldable pub bit_of : ℕ → ℕ → Bool
unfolding digit
bit_of n k = eqb (digit n k) 1

-- b is a member of the row l
unfoldable pub has : List ℕ → ℕ → Bool
unfolding bit_of
has l b = bit_of (get_or l (b / 64) 0) (b % 64)

unfoldable pub insert : List ℕ → ℕ → List ℕ
insert l b = set l (b / 64) (bit_or (get_or l (b / 64) 0) (2 ^ (b % 64)))

unfoldable pub erase : List ℕ → ℕ → List ℕ
erase l b = set l (b / 64) (bit_and (get_or l (b / 64) 0) ((2 ^ 64 - 1) - 2 ^ (b % 64)))

-- the union of two rows, as wide as the first
abbrev pub or_row : List ℕ → List ℕ → List ℕ
or_row [] m = []
or_row (x ∷ l) [] = x ∷ l
or_row (x ∷ l) (y ∷ m) = bit_or x y ∷ or_row l m

-- what two rows share, in the words that the second has; the first's later words stay
abbrev pub and_row : List ℕ → List ℕ → List ℕ
and_row [] m = []
and_row (x ∷ l) [] = x ∷ l
and_row (x ∷ l) (y ∷ m) = bit_and x y ∷ and_row l m

-- what the first row has and the second lacks, as wide as the first
abbrev pub minus_row : List ℕ → List ℕ → List ℕ
minus_row [] m = []
minus_row (x ∷ l) [] = x ∷ l
minus_row (x ∷ l) (y ∷ m) = bit_and x ((2 ^ 64 - 1) - y) ∷ minus_row l m

-- l with the union of m and the row that stands in l from word `at` on
abbrev pub or_part : List ℕ → ℕ → List ℕ → List ℕ
or_part l at m = take at l ++ (or_row (take (length m) (drop at l)) m ++ drop (length m) (drop at l))

-- how many members a row has: its count of ones
abbrev pub count_row : List ℕ → ℕ
count_row [] = 0
count_row (x ∷ l) = ones x + count_row l

-- x is a member of l and not of m
abbrev pub only_first : List ℕ → List ℕ → ℕ → Bool
only_first l m x = has l x && not (has m x)

-- word i of the row of the numbers below n
abbrev pub below_word : ℕ → ℕ → ℕ
below_word n i = 2 ^ min 64 (n - 64 * i) - 1

-- row b of a table g of rows of w words, one after the other
abbrev pub row_at : List ℕ → ℕ → ℕ → List ℕ
row_at g w b = take w (drop (b * w) g)

-- the members of the row l are the numbers below n at which f holds
abbrev pub Row : ℕ → (ℕ → Bool) → List ℕ → Type 0
Row n f l = (x : ℕ) → has l x ≡ (ltb x n && f x)

-- a table of rows of w words with m in the place of row b
abbrev pub put_row : List ℕ → ℕ → ℕ → List ℕ → List ℕ
put_row g w b m = take (b * w) g ++ (m ++ drop w (drop (b * w) g))

-- row c is replaced by m: so of every word, and of each row, where rows have a word
pub record RowPut (w c : ℕ) (m old new : List ℕ) : Type 0 where
  pub whole : new ≡ put_row old w c m
  pub size : length new ≡ length old
  pub same : row_at new w c ≡ m
  pub other : (d : ℕ) → (d ≡ c → ⊥) → row_at new w d ≡ row_at old w d

-- row c became m, whatever else stands in the slice
pub record RowChanged (w c : ℕ) (m old new : List ℕ) : Type 0 where
  pub size : length new ≡ length old
  pub same : row_at new w c ≡ m
  pub other : (d : ℕ) → (d ≡ c → ⊥) → row_at new w d ≡ row_at old w d
