-- What each answer to questions 3 to 10 says: every question before it got a yes, and it got a no, at the lowest place.
use Rattle.std.specs.Prelude.{◌≡◌, Bool, true, false, not, List, ℕ, ◌/◌, ◌<◌, length, Ok, Err}
use Rattle.rows.specs.Relation.{Rel}
use Rattle.record.specs.Layout.{Layout, count_in}
use Rattle.record.specs.Blocks.{block_right}
use Rattle.record.specs.History.{history_of, vis}
use Rattle.record.specs.Slots.{slot_right}
use Rattle.record.specs.Questions.{length_right, header_right, blocks_right, slots_in, wrong_position, wrong_set, on_ring, Reading}
use Rattle.record.specs.declared.Refusal.TheVariants.{ShortWork, WrongLength, WrongCheck, WrongHeader, WrongBlocks, WrongSlot, WrongPosition, WrongSet, OnRing}

-- k is the lowest of n places that is wrong
pub record LowestWrong (n : ℕ) (wrong : ℕ → Bool) (k : ℕ) : Type 0 where
  pub within : k < n
  pub fails : wrong k ≡ true
  pub lower : (j : ℕ) → j < k → wrong j ≡ false

-- a yes to 4, 7, 9 and 10
abbrev pub ChecksRight : List ℕ → Type 0
ChecksRight s = (k : ℕ) → k < length s / 512 → block_right s k ≡ true

abbrev pub SlotsRight : Layout → List ℕ → Type 0
SlotsRight L s = (e : ℕ) → e < slots_in L s → slot_right L s e ≡ true

abbrev pub SetsRight : Layout → ℕ → Rel → Type 0
SetsRight L n v = (e : ℕ) → e < n → wrong_set L.row n v e ≡ false

abbrev pub RingsRight : ℕ → Rel → Type 0
RingsRight n v = (e : ℕ) → e < n → on_ring n v e ≡ false

-- 3 to 6 get a yes
pub record FrameRight (L : Layout) (s : List ℕ) : Type 0 where
  pub length : length_right s ≡ true
  pub checks : ChecksRight s
  pub header : header_right L s ≡ true
  pub blocks : blocks_right L s ≡ true

-- 3 to 8 do
pub record BytesRight (L : Layout) (s : List ℕ) : Type 0 where
  pub length : length_right s ≡ true
  pub checks : ChecksRight s
  pub header : header_right L s ≡ true
  pub blocks : blocks_right L s ≡ true
  pub slots : SlotsRight L s
  pub positions : (e : ℕ) → e < count_in s → wrong_position (history_of L s) e ≡ false

-- 3 to 10 do
pub record Passes (L : Layout) (s : List ℕ) : Type 0 where
  pub bytes : BytesRight L s
  pub sets : SetsRight L (count_in s) (vis (history_of L s))
  pub rings : RingsRight (count_in s) (vis (history_of L s))

-- a record passes exactly if all get a yes; ShortWork is no answer to them
abbrev pub Tells : Layout → List ℕ → Reading → Type 0
Tells L s (Ok u) = Passes L s
Tells L s (Err ShortWork) = ⊥
Tells L s (Err WrongLength) = length_right s ≡ false
Tells L s (Err (WrongCheck k)) = (length_right s ≡ true) × LowestWrong (length s / 512) (λ b. not (block_right s b)) k
Tells L s (Err WrongHeader) = (length_right s ≡ true) × ChecksRight s × (header_right L s ≡ false)
Tells L s (Err WrongBlocks) = (length_right s ≡ true) × ChecksRight s × (header_right L s ≡ true) × (blocks_right L s ≡ false)
Tells L s (Err (WrongSlot e)) =
    (length_right s ≡ true) × ChecksRight s × (header_right L s ≡ true) × (blocks_right L s ≡ true) × LowestWrong (slots_in L s) (λ d. not (slot_right L s d)) e
Tells L s (Err (WrongPosition e)) =
    (length_right s ≡ true) × ChecksRight s × (header_right L s ≡ true) × (blocks_right L s ≡ true) × SlotsRight L s
    × LowestWrong (count_in s) (wrong_position (history_of L s)) e
Tells L s (Err (WrongSet e)) = BytesRight L s × LowestWrong (count_in s) (wrong_set L.row (count_in s) (vis (history_of L s))) e
Tells L s (Err (OnRing e)) = BytesRight L s × SetsRight L (count_in s) (vis (history_of L s)) × LowestWrong (count_in s) (on_ring (count_in s) (vis (history_of L s))) e
