-- Questions 3 to 7: the bytes of a record are as laid out, whatever positions and visible sets it has.
use Rattle.std.specs.Prelude.{◌≡◌, true, List, ℕ}
use Rattle.record.specs.Layout.{Layout}
use Rattle.record.specs.Questions.{length_right, header_right, blocks_right}
use Rattle.record.specs.Answers.{ChecksRight, SlotsRight}

-- 3 to 7 get a yes
pub record LaidOut (L : Layout) (s : List ℕ) : Type 0 where
  pub length : length_right s ≡ true
  pub checks : ChecksRight s
  pub header : header_right L s ≡ true
  pub blocks : blocks_right L s ≡ true
  pub slots : SlotsRight L s
