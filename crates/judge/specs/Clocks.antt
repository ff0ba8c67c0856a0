-- What the sites' clocks bear on: of records that differ in the difference of clocks alone, what a judging call answers.
use Rattle.std.specs.Prelude.{◌≡◌, false, List, ℕ, ◌≤◌, take, drop, None, Ok}
use Rattle.record.specs.Layout.{edition_of}
use Rattle.record.specs.Terms.{difference_in}
use Rattle.record.specs.Answers.{Passes}
use Rattle.consistency.specs.Models.{timed}
use Rattle.judge.specs.Judgments.{Judgment, judged}

-- two records that pass and differ, if at all, in the difference of clocks, bytes 8 to 11, and in block 0's check, bytes 508 to 511
pub record OnOtherClocks (s s' : List ℕ) : Type 0 where
  pub passes : Passes (edition_of s) s
  pub passes' : Passes (edition_of s') s'
  pub front : take 8 s ≡ take 8 s'
  pub middle : take 496 (drop 12 s) ≡ take 496 (drop 12 s')
  pub rest : drop 512 s ≡ drop 512 s'

-- the answer j about s, for a list ps of predicates: without 3 and 4, it is the answer about s' too; and met, it is met for s' where that has the larger difference
pub record ByClocks (words number : ℕ) (ps s : List ℕ) (j : Judgment) : Type 0 where
  pub steady : (s' : List ℕ) → OnOtherClocks s s' → timed ps ≡ false → judged (edition_of s') words number s' ps ≡ j
  pub larger : (s' : List ℕ) → OnOtherClocks s s' → difference_in (edition_of s) s ≤ difference_in (edition_of s') s' → j ≡ Ok None
      → judged (edition_of s') words number s' ps ≡ Ok None
