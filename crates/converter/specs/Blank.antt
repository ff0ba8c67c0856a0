-- For inner contracts: a target buffer in which a record's letters, count and sites were written over zeros.
use Rattle.std.specs.Prelude.{◌≡◌, List, ℕ, ◌<◌, ◌≤◌, length}
use Rattle.record.specs.Layout.{byte, edition_of}
use Rattle.record.specs.Answers.{Passes}
use Rattle.record.specs.Converted.{numbered, length_in}

-- s passed, and the target has room for it as a record of edition k, zero from byte `at` on
pub record Blank (at k : ℕ) (s target : List ℕ) : Type 0 where
  pub passed : Passes (edition_of s) s
  pub room : length_in (numbered k) s ≤ length target
  pub zero : (p : ℕ) → at ≤ p → p < length_in (numbered k) s → byte target p ≡ 0
