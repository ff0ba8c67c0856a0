-- The second demand, of the hosts' numbers: each reads back as what a judgment tells, and that judgment is given exactly if what it says is so.
use Rattle.std.specs.Prelude.{◌≡◌, List, [], ◌∷◌, ℕ, ◌-◌, ◌≤◌, length, get_or, Some, None, Ok, Err}
use Rattle.packed.specs.Packed.{Told, met, broken, refused, unpacked}
use Rattle.record.specs.Questions.{refusal_number, refusal_place}
use Rattle.judge.specs.Judgments.{Judgment, packed_judgment}
use Rattle.judge.specs.Means.{ExactOf}
use Rattle.judge.specs.declared.Unjudged.TheVariants.{NoSuchNumber, Refused}

-- what a judgment tells
abbrev pub told : Judgment → Told
told (Ok None) = met
told (Ok (Some x)) = broken x.first x.second
told (Err NoSuchNumber) = refused 2 0
told (Err (Refused r)) = refused (refusal_number r) (refusal_place r)

-- a host's number that is exact, for a list ps of predicates and a record s
pub record ExactHost (words number : ℕ) (ps s : List ℕ) (answer : ℕ) : Type 0 where
  -- a judgment of which the second demand holds
  pub judgment : Judgment
  pub exact : ExactOf words number ps s judgment
  -- the answer is that judgment's number, and a host reads in it what the judgment tells
  pub packed : answer ≡ packed_judgment judgment
  pub reads : unpacked answer ≡ told judgment

-- the numbers of predicates 1 to 13, p's at place p − 1, as many as a slice has places for
abbrev pub ExactThirteen : ℕ → List ℕ → List ℕ → Type 0
ExactThirteen words s out = (p : ℕ) → 1 ≤ p → p ≤ 13 → p ≤ length out → ExactHost words p (p ∷ []) s (get_or out (p - 1) 0)
