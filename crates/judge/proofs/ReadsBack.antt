-- The host's number reads back: met, broken with its pair, or refused with its number and place, by division alone. Assumes nothing.
use mathlib.Core.Path.{◌≡◌, refl}
use Prim.Native.Nat.{◌<◌}
use native.Mathlib.Omega.{arith}
use Rattle.std.specs.Prelude.{Some, None, Ok, Err}
use Rattle.record.specs.Questions.{refusal_number, refusal_place}
use Rattle.packed.specs.Packed.{places, unpacked}
use Rattle.packed.proofs.ReadsBack.{break_back, refusal-back}
use Rattle.record.proofs.QuestionsAnswered.{number-most}
use Rattle.judge.specs.Judgments.{Judgment, packed_judgment}
use Rattle.judge.specs.Hosts.{told}
use Rattle.judge.specs.declared.Unjudged.TheVariants.{NoSuchNumber, Refused}

-- the parts fit: events and places are below 1,024
abbrev pub Fitting : Judgment → Type 0
Fitting (Ok None) = Unit
Fitting (Ok (Some x)) = (x.first < places) × (x.second < places)
Fitting (Err NoSuchNumber) = Unit
Fitting (Err (Refused r)) = refusal_place r < places

pub reads-back : (j : Judgment) → Fitting j → unpacked (packed_judgment j) ≡ told j
reads-back (Ok None) f = refl
reads-back (Ok (Some x)) f = break_back x.first x.second f.0 f.1
reads-back (Err NoSuchNumber) f = refl
reads-back (Err (Refused r)) f = refusal-back (refusal_number r) (refusal_place r) (omega (arith, number-most (Err r))) f
