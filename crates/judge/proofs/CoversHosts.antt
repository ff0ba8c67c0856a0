-- What the host's number of a model's answer tells of other models. Assumes nothing.
use mathlib.Core.Path.{◌≡◌, refl, sym, ap, ◌∙◌}
use mathlib.Core.List.{List}
use Prim.Native.Nat.{ℕ, ◌/◌}
use native.Mathlib.Omega.{arith}
use Rattle.std.specs.Prelude.{Some, None, Ok, Err}
use Rattle.packed.specs.Packed.{broken_from}
use Rattle.record.specs.Layout.{work_words}
use Rattle.judge.specs.Judgments.{Judgment, packed_judgment}
use Rattle.judge.specs.Covers.{IsBroken, broken-at, answer, TellsHosts}
use Rattle.judge.specs.declared.Unjudged.TheVariants.{NoSuchNumber, Refused}
use Rattle.judge.proofs.ReadsBack.{Fitting}
use Rattle.judge.proofs.JudgmentLaws.{model_fits}
use Rattle.judge.proofs.CoversExactly.{tells_others}

number-met : (j : Judgment) → packed_judgment j ≡ 0 → j ≡ Ok None
number-met (Ok None) e = refl
number-met (Ok (Some x)) e = absurd (omega arith)
number-met (Err NoSuchNumber) e = absurd (omega arith)
number-met (Err (Refused r)) e = absurd (omega arith)

number-broken : (j : Judgment) → packed_judgment j / broken_from ≡ 1 → IsBroken j
number-broken (Ok None) e = absurd (omega arith)
number-broken (Ok (Some x)) e = broken-at
number-broken (Err NoSuchNumber) e = absurd (omega arith)
number-broken (Err (Refused r)) e = absurd (omega arith)

broken-number : (j : Judgment) → IsBroken j → Fitting j → packed_judgment j / broken_from ≡ 1
broken-number (Ok None) b f = elim b [ ]
broken-number (Ok (Some x)) broken-at f = omega arith
broken-number (Err u) b f = elim b [ ]

pub tells_hosts : (m : ℕ) (s : List ℕ) {number : ℕ} → number ≡ packed_judgment (answer s m) → TellsHosts m s number
tells_hosts m s {number} e =
    let tells = tells_others work_words m s refl in
    record {
      met = λ q j f. ap packed_judgment (tells.met (number-met (answer s m) (sym e ∙ q)) j f);
      broken = λ q i f.
          broken-number (answer s i) (tells.broken (number-broken (answer s m) (sym (ap (λ (x : ℕ). x / broken_from) e) ∙ q)) i f) (model_fits s work_words i);
    }
