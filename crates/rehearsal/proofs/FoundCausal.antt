-- What the judge promises to say of a record that is causal: model 4 is met. Assumes nothing.
use mathlib.Core.Path.{◌≡◌, refl}
use mathlib.Core.List.{List}
use Prim.Native.Nat.{ℕ, ◌≤◌}
use Rattle.std.specs.Prelude.{Ok, None}
use Rattle.record.specs.Layout.{edition_of, work_words}
use Rattle.consistency.specs.Predicates.{numbered}
use Rattle.judge.specs.Judgments.{model_judgment}
use Rattle.judge.proofs.MeansLaws.{model_exact}
use Rattle.store.specs.Demand.{CausalRecord}

-- it asks 10, 11 and 1
pub found-causal : (words : ℕ) → work_words ≤ words → (s : List ℕ) → CausalRecord s → model_judgment (edition_of s) words 4 s ≡ Ok None
unfolding numbered
found-causal words long s c =
    ((model_exact (edition_of s) words 4 s).exactly (Ok None)).1
    (record { work = long; in_range = refl }, c.passes, (c.visibility, (c.arbitration, (c.r_val, tt))))
