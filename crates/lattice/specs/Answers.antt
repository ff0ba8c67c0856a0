-- Answers about models as tests. Only contracts of inner functions cite this.
use Rattle.std.specs.Prelude.{Bool, true, false, Some, None, Ok, Err}
use Rattle.judge.specs.Judgments.{Judgment}

abbrev pub met_by : Judgment → Bool
met_by (Ok None) = true
met_by (Ok (Some x)) = false
met_by (Err e) = false

abbrev pub broken_by : Judgment → Bool
broken_by (Ok None) = false
broken_by (Ok (Some x)) = true
broken_by (Err e) = false
