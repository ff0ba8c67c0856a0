-- Openings of bytes, as a rehearsal is lent them, are terms that a store's record can have. Assumes nothing.
use mathlib.Core.Path.{refl}
use mathlib.Core.Bool.{true≢false}
use mathlib.Core.List.{List}
use Prim.Native.Nat.{ℕ}
use native.Mathlib.Omega.{arith}
use Rattle.record.specs.Layout.{store_layout}
use Rattle.record.specs.WellFormed.{WellFormedTerms}
use Rattle.record.proofs.StoresLaws.{Bytes}
use Rattle.record.proofs.OpeningLaws.{opening-above, opening-small}
use Rattle.store.specs.Rehearsal.{terms_of}

pub openings_formed : (openings : List ℕ) → Bytes openings → WellFormedTerms store_layout (terms_of openings)
openings_formed openings bytes = record {
  even = λ e. refl;
  difference = omega arith;
  lacking = λ e. absurd (true≢false e);
  above = opening-above openings 0;
  value = opening-small openings bytes 0;
}
