-- `writer::header` meets its contract: the letters, the count and the sites stand one after the other. Assumes nothing.
use mathlib.Core.Path.{refl, ap, ◌∙◌}
use mathlib.Core.List.{[], ◌∷◌, ◌++◌}
use native.Mathlib.Omega.{arith}
use lib.ListN.{length}
use lib.Seq.{sets}
use Rattle.record.specs.declared.Edition.{Edition}
use Rattle.record.specs.Encode.{little_bytes}
use Rattle.record.proofs.StoresLaws.{sets_then}
use Rattle.writer.proofs.BytesLaws.{le-then}
use Rattle.writer.proofs.header.Goals as goal

pub returns : goal.returns
returns c = λ L q.
    let a = c.args in
    let letters = ap (λ (e : Edition). e.letters) q in
    sets_then L.letters (little_bytes 2 a.n ++ (a.sites ∷ [])) _ _ _ 0 4 (c.put.ensures ∙ ap (sets a.s.now 0) letters)
    (le-then 2 a.n (a.sites ∷ []) _ _ _ 4 6 c.put-2.ensures c.to_le_bytes.ensures refl refl)
    (omega (arith, ap length letters))
