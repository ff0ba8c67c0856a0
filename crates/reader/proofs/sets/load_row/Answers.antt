use mathlib.Core.Path.{◌≡◌, refl, sym, ◌∙◌}
use Prim.Native.Nat.{ℕ, ◌+◌, ◌-◌, ◌<◌}
use native.Mathlib.Omega.{arith}
use lib.ListN.{length, get_or, replicate, length-append, length-replicate}
use Rattle.rows.specs.Octets.{words}
use Rattle.rows.proofs.ByteLaws.{length-words}
use Rattle.rows.proofs.StoredLaws.{stored_more, stored_all}
use Rattle.record.proofs.WorkLaws.{row_word, row-rest}
use Rattle.reader.proofs.sets.load_row.Invariants.{loaded}
use Rattle.reader.proofs.sets.load_row.Goals.{else-i-k, then-i-k}
use Rattle.reader.proofs.sets.load_row.Goals as goal

pub loop-i-preserved : goal.loop-i-preserved
loop-i-preserved c =
    let l = c.loop-i in
    let a = c.args in
    let r : ℕ = length a.row.now - a.k in
    let within : l.i < a.k + r = omega (arith, c.requires.0, c.loop-i-test.true) in
    let word : c.if-i-k.word ≡ get_or (loaded a.row.now a.s.now a.at a.k) l.i 0 =
    elim c.if-i-k.branch [
      | then-i-k w ↦ w.word-is ∙ w.u64_at.ensures ∙ sym (row_word a.k r l.i a.s.now a.at w.if-i-k.true)
      | else-i-k w ↦ w.word-is ∙ sym (row-rest a.k r l.i a.s.now a.at (omega (arith, w.if-i-k.false)) within)
    ] in
    stored_more _ a.row.now l.row l.i c.if-i-k.word l.invariant (omega (arith, c.loop-i-test.true, l.auto.row)) word

pub returns : goal.returns
returns c =
    let l = c.loop-i in
    let a = c.args in
    let long : length (loaded a.row.now a.s.now a.at a.k) ≡ length a.row.now =
    omega (arith, length-append (words a.k a.s.now a.at) (replicate (length a.row.now - a.k) 0), length-words a.k a.s.now a.at, length-replicate {A = ℕ} (length a.row.now - a.k) 0, c.requires.0) in
    stored_all _ a.row.now l.row (loaded a.row.now a.s.now a.at a.k) l.i l.invariant (omega (arith, c.loop-i-test.false)) long (λ j. refl)
