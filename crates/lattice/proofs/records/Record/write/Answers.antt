-- `lattice::records::Record::write` meets its contract: zero bytes, block 0, the slots and the checks.
use mathlib.Core.Path.{refl, ap, ◌∙◌}
use mathlib.Core.List.{List}
use native.Mathlib.Omega.{arith}
use lib.ListN.{length}
use Rattle.record.specs.Layout.{gcr2}
use Rattle.consistency.specs.Separating.{separating_history}
use Rattle.lattice.specs.declared.records.Event.{Event}
use Rattle.lattice.proofs.RecordLaws.{events-count, few-events, zeros-right, record_written}
use Rattle.lattice.proofs.records.Record.write.Goals as goal

pub header-requires : goal.header-requires
header-requires c = let a = c.args.self in (omega (arith, c.clear.auto.s, c.requires), omega (arith, ap (λ (l : List Event). length l) c.events.ensures, events-count (separating_history a.number), few-events a.number a.known.0 a.known.1))

pub terms-requires : goal.terms-requires
terms-requires c = (omega arith, refl, zeros-right)

pub returns : goal.returns
returns c =
    let a = c.args.self in
    let n = ap (λ (l : List Event). length l) c.events.ensures ∙ events-count (separating_history a.number) in
    record_written a.number a.known.0 a.known.1 (length c.events.result.now) n c.args.rec.now _ _ _ _ _ c.requires
    c.clear.ensures (c.header.ensures gcr2 refl) (c.terms.ensures gcr2 refl) c.put_slots.ensures c.seal.ensures
