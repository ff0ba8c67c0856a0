-- `tables::swept::SweptRows::take_in` meets its contract, whether a is a read or a write. Assumes nothing.
use mathlib.Core.Path.{refl, ap}
use mathlib.Core.Bool.{not}
use mathlib.Core.Logic.{inl, inr}
use native.Mathlib.Omega.{arith}
use Rattle.tables.proofs.TakenLaws.{taken_in}
use Rattle.tables.proofs.swept.SweptRows.take_in.Goals as goal

pub returns-then-not-is_write : goal.returns-then-not-is_write
returns-then-not-is_write g c =
    let s = c.args.self.now in
    let e = c.args.events.now in
    taken_in e.heads.words.now e.seen.now e.count g.row.W s.rows e.given (omega (arith, s.room, e.given.narrow)) c.args.a c.requires c.site-s.result
    c.set.new.row c.set-2.new.row c.union_into.new.rows c.seen_by.result.now c.is_write.result
    c.site-s.ensures c.set.ensures c.set-2.ensures c.is_write.ensures c.seen_by.ensures (inl (ap not c.if-not-is_write.true, c.union_into.ensures))

pub returns-else-not-is_write : goal.returns-else-not-is_write
returns-else-not-is_write g c =
    let s = c.args.self.now in
    let e = c.args.events.now in
    taken_in e.heads.words.now e.seen.now e.count g.row.W s.rows e.given (omega (arith, s.room, e.given.narrow)) c.args.a c.requires c.site-s.result
    c.set.new.row c.set-2.new.row c.set-2.new.row _ c.is_write.result
    c.site-s.ensures c.set.ensures c.set-2.ensures c.is_write.ensures refl (inr (ap not c.if-not-is_write.false, refl))
