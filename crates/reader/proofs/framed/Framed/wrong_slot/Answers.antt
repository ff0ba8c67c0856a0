use mathlib.Core.Path.{sym, ap, ◌∙◌}
use mathlib.Core.Bool.{not}
use Prim.Native.Nat.{◌<◌}
use native.Mathlib.Omega.{arith}
use Rattle.rows.proofs.LowestLaws.{searched_start, searched_more}
use Rattle.record.specs.Layout.{edition_of}
use Rattle.record.specs.Questions.{slots_in}
use Rattle.record.proofs.SearchLaws.{found_hit, found_end}
use Rattle.record.proofs.SoundLayout.{sound_of, slot-first}
use Rattle.reader.proofs.FramedLaws.{many, step}
use Rattle.reader.proofs.framed.Framed.wrong_slot.Goals.{In-loop-e}
use Rattle.reader.proofs.framed.Framed.wrong_slot.Goals as goal

below : (c : In-loop-e) → c.loop-e.e < slots_in (edition_of c.args.self.now.bytes.now) c.args.self.now.bytes.now
below c = omega (arith, c.loop-e-test.true, many c.args.self.now)

pub overflow_sub-slots : goal.overflow_sub-slots
overflow_sub-slots c = omega (arith, c.args.self.now.long)

pub loop-e-init : goal.loop-e-init
loop-e-init c = let s = c.args.self.now.bytes.now in (searched_start _ _, slot-first (edition_of s) (sound_of s))

pub returns-then-not-slot_holds : goal.returns-then-not-slot_holds
returns-then-not-slot_holds c =
    found_hit c.loop-e.invariant.0 (below (goal.at.returns-then-not-slot_holds c).In-loop-e) (ap not (sym c.slot_holds.ensures ∙ c.if-not-slot_holds.true))

pub loop-e-preserved : goal.loop-e-preserved
loop-e-preserved c = (
  searched_more c.loop-e.invariant.0 (below (goal.at.loop-e-preserved c).In-loop-e) (ap not (sym c.slot_holds.ensures ∙ c.if-not-slot_holds.false)),
  step c.args.self.now c.loop-e.e c.loop-e.at _ c.loop-e.invariant.1 c.next_slot-at.ensures,
)

pub returns : goal.returns
returns c = found_end c.loop-e.invariant.0 (omega (arith, c.loop-e-test.false, many c.args.self.now))
