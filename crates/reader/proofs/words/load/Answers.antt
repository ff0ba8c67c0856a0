use mathlib.Core.Path.{◌≡◌, refl, ap₂, ◌∙◌}
use Prim.Native.Nat.{◌+◌, ◌*◌, ◌≤◌}
use native.Mathlib.Nat.{add-sub_cancel_left}
use native.Mathlib.Omega.{arith}
use borrow.Author.Rules.{rules}
use lib.ListN.{length}
use Rattle.rows.specs.Octets.{words}
use Rattle.rows.proofs.TableLaws.{row_room, length-row}
use Rattle.record.specs.Layout.{edition_of}
use Rattle.record.proofs.SoundLayout.{sound_of, Numbers, numbers_of_lem, next_of, slot-first, slot-inside}
use Rattle.record.proofs.SlotWords.{slot_words-none, slot_words-put}
use Rattle.reader.proofs.words.load.Goals.{At-loop-e, In-loop-e, Start}
use Rattle.reader.proofs.words.load.Goals as goal

-- the places on the way
abbrev start : At-loop-e → Start
start l = (goal.at.At-loop-e l).Start

sizes : (l : At-loop-e) → Numbers (edition_of (start l).args.s.now) l.edition-ed.result
sizes l = numbers_of_lem (start l).args.s.now l.edition-ed.result l.edition-ed.ensures

-- the words of event e stand in the slice
room : (c : In-loop-e) → c.loop-e.e * (start (goal.at.In-loop-e c).At-loop-e).args.w + (start (goal.at.In-loop-e c).At-loop-e).args.w ≤ length c.loop-e.out
room c =
    let s = start (goal.at.In-loop-e c).At-loop-e in
    row_room s.args.n s.args.w c.loop-e.e (length c.loop-e.out) c.loop-e-test.true (omega (arith, s.requires, c.loop-e.invariant.1))

-- and those of its fields in the record
within : (c : In-loop-e) → let a = (start (goal.at.In-loop-e c).At-loop-e).args in c.loop-e.slot + (a.off + 8 * a.w) ≤ length a.s.now
within c =
    let a = start (goal.at.In-loop-e c).At-loop-e in
    let s = a.args.s.now in
    omega (arith, sizes (goal.at.In-loop-e c).At-loop-e, c.loop-e.invariant.3, a.requires.n_in_bounds, a.requires.w_bound, slot-inside (edition_of s) (sound_of s) a.args.n c.loop-e.e c.loop-e-test.true)

pub loop-e-init : goal.loop-e-init
loop-e-init c =
    let s = c.args.s.now in
    (search rules, refl, slot_words-none _ _ _ _ _, slot-first (edition_of s) (sound_of s))

pub loop-e-preserved : goal.loop-e-preserved
loop-e-preserved c =
    let l = c.loop-e in
    let a = (start (goal.at.loop-e-preserved c).At-loop-e).args in (
      search rules,
      search rules,
      rw add-sub_cancel_left (slot_words-put (edition_of a.s.now) a.off a.w a.s.now l.e a.out.now l.out c.load.new.row l.invariant.2
          (c.load.ensures ∙ ap₂ (λ k p. words k a.s.now (p + a.off)) (rw add-sub_cancel_left (length-row l.out a.w l.e (room (goal.at.loop-e-preserved c).In-loop-e))) l.invariant.3)),
      next_of a.s.now c.edition-ed.result c.edition-ed.ensures l.e l.slot _ l.invariant.3 c.next_slot-slot.ensures,
    )

pub returns : goal.returns
returns c =
    let l = c.loop-e in
    let end : l.e ≡ (start (goal.at.returns c).At-loop-e).args.n = omega arith in
    rw (← end) l.invariant.2
