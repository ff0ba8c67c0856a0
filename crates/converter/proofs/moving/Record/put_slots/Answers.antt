use Rattle.converter.proofs.MovingLaws.{laid, long, near}
use Rattle.record.proofs.MovedLaws.{slot-more}
use Rattle.record.proofs.WrittenLaws.{slots-none}
use Rattle.record.proofs.SaidAgain.{laid_length}
use Rattle.record.proofs.SoundLayout.{Sound, edition-sound, sound_of, slot-first, slot_step, slot-inside, Numbers, numbers, numbers_of_lem, next_of}
use Rattle.record.specs.Converted.{named, numbered}
use Rattle.record.specs.Encode.{with_slots}
use Rattle.record.specs.History.{history_of}
use Rattle.record.specs.Layout.{Layout, edition_of, count_in, slot_at}
use lib.ListN.{length, take, drop}
use lib.Seq.{sets}
use native.Mathlib.Omega.{arith}
use Prim.Native.Nat.{ℕ, ◌+◌, ◌<◌, ◌≤◌, min}
use mathlib.Core.List.{List}
use mathlib.Core.Path.{◌≡◌, refl, ap, ap₂, ◌∙◌}
use Rattle.converter.proofs.moving.Record.put_slots.Goals.{At-loop-e, In-loop-e, Start}
use Rattle.converter.proofs.moving.Record.put_slots.Goals as goal

abbrev start : At-loop-e → Start
start l = (goal.at.At-loop-e l).Start

abbrev text : At-loop-e → List ℕ
text l = (start l).args.self.now.bytes.now

abbrev own : At-loop-e → Layout
own l = edition_of (text l)

abbrev to : At-loop-e → Layout
to l = numbered (start l).args.k

to-sound : (l : At-loop-e) → Sound (to l)
to-sound l = edition-sound (named (start l).args.k)

-- the editions' numbers
here-numbers : (l : At-loop-e) → Numbers (own l) l.edition-from.result
here-numbers l = numbers_of_lem (text l) _ l.edition-from.ensures

there-numbers : (l : At-loop-e) → Numbers (to l) l.by_number-to.result
there-numbers l = numbers (to l) (to-sound l) _ l.by_number-to.ensures

-- the slot's bytes that are copied
least : (l : At-loop-e) → l.min-size.result ≡ min (own l).slot (to l).slot
least l = omega (arith, l.min-size.ensures, (here-numbers l).slot, (there-numbers l).slot)

below : (i : In-loop-e) → i.loop-e.e < count_in (text (goal.at.In-loop-e i).At-loop-e)
below i = omega (arith, i.loop-e-test.true, i.count-e-end.ensures)

here-room : (i : In-loop-e) → slot_at (own (goal.at.In-loop-e i).At-loop-e) i.loop-e.e + (own (goal.at.In-loop-e i).At-loop-e).slot ≤ length (text (goal.at.In-loop-e i).At-loop-e)
here-room i =
    omega (arith, laid_length (own (goal.at.In-loop-e i).At-loop-e) (text (goal.at.In-loop-e i).At-loop-e) (laid (text (goal.at.In-loop-e i).At-loop-e) (start (goal.at.In-loop-e i).At-loop-e).args.self.now.passes), slot-inside (own (goal.at.In-loop-e i).At-loop-e) (sound_of (text (goal.at.In-loop-e i).At-loop-e)) (count_in (text (goal.at.In-loop-e i).At-loop-e)) i.loop-e.e (below i))

there-room : (i : In-loop-e) → slot_at (to (goal.at.In-loop-e i).At-loop-e) i.loop-e.e + (to (goal.at.In-loop-e i).At-loop-e).slot ≤ length (start (goal.at.In-loop-e i).At-loop-e).args.target.now
there-room i =
    omega (arith, (start (goal.at.In-loop-e i).At-loop-e).requires.room, slot-inside (to (goal.at.In-loop-e i).At-loop-e) (to-sound (goal.at.In-loop-e i).At-loop-e) (count_in (text (goal.at.In-loop-e i).At-loop-e)) i.loop-e.e (below i))

pub count-e-end-requires : goal.count-e-end-requires
count-e-end-requires c = long c.args.self.now.bytes.now c.args.self.now.passes

pub loop-e-init : goal.loop-e-init
loop-e-init c =
    let s = c.args.self.now.bytes.now in
    record {
      passed = omega arith;
      size = refl;
      here = slot-first (edition_of s) (sound_of s);
      there = slot-first (numbered c.args.k) (edition-sound (named c.args.k));
      written = slots-none _ _ _;
    }

pub copy_part-requires : goal.copy_part-requires
copy_part-requires c =
    let i = (goal.at.copy_part-requires c).In-loop-e in
    let l = (goal.at.copy_part-requires c).At-loop-e in
    (omega (arith, here-room i, c.loop-e.invariant.here, least l), omega (arith, there-room i, c.loop-e.invariant.size, c.loop-e.invariant.there, least l))

pub next_slot-here-requires : goal.next_slot-here-requires
next_slot-here-requires c =
    let i = (goal.at.next_slot-here-requires c).In-loop-e in
    let l = (goal.at.next_slot-here-requires c).At-loop-e in
    let d = here-numbers l in
    (omega (arith, near (text l) (start l).args.self.now.passes (own l) (sound_of (text l)) c.loop-e.e (below i), c.loop-e.invariant.here), omega (arith, d), omega (arith, d), omega (arith, d))

pub next_slot-there-requires : goal.next_slot-there-requires
next_slot-there-requires c =
    let i = (goal.at.next_slot-there-requires c).In-loop-e in
    let l = (goal.at.next_slot-there-requires c).At-loop-e in
    let d = there-numbers l in
    (omega (arith, near (text l) (start l).args.self.now.passes (to l) (to-sound l) c.loop-e.e (below i), c.loop-e.invariant.there), omega (arith, d), omega (arith, d), omega (arith, d))

pub loop-e-preserved : goal.loop-e-preserved
loop-e-preserved c =
    let i = (goal.at.loop-e-preserved c).In-loop-e in
    let l = (goal.at.loop-e-preserved c).At-loop-e in
    let a = (start l).args in
    let known = c.loop-e.invariant in
    let size : ℕ = c.min-size.result in
    let places : sets c.loop-e.target c.loop-e.there (take size (drop c.loop-e.here (text l))) ≡ sets c.loop-e.target (slot_at (to l) c.loop-e.e) (take size (drop (slot_at (own l) c.loop-e.e) (text l))) =
    ap₂ (λ (x y : ℕ). sets c.loop-e.target x (take size (drop y (text l)))) known.there known.here in
    record {
      passed = omega (arith, below i);
      size = c.copy_part.auto.target ∙ known.size;
      here = next_of (text l) _ c.edition-from.ensures c.loop-e.e c.loop-e.here _ known.here c.next_slot-here.ensures;
      there = slot_step (to l) (to-sound l) c.loop-e.e c.loop-e.there _ known.there (c.next_slot-there.ensures (to l) c.by_number-to.ensures);
      written =
          slot-more (own l) (to l) (sound_of (text l)) (to-sound l) (text l) a.self.now.octets (laid (text l) a.self.now.passes) c.loop-e.e (below i) a.target.now c.loop-e.target _ size
          (start l).requires.zero (least l) known.written (c.copy_part.ensures ∙ places);
    }

pub returns : goal.returns
returns c =
    let all : c.loop-e.e ≡ count_in (text (goal.at.returns c).At-loop-e) = omega (arith, c.loop-e.invariant.passed, c.loop-e-test.false, c.count-e-end.ensures) in
    c.loop-e.invariant.written ∙ ap (λ (e : ℕ). with_slots (to (goal.at.returns c).At-loop-e) (history_of (own (goal.at.returns c).At-loop-e) (text (goal.at.returns c).At-loop-e)) e (start (goal.at.returns c).At-loop-e).args.target.now) all
