use mathlib.Core.Path.{◌≡◌, refl, ap, ◌∙◌}
use Prim.Native.Nat.{ℕ, ◌<◌, ◌≤◌}
use native.Mathlib.Omega.{arith}
use lib.ListN.{length, get_or}
use mathlib.Core.List.{List}
use Rattle.record.specs.Layout.{gcr2}
use Rattle.record.specs.Encode.{with_slots}
use Rattle.record.proofs.SoundLayout.{gcr2-sound, slot_step}
use Rattle.record.proofs.WrittenLaws.{slots-none}
use Rattle.consistency.specs.Separating.{separating_history}
use Rattle.lattice.specs.declared.records.Event.{Event}
use Rattle.lattice.proofs.RecordLaws.{events-count, events-at, few-events, slot-put}
use Rattle.lattice.proofs.records.Record.put_slots.Goals as goal
use Rattle.lattice.proofs.records.Record.put_slots.Goals.{At-loop-event}

pub loop-event-init : goal.loop-event-init
loop-event-init c = record { size = c.requires; written = slots-none gcr2 (separating_history c.args.self.number) c.args.rec.now; place = refl }

count : (c : At-loop-event) → length c.events-event-items.result.now ≡ (separating_history c.args.self.number).count
count c = ap (λ (l : List Event). length l) c.events-event-items.ensures ∙ events-count (separating_history c.args.self.number)

small : (c : At-loop-event) → (separating_history c.args.self.number).count ≤ 3
small c = (few-events c.args.self.number c.args.self.known.0 c.args.self.known.1).1

pub put_slot-requires : goal.put_slot-requires
put_slot-requires c =
    let s = (goal.at.put_slot-requires c).At-loop-event in
    omega (arith, count s, small s, c.loop-event.invariant.size, c.loop-event.invariant.place)

pub loop-event-preserved : goal.loop-event-preserved
loop-event-preserved c =
    let s = (goal.at.loop-event-preserved c).At-loop-event in
    let a = c.args in
    let l = c.loop-event in
    let k = a.self.known in
    let h = separating_history a.self.number in
    let within : l.event-index < h.count = omega (arith, count s) in
    let event = ap (λ (m : List Event). get_or m l.event-index _) c.events-event-items.ensures ∙ events-at h l.event-index _ within in
    record {
      size = omega (arith, c.put_slot.auto.s, l.invariant.size);
      written = slot-put a.self.number l.event-index k.0 k.1 (omega (arith, small s)) _ event a.rec.now l.rec _ l.at l.invariant.place l.invariant.written c.put_slot.ensures;
      place = slot_step gcr2 gcr2-sound l.event-index l.at _ l.invariant.place (c.next_slot-at.ensures gcr2 refl);
    }

pub returns : goal.returns
returns c =
    let s = (goal.at.returns c).At-loop-event in
    let all : c.loop-event.event-index ≡ (separating_history c.args.self.number).count = omega (arith, count s) in
    c.loop-event.invariant.written ∙ ap (λ (i : ℕ). with_slots gcr2 (separating_history c.args.self.number) i c.args.rec.now) all
