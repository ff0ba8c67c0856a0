use borrow.Author.Rules.{rules}
use mathlib.Core.List.{List}
use mathlib.Core.Path.{◌≡◌, refl, ap, ◌∙◌}
use Prim.Native.Nat.{ℕ, ◌<◌}
use native.Mathlib.Omega.{arith}
use lib.ListN.{length}
use Rattle.record.specs.Layout.{store_layout, most_events, row_words}
use Rattle.record.specs.Encode.{with_slots}
use Rattle.record.proofs.SoundLayout.{store-sound, slot_step, Numbers, numbers}
use Rattle.store.specs.Recorded.{recorded}
use Rattle.calls.specs.Lent.{Lent, row_in, with_counts, store_in}
use Rattle.rehearsal.proofs.ImageLaws.{slotted_none, slotted_more, events_worded}
use Rattle.rehearsal.proofs.image.put_slots.Goals.{At-loop-k, In-loop-k, Start}
use Rattle.rehearsal.proofs.image.put_slots.Goals as goal

abbrev start : At-loop-k → Start
start l = (goal.at.At-loop-k l).Start

-- the edition's numbers
sizes : (a : Start) → Numbers store_layout a.args.ed
sizes a = numbers store_layout store-sound a.args.ed a.requires.ed_value

few : (c : In-loop-k) → c.loop-k.k < most_events
few c = omega (arith, c.loop-k-test.true, (start (goal.at.In-loop-k c).At-loop-k).requires.ordered.few)

pub loop-k-init : goal.loop-k-init
loop-k-init c = (omega arith, (refl, (refl, λ t held needs. slotted_none _ _)))

pub put_slot-requires : goal.put_slot-requires
put_slot-requires c = let a = start (goal.at.put_slot-requires c).At-loop-k in omega (arith, few (goal.at.put_slot-requires c).In-loop-k, c.loop-k.invariant.1.1.0, c.loop-k.invariant.1.0, c.loop-k-test.true, a.requires.cells_in_bounds)

pub next_slot-at-requires : goal.next_slot-at-requires
next_slot-at-requires c = let d = sizes (start (goal.at.next_slot-at-requires c).At-loop-k) in (omega (arith, few (goal.at.next_slot-at-requires c).In-loop-k, c.loop-k.invariant.1.1.0), omega (arith, d), omega (arith, d), omega (arith, d))

pub loop-k-preserved : goal.loop-k-preserved
loop-k-preserved c =
    let a = start (goal.at.loop-k-preserved c).At-loop-k in
    let g = a.args in
    let l = c.loop-k in
    let row : List ℕ = row_in g.store.now.sees l.k in
    let wide : length row ≡ row_words = search (rules) in (
      omega (arith, c.loop-k-test.true),
      (
        c.put_slot.auto.s ∙ l.invariant.1.0,
        (
          slot_step store_layout store-sound l.k l.at _ l.invariant.1.1.0 (c.next_slot-at.ensures store_layout a.requires.ed_value),
          λ t held needs.
              let z : Lent = with_counts g.store.now held needs in
              slotted_more t z g.rec.now l.rec c.put_slot.new.s l.k c.loop-k-test.true (l.invariant.1.1.1 t held needs) _ (c.positions-positions.ensures (store_in t z).event (events_worded t z) l.k)
              c.test-put.result c.test-put.ensures row refl wide c.slot-x.result c.slot-x.ensures c.put_slot.auto.s l.at l.invariant.1.1.0 c.put_slot.ensures,
        ),
      ),
    )

pub returns : goal.returns
returns c =
    let g = (start (goal.at.returns c).At-loop-k).args in
    let l = c.loop-k in
    let all : l.k ≡ g.store.now.count = omega (arith, l.invariant.0, c.loop-k-test.false) in
    λ t held needs. (l.invariant.1.1.1 t held needs).written ∙ ap (λ (i : ℕ). with_slots store_layout (recorded (store_in t (with_counts g.store.now held needs))) i g.rec.now) all
