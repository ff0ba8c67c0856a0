-- `converter::moving::Record::write` meets its contract: zero bytes, block 0, the slots and the checks. Assumes nothing.
use Rattle.converter.proofs.MovingLaws.{long, few, blocks-few, header_blank, terms_blank, all_written}
use Rattle.record.specs.Converted.{numbered, length_in}
use Rattle.record.specs.Encode.{header_bytes}
use Rattle.record.specs.Layout.{count_in, sites_in}
use lib.Seq.{sets}
use lib.ListN.{length, drop, replicate}
use native.Mathlib.Omega.{arith}
use Prim.Native.Nat.{ℕ, ◌*◌, ◌≤◌}
use mathlib.Core.List.{List, ◌++◌}
use mathlib.Core.Path.{◌≡◌, refl, ap, ◌∙◌}
use Rattle.converter.proofs.moving.Record.write.Goals.{After-clear, After-header, Start}
use Rattle.converter.proofs.moving.Record.write.Goals as goal

abbrev clear : After-header → After-clear
clear h = (goal.at.After-header h).After-clear

abbrev start : After-header → Start
start h = (goal.at.After-header h).Start

abbrev text : After-header → List ℕ
text h = (start h).args.self.now.bytes.now

-- the target cleared, and its letters, count and sites
cleared : (h : After-header) → (clear h).clear.new.s ≡ replicate (length_in (numbered (start h).args.k) (text h)) 0 ++ drop (length_in (numbered (start h).args.k) (text h)) (start h).args.target.now
cleared h = (clear h).clear.ensures ∙ ap (λ (b : ℕ). replicate (512 * b) 0 ++ drop (512 * b) (start h).args.target.now) (start h).requires.blocks_value

begun : (h : After-header) → h.header.new.s ≡ sets (clear h).clear.new.s 0 (header_bytes (numbered (start h).args.k) (count_in (text h)) (sites_in (text h)))
begun h =
    h.header.ensures (numbered (start h).args.k) h.by_number.ensures
    ∙ ap (λ (n : ℕ). sets (clear h).clear.new.s 0 (header_bytes (numbered (start h).args.k) n (sites_in (text h)))) h.count.ensures

room : (h : After-header) → length_in (numbered (start h).args.k) (text h) ≤ length h.header.new.s
room h = omega (arith, (start h).requires.room, (clear h).clear.auto.s, h.header.auto.s)

pub count-requires : goal.count-requires
count-requires c = long c.args.self.now.bytes.now c.args.self.now.passes

pub bounds-s-6 : goal.bounds-s-6
bounds-s-6 c = omega (arith, long c.args.self.now.bytes.now c.args.self.now.passes)

pub header-requires : goal.header-requires
header-requires c =
    (omega (arith, c.requires.room, c.clear.auto.s), omega (arith, c.count.ensures, few c.args.self.now.bytes.now c.args.self.now.passes))

pub put_terms-requires : goal.put_terms-requires
put_terms-requires c =
    let h = (goal.at.put_terms-requires c).After-header in
    let a = (start h).args in
    header_blank (text h) a.self.now.passes a.k _ a.target.now _ _ (cleared h) (begun h) (omega (arith, room h))

pub put_slots-requires : goal.put_slots-requires
put_slots-requires c =
    let h = (goal.at.put_slots-requires c).After-header in
    let a = (start h).args in
    terms_blank (text h) a.self.now.passes a.k _ a.target.now _ _ (cleared h) (begun h) _ _ c.put_terms.ensures (omega (arith, c.put_terms.auto.target, room h))

pub seal-requires : goal.seal-requires
seal-requires c =
    let h = (goal.at.seal-requires c).After-header in
    let many = (start h).requires.blocks_value in
    (omega (arith, c.put_slots.auto.target, c.put_terms.auto.target, room h, many), omega (arith, many, blocks-few (text h) (start h).args.self.now.passes (start h).args.k))

pub returns : goal.returns
returns c =
    let h = (goal.at.returns c).After-header in
    let a = (start h).args in
    all_written (text h) a.self.now.passes a.k a.blocks _ a.target.now _ _ _ _ _ (start h).requires.blocks_value refl (clear h).clear.ensures (begun h) c.put_terms.ensures c.put_slots.ensures c.seal.ensures
