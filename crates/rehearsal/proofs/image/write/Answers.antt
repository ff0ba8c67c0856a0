-- `rehearsal::image::write` meets its contract: zero bytes, block 0, the slots and the checks. Assumes nothing.
use mathlib.Core.Path.{◌≡◌, refl, ap}
use Prim.Native.Nat.{ℕ, ◌*◌, ◌≤◌}
use native.Mathlib.Omega.{arith}
use lib.ListN.{length}
use Rattle.record.specs.Layout.{store_layout}
use Rattle.record.specs.Encode.{blocks_for}
use Rattle.store.specs.Rehearsal.{terms_of}
use Rattle.calls.specs.Lent.{with_counts}
use Rattle.rehearsal.proofs.ImageLaws.{record_written}
use Rattle.rehearsal.proofs.image.write.Goals.{After-blocks-blocks, Start}
use Rattle.rehearsal.proofs.image.write.Goals as goal

abbrev start : After-blocks-blocks → Start
start c = (goal.at.After-blocks-blocks c).Start

-- as many blocks as the record has
many : (c : After-blocks-blocks) → c.blocks-blocks.result ≡ blocks_for store_layout (start c).args.store.now.count
many c = c.blocks-blocks.ensures store_layout refl

-- and the buffer has room for them
room : (c : After-blocks-blocks) → (512 * c.blocks-blocks.result ≤ length (start c).args.rec.now) × (c.blocks-blocks.result ≤ 65536)
room c = let a = start c in (omega (arith, many c, a.requires.ordered.few, a.requires.openings_len.2), omega (arith, many c, a.requires.ordered.few))

pub overflow_mul-blocks : goal.overflow_mul-blocks
overflow_mul-blocks c = omega (arith, room (goal.at.overflow_mul-blocks c).After-blocks-blocks)

pub clear-requires : goal.clear-requires
clear-requires c = omega (arith, room (goal.at.clear-requires c).After-blocks-blocks)

pub put_slots-requires : goal.put_slots-requires
put_slots-requires c =
    let a = start (goal.at.put_slots-requires c).After-blocks-blocks in
    let fits : 512 * blocks_for store_layout a.args.store.now.count ≤ length c.terms.new.s =
    omega (arith, room (goal.at.put_slots-requires c).After-blocks-blocks, many (goal.at.put_slots-requires c).After-blocks-blocks, c.terms.auto.s, c.header.auto.s, c.clear.auto.s) in record {
      ed_value = refl;
      ordered = a.requires.ordered;
      cells_in_bounds = fits;
    }

pub seal-requires : goal.seal-requires
seal-requires c = omega (arith, room (goal.at.seal-requires c).After-blocks-blocks)

pub overflow_mul-result : goal.overflow_mul-result
overflow_mul-result c = omega (arith, room (goal.at.overflow_mul-result c).After-blocks-blocks)

pub returns : goal.returns
returns c =
    let g = (start (goal.at.returns c).After-blocks-blocks).args in record {
      value = ap (λ (k : ℕ). 512 * k) (many (goal.at.returns c).After-blocks-blocks);
      rec_after = λ t held needs.
          record_written g.n (terms_of g.openings.now) t (with_counts g.store.now held needs) _ g.rec.now _ _ _ _ _ (many (goal.at.returns c).After-blocks-blocks) c.clear.ensures
          (c.header.ensures store_layout refl) (c.terms.ensures store_layout refl) (c.put_slots.ensures t held needs) c.seal.ensures;
    }
