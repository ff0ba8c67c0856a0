-- `converter::moving::move_to` meets its contract, one question after the other. Assumes nothing.
use Rattle.converter.proofs.MovingLaws.{moved_not, moved_short, moved_written, long, few, blocks-few}
use Rattle.converter.specs.Conversions.{target_after}
use Rattle.record.proofs.SoundLayout.{edition-sound, numbers}
use Rattle.record.specs.Converted.{named, numbered, can_stand}
use Rattle.record.specs.Encode.{blocks_for}
use Rattle.record.specs.History.{history_of}
use Rattle.record.specs.Layout.{edition_of, count_in}
use Rattle.rows.proofs.Tests.{told_false, told_true}
use native.Mathlib.Omega.{arith}
use Prim.Native.Nat.{ℕ, ◌*◌}
use mathlib.Core.List.{List}
use mathlib.Core.Bool.{true, not}
use mathlib.Core.Path.{◌≡◌, refl, ap, ◌∙◌}
use Rattle.converter.proofs.moving.move_to.Goals.{After-blocks-blocks, Start}
use Rattle.converter.proofs.moving.move_to.Goals as goal

abbrev start : After-blocks-blocks → Start
start c = (goal.at.After-blocks-blocks c).Start

abbrev text : After-blocks-blocks → List ℕ
text c = (start c).args.s.now

-- as many blocks as the record has in the other edition, where it can stand
many : (c : After-blocks-blocks) → c.blocks-blocks.result ≡ blocks_for (numbered (start c).args.k) (count_in (text c))
many c = c.blocks-blocks.ensures (numbered (start c).args.k) c.by_number.ensures ∙ ap (blocks_for (numbered (start c).args.k)) c.count.ensures

stands : (c : After-blocks-blocks) → can_stand (numbered (start c).args.k) (history_of (edition_of (text c)) (text c)) ≡ true
stands c = told_true c.stands.ensures (ap not c.if-not-stands.false)

pub returns-then-not-stands : goal.returns-then-not-stands
unfolding target_after
returns-then-not-stands c = let a = c.args in record {
  value = moved_not _ _ _ a.s.now (told_false c.stands.ensures (ap not c.if-not-stands.true));
  target_after = refl;
}

pub count-requires : goal.count-requires
count-requires c = long c.args.s.now c.requires

pub blocks-blocks-requires : goal.blocks-blocks-requires
blocks-blocks-requires c =
    let d = numbers (numbered c.args.k) (edition-sound (named c.args.k)) _ c.by_number.ensures in
    (omega (arith, d.slots, d.some), omega (arith, d.slots, d.few, c.count.ensures, few c.args.s.now c.requires))

pub overflow_mul-blocks : goal.overflow_mul-blocks
overflow_mul-blocks c = omega (arith, many c, blocks-few (text c) (start c).requires (start c).args.k)

pub returns-then-target-blocks : goal.returns-then-target-blocks
unfolding target_after
returns-then-target-blocks c =
    let b = (goal.at.returns-then-target-blocks c).After-blocks-blocks in
    record {
      value = moved_short _ _ _ (text b) (stands b) (omega (arith, many b, c.if-target-blocks.true));
      target_after = refl;
    }

pub write-requires : goal.write-requires
write-requires c =
    let b = (goal.at.write-requires c).After-blocks-blocks in
    record {
      room = omega (arith, many b, c.if-target-blocks.false);
      blocks_value = many b;
    }

pub returns : goal.returns
unfolding target_after
returns c =
    let b = (goal.at.returns c).After-blocks-blocks in
    record {
      value = moved_written _ _ _ (text b) (stands b) (omega (arith, many b, c.if-target-blocks.false)) _ (ap (λ (n : ℕ). 512 * n) (many b));
      target_after = c.write.ensures;
    }
