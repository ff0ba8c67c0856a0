-- `reader::framed::Framed::new` meets its contract: each question is asked once those before it got a yes. Assumes nothing.
use mathlib.Core.Path.{◌≡◌, refl, sym, ◌∙◌}
use mathlib.Core.Bool.{true, not}
use Prim.Native.Nat.{◌/◌}
use native.Mathlib.Omega.{arith}
use lib.ListN.{length}
use borrow.Author.Tests.{not-false}
use Rattle.record.specs.Layout.{edition_of}
use Rattle.record.specs.Blocks.{block_right}
use Rattle.record.specs.Questions.{length_right, header_right}
use Rattle.record.proofs.SearchLaws.{lowest_found, none_found}
use Rattle.record.proofs.SoundLayout.{numbers_of_lem}
use Rattle.record.proofs.QuestionLaws.{length-says, header-says, blocks_yes, blocks_no}
use Rattle.reader.proofs.framed.Framed.new.Goals.{Else-not-length_holds, Else-not-header_holds, After-blocks-2, After-wrong_block}
use Rattle.reader.proofs.framed.Framed.new.Goals as goal

-- 3 got a yes, and with 4 what holds of the blocks
three : (c : Else-not-length_holds) → length_right c.args.s.now ≡ true
three c = sym c.length_holds.ensures ∙ c.if-not-length_holds.false

five : (c : Else-not-header_holds) → header_right (edition_of c.args.s.now) c.args.s.now ≡ true
five c = sym (c.header_holds.ensures (edition_of c.args.s.now) c.edition-edition.ensures) ∙ c.if-not-header_holds.false

pub wrong_block-requires : goal.wrong_block-requires
wrong_block-requires c = omega (arith, length-says (edition_of c.args.s.now) c.args.s.now (three (goal.at.wrong_block-requires c).Else-not-length_holds))

pub returns-in-Some : goal.returns-in-Some
returns-in-Some c =
    let s = c.args.s.now in
    (three (goal.at.returns-in-Some c).Else-not-length_holds, lowest_found (length s / 512) (λ b. not (block_right s b)) c.in-Some.block c.in-Some.ensures)

pub header_holds-requires : goal.header_holds-requires
header_holds-requires c = (length-says (edition_of c.args.s.now) c.args.s.now (three (goal.at.header_holds-requires c).Else-not-length_holds)).0

pub returns-then-not-header_holds : goal.returns-then-not-header_holds
returns-then-not-header_holds c =
    let s = c.args.s.now in (
      three (goal.at.returns-then-not-header_holds c).Else-not-length_holds,
      λ k h. not-false (block_right s k) (none_found (length s / 512) (λ b. not (block_right s b)) c.in_default.ensures k h),
      sym (c.header_holds.ensures (edition_of s) c.edition-edition.ensures) ∙ c.if-not-header_holds.true,
    )

pub count-count-requires : goal.count-count-requires
count-count-requires c = (length-says (edition_of c.args.s.now) c.args.s.now (three (goal.at.count-count-requires c).Else-not-length_holds)).0

pub blocks-requires : goal.blocks-requires
blocks-requires c =
    let s = c.args.s.now in
    let d = numbers_of_lem s c.edition-edition.result c.edition-edition.ensures in
    (omega (arith, d), omega (arith, d, c.count-count.ensures, header-says (edition_of s) s (five (goal.at.blocks-requires c).Else-not-header_holds)))

pub returns-then-s-blocks : goal.returns-then-s-blocks
returns-then-s-blocks c =
    let s = c.args.s.now in (
      three (goal.at.returns-then-s-blocks c).Else-not-length_holds,
      λ k h. not-false (block_right s k) (none_found (length s / 512) (λ b. not (block_right s b)) c.in_default.ensures k h),
      five (goal.at.returns-then-s-blocks c).Else-not-header_holds,
      blocks_no (edition_of s) s c.count-count.result c.count-count.ensures (λ q. c.if-s-blocks.true (q ∙ sym (c.blocks-2.ensures (edition_of s) c.edition-edition.ensures))),
    )

pub invariant_of-result : goal.invariant_of-result
invariant_of-result c =
    let s = c.args.s.now in record {
      numbers = (c.count-count.ensures, c.edition-edition.ensures);
      octets = λ i. (c.type_inv.s i).fits;
      long = (length-says (edition_of s) s (three (goal.at.invariant_of-result c).Else-not-length_holds)).0;
    }

pub returns : goal.returns
returns c =
    let s = c.args.s.now in (
      refl,
      record {
        length = three (goal.at.returns c).Else-not-length_holds;
        checks = λ k h. not-false (block_right s k) (none_found (length s / 512) (λ b. not (block_right s b)) c.in_default.ensures k h);
        header = five (goal.at.returns c).Else-not-header_holds;
        blocks = blocks_yes (edition_of s) s c.count-count.result c.count-count.ensures (c.if-s-blocks.false ∙ c.blocks-2.ensures (edition_of s) c.edition-edition.ensures);
      },
    )
