-- `reader::blocks::wrong_block` meets its contract. Assumes nothing.
use mathlib.Core.Bool.{not}
use Rattle.std.proofs.Common.{ℕ, Bool, ◌≡◌, ◌/◌, true, false, rules, length}
use borrow.Author.Tests.{tests}
use Rattle.std.proofs.lemmas.Iterator.{first_from_Range}
use Rattle.record.specs.Blocks.{block_right}
use Rattle.record.proofs.SearchLaws.{found_from_find}
use Rattle.reader.proofs.blocks.wrong_block.Goals as goal

pub returns : goal.returns
returns c =
    let wrong : ℕ → Bool = λ k. not (block_right c.args.s.now k) in
    found_from_find (length c.args.s.now / 512) wrong c.find.result
    (first_from_Range _ _ _ c.find.result (λ k. wrong k ≡ true) (λ k. wrong k ≡ false) c.find.ensures.ran (λ x q k. search (rules, tests)) (λ x q k. search (rules, tests)))
