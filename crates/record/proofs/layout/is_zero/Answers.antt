-- `record::layout::is_zero` meets its contract. Assumes nothing.
use Rattle.std.proofs.Common.{ℕ, eqb, rules, ◌∙◌, ap, take, drop, bit_or}
use borrow.Author.Tests.{tests}
use Rattle.std.proofs.lemmas.Iterator.{YieldsList-from_slice}
use Rattle.std.proofs.lemmas.Iterator.Consumers.{fold_from_yields_List}
use Rattle.record.proofs.LayoutLaws.{zeros_put}
use Rattle.record.proofs.layout.is_zero.Goals as goal

pub returns : goal.returns
returns c =
    let a = c.args in
    ap (λ (x : ℕ). eqb x 0) (fold_from_yields_List _ bit_or 0 c.fold.result c.fold.ensures.ran (YieldsList-from_slice (take a.k (drop a.at a.s.now)) (search rules)) (λ p x b q k. search (rules, tests)))
    ∙ zeros_put a.k a.s.now a.at c.requires
