-- `converter::moving::Record::says_none` meets its contract: an edition without terms says none, and in the others their bytes tell. Assumes nothing.
use Rattle.converter.proofs.MovingLaws.{long, none_lacking, none-zero}
use Rattle.record.specs.Answers.{Passes}
use Rattle.record.specs.Layout.{edition_of}
use Rattle.record.specs.declared.Edition.{Edition}
use borrow.Author.Tests.{not-true, not-false}
use native.Mathlib.Omega.{arith}
use Prim.Native.Nat.{ℕ}
use mathlib.Core.List.{List}
use mathlib.Core.Path.{◌≡◌, sym, ap, ◌∙◌}
use Rattle.converter.proofs.moving.Record.says_none.Goals.{After-edition}
use Rattle.converter.proofs.moving.Record.says_none.Goals as goal

-- the record, and what is known of it
abbrev text : After-edition → List ℕ
text c = c.args.self.now.bytes.now

right : (c : After-edition) → Passes (edition_of (text c)) (text c)
right c = c.args.self.now.passes

terms : (c : After-edition) → (edition_of (text c)).terms ≡ c.edition.result.terms
terms c = sym (ap (λ (e : Edition). e.terms) c.edition.ensures)

pub returns-then-not-edition : goal.returns-then-not-edition
returns-then-not-edition c =
    let s = (goal.at.returns-then-not-edition c).After-edition in
    c.if-not-edition.true ∙ none_lacking (text s) (right s) (terms s ∙ not-true _ c.if-not-edition.true)

pub is_zero-requires : goal.is_zero-requires
is_zero-requires c = let s = (goal.at.is_zero-requires c).After-edition in omega (arith, long (text s) (right s))

pub returns-else-not-edition : goal.returns-else-not-edition
returns-else-not-edition c =
    let s = (goal.at.returns-else-not-edition c).After-edition in
    c.is_zero.ensures ∙ none-zero (text s) (right s) c.args.self.now.octets (terms s ∙ not-false _ c.if-not-edition.false)
