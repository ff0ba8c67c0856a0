-- `converter::moving::Record::put_terms` meets its contract: terms are copied, or there are none to write. Assumes nothing.
use Rattle.converter.proofs.MovingLaws.{long, terms-copied, terms_dropped, terms-left}
use Rattle.record.specs.Converted.{numbered}
use Rattle.record.specs.Layout.{Layout, edition_of}
use Rattle.record.specs.declared.Edition.{Edition}
use native.Mathlib.Omega.{arith}
use Prim.Native.Nat.{ℕ}
use mathlib.Core.List.{List}
use mathlib.Core.Path.{◌≡◌, sym, ap, ◌∙◌}
use Rattle.converter.proofs.moving.Record.put_terms.Goals.{After-edition, Start, else-edition-via-then-edition+else-by_number, else-edition-via-else-edition}
use Rattle.converter.proofs.moving.Record.put_terms.Goals as goal

abbrev start : After-edition → Start
start c = (goal.at.After-edition c).Start

abbrev text : After-edition → List ℕ
text c = (start c).args.self.now.bytes.now

abbrev to : After-edition → Layout
to c = numbered (start c).args.k

-- whether each edition has terms
own : (c : After-edition) → (edition_of (text c)).terms ≡ c.edition.result.terms
own c = sym (ap (λ (e : Edition). e.terms) c.edition.ensures)

pub copy_part-requires : goal.copy_part-requires
copy_part-requires c =
    let s = (goal.at.copy_part-requires c).After-edition in
    (omega (arith, long (text s) (start s).args.self.now.passes), omega (arith, (start s).requires.room))

pub returns-then-by_number : goal.returns-then-by_number
returns-then-by_number c =
    let s = (goal.at.returns-then-by_number c).After-edition in
    terms-copied (text s) (start s).args.self.now.passes (to s) (start s).args.target.now (start s).args.self.now.octets (own s ∙ c.if-edition.true)
    (sym (ap (λ (e : Edition). e.terms) c.by_number.ensures) ∙ c.if-by_number.true) c.copy_part.ensures

pub returns-else-edition : goal.returns-else-edition
returns-else-edition c =
    let s = (goal.at.returns-else-edition c).After-edition in
    let right = (start s).args.self.now.passes in
    elim c.else-edition.branch [
      | else-edition-via-then-edition+else-by_number w ↦
          terms_dropped (text s) right (to s) (start s).args.target.now (sym (ap (λ (e : Edition). e.terms) w.by_number.ensures) ∙ w.if-by_number.false)
      | else-edition-via-else-edition w ↦
          terms-left (text s) right (to s) (start s).args.target.now (own s ∙ w.if-edition.false) (λ p l m. (start s).requires.zero p l (omega arith))
    ]
