-- `converter::moving::Record::stands` meets its contract, one question after the other. Assumes nothing.
use Rattle.converter.proofs.MovingLaws.{stand_many, stand_terms, stand_bare, long}
use Rattle.record.specs.Converted.{numbered}
use Rattle.record.specs.History.{History, history_of}
use Rattle.record.specs.Layout.{edition_of}
use Rattle.record.specs.declared.Edition.{Edition}
use native.Mathlib.Omega.{arith}
use borrow.Author.Tests.{lt-leb}
use mathlib.Core.Path.{◌≡◌, sym, ap, ◌∙◌}
use Rattle.converter.proofs.moving.Record.stands.Goals.{After-count, Start}
use Rattle.converter.proofs.moving.Record.stands.Goals as goal

abbrev start : After-count → Start
start c = (goal.at.After-count c).Start

abbrev said : After-count → History
said c = let s = (start c).args.self.now.bytes.now in history_of (edition_of s) s

-- the edition's numbers, and how many events there are
events : (c : After-count) → c.by_number-to.result.events ≡ (numbered (start c).args.k).events
events c = ap (λ (e : Edition). e.events) c.by_number-to.ensures

terms : (c : After-count) → (numbered (start c).args.k).terms ≡ c.by_number-to.result.terms
terms c = sym (ap (λ (e : Edition). e.terms) c.by_number-to.ensures)

count : (c : After-count) → c.count.result ≡ (said c).count
unfolding history_of
count c = c.count.ensures

pub count-requires : goal.count-requires
count-requires c = long c.args.self.now.bytes.now c.args.self.now.passes

pub returns-else-count-to : goal.returns-else-count-to
returns-else-count-to c =
    let s = (goal.at.returns-else-count-to c).After-count in
    lt-leb _ _ c.if-count-to.false ∙ stand_many (numbered (start s).args.k) (said s) (omega (arith, events s, count s, c.if-count-to.false))

pub returns-then-to : goal.returns-then-to
returns-then-to c =
    let s = (goal.at.returns-then-to c).After-count in
    c.if-to.true ∙ stand_terms (numbered (start s).args.k) (said s) (omega (arith, events s, count s, c.if-count-to.true)) (terms s ∙ c.if-to.true)

pub returns-else-to : goal.returns-else-to
returns-else-to c =
    let s = (goal.at.returns-else-to c).After-count in
    stand_bare (numbered (start s).args.k) (said s) (omega (arith, events s, count s, c.if-count-to.true)) (terms s ∙ c.if-to.false) c.says_none.ensures
