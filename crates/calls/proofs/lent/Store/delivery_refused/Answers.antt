-- `calls::lent::Store::delivery_refused` meets its contract: each return is the first question that got a no. Assumes nothing.
use mathlib.Core.Path.{◌≡◌, refl, sym, ◌∙◌}
use mathlib.Core.Bool.{Bool, true, false, not, ◌&&◌}
use lib.Dec.{ltb}
use lib.ListN.{get_or}
use borrow.Author.Tests.{lt-ltb, le-ltb, le-leb}
use Rattle.rows.specs.Row.{has}
use Rattle.store.specs.Rules.{reached}
use Rattle.calls.specs.Lent.{row_in}
use Rattle.calls.proofs.lent.Store.delivery_refused.Goals.{After-if-not, After-reaches, then-self-w, else-self-w}
use Rattle.calls.proofs.lent.Store.delivery_refused.Goals as goal

again : (b : Bool) → b ≡ not (not b)
again true = refl
again false = refl

denied : (b : Bool) → not b ≡ true → b ≡ false
denied false e = refl
denied true e = sym e

-- whether the event is no put
no_put : (c : After-if-not) → let g = c.args in ltb g.w g.self.now.count && has g.self.now.puts g.w ≡ not c.if-self-w.value
no_put c =
    let g = c.args in
    elim c.if-self-w.branch [
      | then-self-w w ↦ rw (le-ltb _ _ w.if-self-w.true, w.value-is, le-leb _ _ w.if-self-w.true) refl
      | else-self-w w ↦ rw (lt-ltb _ _ w.if-self-w.false, w.value-is, w.test.ensures) (again (has g.self.now.puts g.w))
    ]

-- whether what the site holds reaches the put's needs
reached_there : (c : After-reaches) → let g = c.args in c.reaches.result ≡ reached 8 (λ i. get_or (row_in g.self.now.needs g.w) i 0) (λ i. get_or (row_in g.self.now.held g.s) i 0)
reached_there c = rw c.site_at.ensures at c.reaches.ensures

pub returns-then-not-test : goal.returns-then-not-test
returns-then-not-test c =
    elim c.if-self-w.branch [
      | then-self-w w ↦ rw (lt-ltb _ _ c.if-n-s.false, le-ltb _ _ w.if-self-w.true) refl
      | else-self-w w ↦ rw (lt-ltb _ _ c.if-n-s.false, lt-ltb _ _ w.if-self-w.false, ← w.test.ensures, denied _ (sym w.value-is ∙ c.if-not-test.true)) refl
    ]

pub returns-then-test : goal.returns-then-test
returns-then-test c =
    rw (lt-ltb _ _ c.if-n-s.false, no_put (goal.at.returns-then-test c).After-if-not, c.if-not-test.false, ← c.test-else-not-test.ensures, c.if-test.true) refl

pub returns-then-not-reaches : goal.returns-then-not-reaches
returns-then-not-reaches c =
    rw (lt-ltb _ _ c.if-n-s.false, no_put (goal.at.returns-then-not-reaches c).After-if-not, c.if-not-test.false, ← c.test-else-not-test.ensures, c.if-test.false, ← reached_there (goal.at.returns-then-not-reaches c).After-reaches, c.if-not-reaches.true) refl

pub returns-else-not-reaches : goal.returns-else-not-reaches
returns-else-not-reaches c =
    rw (lt-ltb _ _ c.if-n-s.false, no_put (goal.at.returns-else-not-reaches c).After-if-not, c.if-not-test.false, ← c.test-else-not-test.ensures, c.if-test.false, ← reached_there (goal.at.returns-else-not-reaches c).After-reaches, c.if-not-reaches.false) refl
