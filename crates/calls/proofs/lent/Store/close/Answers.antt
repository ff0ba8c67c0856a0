use mathlib.Core.Path.{◌≡◌, refl, sym, ◌∙◌}
use mathlib.Core.Bool.{true}
use Prim.Native.Nat.{◌<◌}
use native.Mathlib.Omega.{arith}
use Rattle.rows.specs.Lowest.{lowest}
use Rattle.rows.specs.Row.{has}
use Rattle.rows.proofs.FoundLaws.{below-some, below-none}
use Rattle.record.specs.Layout.{most_events}
use Rattle.record.specs.Terms.{Terms}
use Rattle.calls.specs.Lent.{row_in, store_in, lacked_by_some}
use Rattle.calls.proofs.FitLaws.{Fit, stands_fit}
use Rattle.calls.proofs.CloseTurn.{ClosingIn, Copying, closing-start, closing-most, closing-closes, copying_start, copying_pass, copying_copyable, copying_copy, copying_carried, copied_higher, copied_join, lacked_put}
use Rattle.calls.proofs.lent.Store.close.Goals.{Start, In-Some, At-loop-t, In-loop-t, After-test, then-not-test, else-not-test}
use Rattle.calls.proofs.lent.Store.close.Goals as goal

begun : (c : Start) → Fit c.args.n c.requires.stand.terms c.args.self.now
begun c = stands_fit c.args.n c.requires.n_bound c.requires.stand.terms c.args.self.now c.requires.stand.stands

-- at a turn of the outer loop
here : (c : In-Some) → Fit c.args.n c.requires.stand.terms c.loop-lacked.self
here c = (c.loop-lacked.invariant.turn c.requires.stand.terms (begun (goal.at.In-Some c).Start)).fit

lowest-lacked : (c : In-Some) → (c.in-Some.lacked ≡ lowest most_events (lacked_by_some c.loop-lacked.self c.args.n)) × (c.in-Some.lacked < most_events)
lowest-lacked c =
    let q = below-some most_events (lowest most_events (lacked_by_some c.loop-lacked.self c.args.n)) c.in-Some.lacked (sym c.first_lacked.ensures ∙ c.in-Some.is) in
    (q.0, omega (arith, q))

is_put : (c : In-Some) (t : Terms) → Fit c.args.n t c.loop-lacked.self → ((store_in t c.loop-lacked.self).event c.in-Some.lacked).is_put ≡ true
is_put c t h = lacked_put c.args.n c.requires.n_bound t c.loop-lacked.self h c.in-Some.lacked (lowest-lacked c).0 (lowest-lacked c).1

-- at a turn of the inner
copying : (c : At-loop-t) → let l = c.loop-t in Copying c.args.n c.requires.stand.terms c.loop-lacked.self c.in-Some.lacked c.loop-lacked.copies l.self l.copies l.t
copying c = c.loop-t.invariant.1.turn c.requires.stand.terms (here (goal.at.At-loop-t c).In-Some)

-- whether the site knows it
told : (c : After-test) → c.test.result ≡ has (row_in c.loop-t.self.known c.loop-t.t) c.in-Some.lacked
told c = c.test.ensures

-- all copies so far
joined : (c : At-loop-t) → (t : Terms) → Fit c.args.n t c.args.self.now → ClosingIn c.args.n t c.args.self.now c.loop-t.self c.loop-t.copies
joined c t h =
    let so_far = c.loop-lacked.invariant.turn t h in
    copied_join c.args.n c.requires.n_bound t c.args.self.now h c.loop-lacked.self c.loop-lacked.copies c.loop-t.self c.in-Some.lacked c.loop-t.copies c.loop-t.t so_far
    (c.loop-t.invariant.1.turn t so_far.fit)

pub loop-lacked-init : goal.loop-lacked-init
loop-lacked-init c = record { turn = λ t h. closing-start c.args.n c.requires.n_bound t c.args.self.now h; events = (refl, refl) }

pub loop-t-init : goal.loop-t-init
loop-t-init c = (
  omega arith,
  record {
    turn = λ t h. copying_start c.args.n c.requires.n_bound t c.loop-lacked.self h c.in-Some.lacked c.loop-lacked.copies (lowest-lacked (goal.at.loop-t-init c).In-Some).0;
    events = (refl, refl);
  },
)

pub loop-lacked-smaller : goal.loop-lacked-smaller
loop-lacked-smaller c =
    let l = c.loop-t in
    let i = (goal.at.loop-lacked-smaller c).In-Some in
    omega (
      arith,
      lowest-lacked i,
      copied_higher c.args.n c.requires.n_bound c.requires.stand.terms c.loop-lacked.self (here i) l.self l.copies c.in-Some.lacked c.loop-lacked.copies l.t _
          (copying (goal.at.loop-lacked-smaller c).At-loop-t) c.loop-t-test.false (lowest-lacked i).1 refl,
    )

pub loop-lacked-preserved : goal.loop-lacked-preserved
loop-lacked-preserved c =
    let s = c.loop-t.invariant.1.events in
    let o = c.loop-lacked.invariant.events in
    record { turn = joined (goal.at.loop-lacked-preserved c).At-loop-t; events = (s.0 ∙ o.0, s.1 ∙ o.1) }

pub deliver-requires : goal.deliver-requires
deliver-requires c =
    let i = (goal.at.deliver-requires c).In-Some in
    let l = c.loop-t in
    copying_copyable c.args.n c.requires.n_bound c.requires.stand.terms c.loop-lacked.self (here i) l.self l.copies c.in-Some.lacked c.loop-lacked.copies (lowest-lacked i).1
    (is_put i c.requires.stand.terms (here i)) l.t (copying (goal.at.deliver-requires c).At-loop-t) c.loop-t-test.true (sym (told (goal.at.deliver-requires c).After-test) ∙ c.if-not-test.true)

pub overflow_add-copies : goal.overflow_add-copies
overflow_add-copies c =
    let l = c.loop-t in
    let b = begun (goal.at.overflow_add-copies c).Start in
    omega (arith, closing-most c.args.n c.requires.n_bound c.requires.stand.terms c.args.self.now b l.self l.copies (joined (goal.at.overflow_add-copies c).At-loop-t c.requires.stand.terms b))

pub loop-t-preserved : goal.loop-t-preserved
loop-t-preserved c =
    let i = (goal.at.loop-t-preserved c).In-Some in
    let l = c.loop-t in
    let small = (lowest-lacked i).1 in
    let known = told (goal.at.loop-t-preserved c).After-test in
    let s = l.invariant.1.events in (
      omega arith,
      elim c.if-not-test.branch [
        | then-not-test w ↦
            record {
              turn = λ t h.
                  copying_carried w.self-is w.copies-is
                  (copying_copy c.args.n c.requires.n_bound t c.loop-lacked.self h l.self l.copies c.in-Some.lacked c.loop-lacked.copies small (is_put i t h) l.t (l.invariant.1.turn t h)
                  c.loop-t-test.true (sym known ∙ w.if-not-test.true) _ w.deliver.ensures.came);
              events = rw w.self-is (w.deliver.ensures.same_events.0 ∙ s.0, w.deliver.ensures.same_events.1 ∙ s.1);
            }
        | else-not-test w ↦
            record {
              turn = λ t h.
                  copying_carried w.self-is w.copies-is
                  (copying_pass c.args.n c.requires.n_bound t c.loop-lacked.self h l.self l.copies c.in-Some.lacked c.loop-lacked.copies small (is_put i t h) l.t (l.invariant.1.turn t h)
                  c.loop-t-test.true (sym known ∙ w.if-not-test.false));
              events = rw w.self-is s;
            }
      ],
    )

pub returns-clause-closes : goal.returns-clause-closes
returns-clause-closes c =
    λ t s.
    let h = stands_fit c.args.n c.requires.n_bound t c.args.self.now s in
    let l = c.loop-lacked in
    closing-closes c.args.n c.requires.n_bound t c.args.self.now h l.self l.copies (l.invariant.turn t h) _ refl (below-none most_events _ (sym c.first_lacked.ensures ∙ c.in_default.is))
