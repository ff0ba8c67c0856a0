-- `calls::lent::Store::refused` meets its contract: by the kind of call. Assumes nothing.
use mathlib.Core.Path.{refl}
use Rattle.calls.specs.Lent.{with_events, store_in}
use Rattle.store.specs.Rules.{refusal}
use Rattle.calls.proofs.RefuseLaws.{delivery_asked}
use Rattle.calls.proofs.lent.Store.refused.Goals as goal

pub returns-in-Put : goal.returns-in-Put
unfolding refusal store_in
returns-in-Put c = λ t sees events. rw c.in-Put.is c.event_refused.ensures

pub returns-in-Get : goal.returns-in-Get
unfolding refusal store_in
returns-in-Get c = λ t sees events. rw c.in-Get.is c.event_refused-in-Get.ensures

pub returns-in-Deliver : goal.returns-in-Deliver
returns-in-Deliver c =
    let g = c.args in
    let z = g.self.now in
    λ t sees events.
    rw c.in-Deliver.is (delivery_asked g.n t (with_events z sees events) c.in-Deliver.event c.in-Deliver.site c.requires.0 _ c.delivery_refused.ensures)

pub returns-in-Close : goal.returns-in-Close
unfolding refusal
returns-in-Close c = λ t sees events. rw c.in-Close.is refl

pub returns-in-Malformed : goal.returns-in-Malformed
unfolding refusal
returns-in-Malformed c = λ t sees events. rw c.in-Malformed.is refl
