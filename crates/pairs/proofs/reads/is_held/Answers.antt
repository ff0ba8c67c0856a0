-- `pairs::reads::is_held` meets its contract, by the case of the last write. Assumes nothing.
use Rattle.std.proofs.Common.{sym, ap, ◌∙◌, not}
use Rattle.record.specs.History.{under}
use Rattle.record.specs.Words.{history_from, terms_from}
use Rattle.consistency.specs.Reads.{held, same_held, left_by}
use Rattle.events.specs.Given.{fields_of}
use Rattle.consistency.proofs.ReadLaws.{held-absent, held-present}
use Rattle.pairs.proofs.reads.is_held.Goals as goal

pub returns-in-None : goal.returns-in-None
unfolding history_from
returns-in-None g c =
    let f = fields_of c.args.events.now.heads.words.now in
    c.holds_opening.ensures ∙ sym (ap (λ x. same_held (held f c.args.e) (left_by (under (terms_from c.args.terms.now.words.now) f) c.args.e x)) c.in-None.is)

pub returns-then-is_present : goal.returns-then-is_present
unfolding history_from
returns-then-is_present g c =
    let f = fields_of c.args.events.now.heads.words.now in
    held-present f c.args.e _ c.is_present.result c.is_present.ensures _ c.value.result c.value-then-is_present.result
    (ap (left_by (under (terms_from c.args.terms.now.words.now) f) c.args.e) c.in-Some.is) (ap not c.if-is_present.true) c.value.ensures c.value-then-is_present.ensures

pub returns-else-is_present : goal.returns-else-is_present
unfolding history_from
returns-else-is_present g c =
    let f = fields_of c.args.events.now.heads.words.now in
    c.if-is_present.false
    ∙ held-absent f c.args.e _ c.is_present.result c.is_present.ensures _ (ap (left_by (under (terms_from c.args.terms.now.words.now) f) c.args.e) c.in-Some.is) (ap not c.if-is_present.false)
