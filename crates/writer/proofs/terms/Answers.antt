-- `writer::terms` meets its contract: the difference stands before the openings, which are those of what they say. Assumes nothing.
use mathlib.Core.Path.{refl, sym, ap, ◌∙◌}
use lib.Seq.{sets}
use Rattle.record.specs.declared.Edition.{Edition}
use Rattle.record.specs.Terms.{opening_in}
use Rattle.record.specs.Encode.{with_terms, terms_bytes, opening_bytes}
use Rattle.record.proofs.WrittenLaws.{openings_again}
use Rattle.writer.proofs.BytesLaws.{le-then}
use Rattle.writer.proofs.terms.Goals as goal

pub returns-then-ed : goal.returns-then-ed
unfolding with_terms terms_bytes
returns-then-ed c = λ L q.
    let o = c.args.openings.now in
    let again = openings_again o (λ i. (c.type_inv.openings i).fits) c.requires.1 c.requires.2 in
    rw (sym (ap (λ (e : Edition). e.terms) q) ∙ c.if-ed.true)
    (le-then 4 c.args.difference (opening_bytes (opening_in o 0)) _ _ _ 8 12 c.put.ensures c.to_le_bytes.ensures (c.put-then-ed.ensures ∙ ap (sets c.put.new.s 12) (sym again)) refl)

pub returns-else-ed : goal.returns-else-ed
unfolding with_terms
returns-else-ed c = λ L q. rw (sym (ap (λ (e : Edition). e.terms) q) ∙ c.if-ed.false)
