-- `rehearsal::accepted` meets its contract: the answers of the run, and the record of the store that its arrays stand for. Assumes nothing.
use native.Mathlib.Omega.{arith}
use Rattle.store.specs.Rehearsal.{terms_of}
use Rattle.calls.specs.Lent.{Lent}
use Rattle.rehearsal.specs.Runs.{Fresh, Ran}
use Rattle.rehearsal.proofs.RunLaws.{fresh_arrays, opened-fresh}
use Rattle.rehearsal.proofs.RehearsalLaws.{Accepted, accepted, ran_ordered, accepted_rehearses}
use Rattle.rehearsal.proofs.accepted.Goals.{After-opened, After-run, Start}
use Rattle.rehearsal.proofs.accepted.Goals as goal

-- questions 20 to 23 and 40 got a yes
right : (c : Start) → let g = c.args in Accepted g.sites g.openings.now g.script.now g.rec.now g.answers.now
right c = let g = c.args in accepted g.sites g.openings.now g.script.now g.rec.now g.answers.now c.requires

-- fresh sites with the openings
begun : (c : After-opened) → Fresh (terms_of c.args.openings.now) (fresh_arrays c.opened.result)
begun c = opened-fresh (terms_of c.args.openings.now) c.opened.result c.opened.ensures

-- the arrays after the script
abbrev arrays : After-run → Lent
arrays c = c.run.new.store

ran : (c : After-run) → let g = c.args in Ran g.sites (terms_of g.openings.now) g.script.now g.answers.now c.run.new.out (arrays c)
ran c = c.run.ensures (terms_of c.args.openings.now) (begun (goal.at.After-run c).After-opened)

pub opened-requires : goal.opened-requires
opened-requires c = (right (goal.at.opened-requires c).Start).opened

pub run-requires : goal.run-requires
run-requires c =
    let a = right (goal.at.run-requires c).Start in record {
      n_bound = (a.most, a.whole, a.short, a.answered);
      begun = record { terms = terms_of c.args.openings.now; begins = begun (goal.at.run-requires c).After-opened };
    }

pub overflow_cast-sites : goal.overflow_cast-sites
overflow_cast-sites c = omega (arith, (right (goal.at.overflow_cast-sites c).Start).most)

pub write-length-requires : goal.write-length-requires
write-length-requires c =
    let g = c.args in
    let a = right (goal.at.write-length-requires c).Start in record {
      openings_len = (a.opened, a.right, a.room);
      ordered = ran_ordered g.sites a.most g.openings.now g.script.now g.answers.now _ (arrays (goal.at.write-length-requires c).After-run) (ran (goal.at.write-length-requires c).After-run);
    }

pub outstanding-requires : goal.outstanding-requires
outstanding-requires c = (right (goal.at.outstanding-requires c).Start).most

pub returns : goal.returns
returns c =
    let g = c.args in
    accepted_rehearses g.sites g.openings.now g.script.now g.rec.now g.answers.now c.requires
    (λ i. (c.type_inv.openings i).fits) (λ i. (c.type_inv.script i).fits) _ _ (arrays (goal.at.returns c).After-run) (ran (goal.at.returns c).After-run) _ _
    (c.write-length.ensures.rec_after (terms_of g.openings.now) (arrays (goal.at.returns c).After-run).held (arrays (goal.at.returns c).After-run).needs) c.write-length.ensures.value c.outstanding.ensures
