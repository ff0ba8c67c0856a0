use mathlib.Core.Path.{ap}
use Prim.Native.Nat.{◌+◌, ◌-◌, ◌*◌}
use native.Mathlib.Omega.{arith}
use borrow.Rule.Slice.PartMut.{put_mid}
use Rattle.calls.specs.Mirror.{call_of}
use Rattle.rehearsal.proofs.RunLaws.{Turned, turned_none, standing, turned_more, turned_all}
use Rattle.rehearsal.proofs.run.run.Goals.{At-loop-k}
use Rattle.rehearsal.proofs.run.run.Goals as goal

-- where the loop begins a turn, on the terms that the arrays began with
turned : (c : At-loop-k) → let l = c.loop-k in Turned c.args.n c.requires.begun.terms c.args.script.now c.args.out.now l.out l.store l.k
turned c = c.loop-k.invariant.1 c.requires.begun.terms c.requires.begun.begins

pub loop-k-init : goal.loop-k-init
loop-k-init c =
    let g = c.args in
    (omega arith, λ t h. turned_none g.n t g.script.now g.out.now g.store.now h)

pub call-answer-requires-clause-stand : goal.call-answer-requires-clause-stand
call-answer-requires-clause-stand c =
    record { terms = c.requires.begun.terms; stands = standing c.args.n c.requires.begun.terms c.args.script.now c.args.out.now _ _ _ (turned (goal.at.call-answer-requires-clause-stand c).At-loop-k) }

pub loop-k-preserved : goal.loop-k-preserved
loop-k-preserved c =
    let l = c.loop-k in (
      omega arith,
      λ t h.
          let so_far = l.invariant.1 t h in
          turned_more c.args.n t c.args.script.now c.args.out.now l.out l.store l.k so_far (omega arith) c.requires.n_bound.3 (call_of c.asked_at.result) c.asked_at.ensures _ c.call-answer.result _
          (c.call-answer.ensures t (standing c.args.n t c.args.script.now c.args.out.now _ _ _ so_far)) (ap (put_mid (8 * l.k) (8 * l.k + 8 - 8 * l.k) l.out) c.copy_from_slice.ensures.after),
    )

pub returns : goal.returns
returns c =
    let l = c.loop-k in
    λ t h. turned_all c.args.n t c.args.script.now c.args.out.now l.out l.store l.k (l.invariant.1 t h) (omega arith) c.requires.n_bound.1
