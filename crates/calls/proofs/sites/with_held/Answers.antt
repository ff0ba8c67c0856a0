use borrow.Author.Rules.{rules}
use mathlib.Core.Path.{◌≡◌}
use native.Mathlib.Omega.{arith}
use Rattle.rows.proofs.StoredLaws.{stored_none, stored_more}
use Rattle.calls.proofs.KeptLaws.{raised, raised_at, raised_small, raised_all}
use Rattle.calls.proofs.sites.with_held.Goals as goal

pub loop-i-init : goal.loop-i-init
loop-i-init c = (omega arith, stored_none (raised c.args.counts c.args.j) c.args.counts)

pub overflow_cast-all : goal.overflow_cast-all
overflow_cast-all c = omega arith

pub offset_bounds-all-i : goal.offset_bounds-all-i
offset_bounds-all-i c = omega arith

pub bounds-all-i : goal.bounds-all-i
bounds-all-i c = omega arith

pub overflow_add-all : goal.overflow_add-all
overflow_add-all c =
    let l = c.loop-i in
    omega (arith, raised_small c.args.counts c.args.j l.all l.i l.invariant.1 (c.requires.by_index l.i))

pub bounds-all-i-in-loop-i : goal.bounds-all-i-in-loop-i
bounds-all-i-in-loop-i c = omega arith

pub overflow_step-i : goal.overflow_step-i
overflow_step-i c = omega arith

pub loop-i-smaller : goal.loop-i-smaller
loop-i-smaller c = omega arith

pub loop-i-preserved : goal.loop-i-preserved
loop-i-preserved c =
    let l = c.loop-i in
    let a = c.args in
    (omega arith, stored_more (raised a.counts a.j) a.counts l.all l.i _ l.invariant.1 (search rules) (raised_at a.counts a.j l.all l.i l.invariant.1))

pub returns : goal.returns
returns c =
    let l = c.loop-i in
    let all : l.i ≡ 8 = omega arith in
    raised_all c.args.counts c.args.j l.all (rw all at l.invariant.1) c.requires.j_bound
