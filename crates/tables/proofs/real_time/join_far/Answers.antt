use mathlib.Core.Path.{refl, ap, ◌∙◌}
use Prim.Native.Nat.{ℕ, ◌-◌}
use native.Mathlib.Omega.{arith}
use Rattle.tables.proofs.RealTimeLaws.{joining_none, joining_more, joining_all}
use Rattle.tables.proofs.real_time.join_far.Goals as goal

pub loop-start-init : goal.loop-start-init
loop-start-init c =
    let a = c.args in
    (refl, refl, joining_none a.heads.now.words.now a.n a.w a.difference a.starts.now a.returns.now c.requires.in_order.0 c.requires.in_order.1 a.t.now)

pub loop-start-preserved : goal.loop-start-preserved
loop-start-preserved c =
    let k = c.loop-start in
    let a = c.args in
    let i = k.invariant in
    let z = c.requires in
    let f = c.join_before in
    let before = rw (i.0, i.1) at f.ensures.returned_before in
    let joined = rw i.1 at f.ensures.joined in (
      f.ensures.same.0 ∙ i.0,
      ap (λ r. r.now) f.ensures.same.1 ∙ i.1,
      joining_more a.heads.now.words.now a.n a.w a.difference a.starts.now a.returns.now z.in_order.0 z.in_order.1 a.t.now k.returned.passed k.start-index k.far k.t i.2
          z.n_in_bounds.1 z.n_in_bounds.3 c.loop-start-test.true c.saturating_sub-time.result f.new.returned.passed f.new.far c.join_row.new.to
          (c.saturating_sub-time.ensures ∙ ap (λ (x : ℕ). x - a.difference) c.start_time.ensures) before
          (joined a.n (λ j h. (z.in_order.1.events j h).0) i.2.held) f.ensures.far_len_unchanged c.join_row.ensures,
    )

pub returns : goal.returns
returns c =
    let k = c.loop-start in
    let a = c.args in
    joining_all a.heads.now.words.now a.n a.w a.difference a.starts.now a.returns.now c.requires.in_order.0 c.requires.in_order.1 a.t.now
    k.returned.passed k.start-index k.far k.t k.invariant.2 (omega arith)
