use Rattle.std.proofs.Common.{◌≡◌, ◌<◌, ◌≤◌, ◌*◌, refl, sym, ap, subst, ◌∙◌, arith, true, List, ℕ, length}
use Rattle.std.proofs.lemmas.List.{length-replicate}
use Rattle.rows.specs.Lowest.{found, lowest, some}
use Rattle.rows.specs.Row.{has}
use Rattle.rows.specs.Relation.{Rel}
use Rattle.rows.proofs.FoundLaws.{below-none}
use Rattle.pairs.specs.Searches.{lacks}
use Rattle.pairs.proofs.InclusionLaws.{row_none, row_past, row_any, row-broken, found_end, collected_none, collected_more, collected_skip}
use Rattle.pairs.proofs.inclusion.search.Goals.{After-loop-b, After-lowest_end, then-may_end, else-may_end}
use Rattle.pairs.proofs.inclusion.search.Given.{Over}
use Rattle.pairs.proofs.inclusion.search.Goals as goal

pub loop-b-init : goal.loop-b-init
loop-b-init g c =
    let s = c.args in
    let w = g.row.W in
    (length-replicate w 0, collected_none w s.q.now s.starts.now s.ends.now s.r.now w _ refl)

pub loop-b-preserved : goal.loop-b-preserved
loop-b-preserved g c =
    let s = c.args in
    let w = g.row.W in
    let l = c.loop-b in
    let told = (c.requires.may_end l.b c.loop-b-test.true).1 c.may_end.result c.may_end.ensures in
    elim c.if-may_end.branch [
      | then-may_end t ↦ (
        ap length t.begins-is ∙ t.join_outside.ensures.dst_len_unchanged ∙ l.invariant.0,
        λ a. ap (λ (m : List ℕ). has m a) t.begins-is
            ∙ collected_more w s.q.now s.starts.now s.ends.now s.r.now l.b l.begins t.join_outside.new.dst l.invariant.1 (sym told ∙ t.if-may_end.true) (rw (← t.row.ensures, ← t.row-then-may_end.ensures) t.join_outside.ensures.by_index) a,
      )
      | else-may_end t ↦ (
        ap length t.begins-is ∙ l.invariant.0,
        λ a. ap (λ (m : List ℕ). has m a) t.begins-is ∙ collected_skip w s.q.now s.starts.now s.ends.now s.r.now l.b l.begins l.invariant.1 (sym told ∙ t.if-may_end.false) a,
      )
    ]

-- `begins` has the events that begin a pair
module _ (g : Over) (c : After-loop-b g) where
  abbrev pairs : Rel
  pairs = lacks g.row.W c.args.q.now c.args.starts.now c.args.ends.now c.args.r.now

  abbrev width : ℕ
  width = 64 * length c.loop-b.begins

  begun : (a : ℕ) → has c.loop-b.begins a ≡ some c.args.n (pairs a)
  begun a = subst (λ (m : ℕ). has c.loop-b.begins a ≡ some m (pairs a)) (omega arith) (c.loop-b.invariant.1 a)

  wide : c.args.n ≤ width
  wide = omega (arith, c.loop-b.invariant.0, c.requires.n_bound)

pub returns-in_err-a : goal.returns-in_err-a
returns-in_err-a g c =
    let k = (goal.at.returns-in_err-a g c).After-loop-b in
    c.from_residual.ensures ∙ sym (row_none c.args.n (width g k) (pairs g k) (has c.loop-b.begins) (begun g k) (wide g k) (sym c.lowest.ensures ∙ c.in_err-a.was))

pub returns-then-n-a : goal.returns-then-n-a
returns-then-n-a g c =
    let k = (goal.at.returns-then-n-a g c).After-loop-b in
    sym (row_past c.args.n (width g k) (pairs g k) (has c.loop-b.begins) (begun g k) (wide g k) (sym c.lowest.ensures ∙ c.in_ok-a.was) c.if-n-a.true)

-- some event ends a pair from the one found, and what was found to end one is the lowest that does
module _ (g : Over) (c : After-lowest_end g) where
  abbrev passed : After-loop-b g
  passed = (goal.at.After-lowest_end g c).After-loop-b

  any : (lowest c.args.n (pairs g passed c.in_ok-a.a) < c.args.n) × (pairs g passed c.in_ok-a.a (lowest c.args.n (pairs g passed c.in_ok-a.a)) ≡ true)
  any = row_any c.args.n (width g passed) (pairs g passed) (has c.loop-b.begins) (begun g passed) (wide g passed) (sym c.lowest.ensures ∙ c.in_ok-a.was)

  ended : c.lowest_end.result ≡ found c.args.n (pairs g passed c.in_ok-a.a)
  ended =
      let s = c.args in
      c.lowest_end.ensures ∙ found_end g.row.W s.q.now s.starts.now s.ends.now s.r.now s.n c.in_ok-a.a any

pub returns-in_err-lowest_end : goal.returns-in_err-lowest_end
returns-in_err-lowest_end g c =
    let k = (goal.at.returns-in_err-lowest_end g c).After-lowest_end in
    absurd (omega (arith, (any g k).0, below-none c.args.n (lowest c.args.n (pairs g (passed g k) c.in_ok-a.a)) (sym (ended g k) ∙ c.in_err-lowest_end.was)))

pub returns : goal.returns
returns g c =
    let e = (goal.at.returns g c).After-lowest_end in
    let k = passed g e in
    sym (row-broken c.args.n (width g k) (pairs g k) (has c.loop-b.begins) (begun g k) (wide g k) (sym c.lowest.ensures ∙ c.in_ok-a.was) c.if-n-a.false (sym (ended g e) ∙ c.in_ok-lowest_end.was))
