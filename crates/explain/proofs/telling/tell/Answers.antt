-- `explain::telling::tell` meets its contract, by the way in which the break is told. Assumes nothing.
use mathlib.Core.Path.{◌≡◌, refl, sym, ap₂, ◌∙◌}
use mathlib.Core.Bool.{Bool}
use mathlib.Core.List.{List, [], ◌∷◌, ◌++◌}
use Prim.Native.Nat.{ℕ, ◌<◌, ◌≤◌}
use native.Mathlib.Omega.{arith}
use lib.ListN.{length, drop}
use Rattle.std.specs.Prelude.{Some, Ok}
use Rattle.record.specs.Layout.{most_events}
use Rattle.record.specs.History.{History}
use Rattle.record.specs.Words.{history_from, terms_from}
use Rattle.consistency.specs.Predicates.{verdict}
use Rattle.consistency.specs.Explained.{telling, told_by}
use Rattle.consistency.specs.declared.Telling.{Telling}
use Rattle.consistency.specs.declared.Telling.TheVariants.{ByChain, ByMiddle, ByPair}
use Rattle.consistency.proofs.ExplainedLaws.{Has, Broke, broke}
use Rattle.judge.specs.Judgments.{said_by}
use Rattle.judge.specs.Ready.{history_in}
use Rattle.rows.specs.Lowest.{lowest, some}
use Rattle.explain.specs.Explanations.{answer_to, events_told, over}
use Rattle.explain.specs.Steps.{between}
use Rattle.explain.proofs.ExplanationLaws.{both-alike}
use Rattle.explain.proofs.ToldLaws.{set-one, told_as, has_as, told_pair, none_told, so_graph, middle-told, middle-there, chain-reached, chain-told}
use Rattle.explain.proofs.telling.tell.Goals.{After-judge, After-way, In-ByChain, In-ByMiddle}
use Rattle.explain.proofs.telling.tell.Goals as goal

-- the history that was prepared from the record's words
abbrev history : After-judge → History
history c = let m = c.prepare.new.self in history_in m.count m.heads c.args.v.now m.terms

judged : (c : After-judge) → c.judge.result ≡ verdict c.args.p (history c)
judged c = let e = c.evidence-evidence.ensures in c.judge.ensures ∙ rw (e.seen.0, e.seen.1, e.lent.0, e.lent.2) refl

few : (c : After-judge) → c.prepare.new.self.count ≤ most_events
few c = omega (arith, c.prepare.ensures.ready.given.rows.wide)

-- the pair
broken : (c : After-way) → verdict c.args.p (history (goal.at.After-way c).After-judge) ≡ Some (c.in-Some.a, c.in-Some.b)
broken c = sym (judged (goal.at.After-way c).After-judge) ∙ c.in-Some.is

module _ (c : After-way) where
  abbrev made : After-judge
  made = (goal.at.After-way c).After-judge

  pair : Broke c.args.p (history (goal.at.After-way c).After-judge) c.in-Some.a c.in-Some.b
  pair = broke c.args.p (history made) c.in-Some.a c.in-Some.b (broken c)

  left : c.in-Some.a < c.prepare.new.self.count
  unfolding history_from
  left = pair.left

  right : c.in-Some.b < c.prepare.new.self.count
  unfolding history_from
  right = pair.right

  has-told : (t : Telling) → t ≡ telling c.args.p → Has t (history (goal.at.After-way c).After-judge) c.in-Some.a c.in-Some.b
  has-told t way = has_as c.args.p (history made) c.in-Some.a c.in-Some.b (broken c) t way

  -- what is told in the way t: the answer and the slice
  all-told : (t : Telling) → t ≡ telling c.args.p → (l : List ℕ) → l ≡ told_by t (history (goal.at.After-way c).After-judge) c.in-Some.a c.in-Some.b
      → (k : ℕ) → k ≡ length l → (out : List ℕ) → out ≡ l ++ drop k c.args.out.now
      → (Ok k ≡ answer_to c.args.p (said_by c.args.s.now) (verdict c.args.p (said_by c.args.s.now)))
      × (out ≡ over (events_told c.args.p (said_by c.args.s.now) (verdict c.args.p (said_by c.args.s.now))) c.args.out.now)
  all-told t way l e k long out f =
      both-alike c.args.p (said_by c.args.s.now) (history made) c.prepare.ensures.ready.agree c.args.out.now
      (told_as c.args.p (history made) c.in-Some.a c.in-Some.b (broken c) t way l e k long c.args.out.now out f)

by_chain : (c : In-ByChain) → ByChain ≡ telling c.args.p
by_chain c = sym c.in-ByChain.is ∙ c.way.ensures

by_middle : (c : In-ByMiddle) → ByMiddle ≡ telling c.args.p
by_middle c = sym c.in-ByMiddle.is ∙ c.way.ensures

pub invariant_of-passed : goal.invariant_of-passed
invariant_of-passed c = record { read = c.requires.0 }

pub returns-in_default : goal.returns-in_default
returns-in_default c =
    let m = (goal.at.returns-in_default c).After-judge in
    let q =
    both-alike c.args.p (said_by c.args.s.now) (history m) c.prepare.ensures.ready.agree c.args.out.now
    (none_told c.args.p (history m) (sym (judged m) ∙ c.in_default.is) c.args.out.now) in
    record { value = q.0; out_after = q.1 }

pub write_chain-requires : goal.write_chain-requires
write_chain-requires c =
    let w = (goal.at.write_chain-requires c).After-way in
    let k = (goal.at.write_chain-requires c).In-ByChain in
    let m = c.prepare.new.self in
    let r = c.prepare.ensures.ready in
    let t = terms_from m.terms in
    let v = c.args.v.now in
    record {
      graph = (r.given.rows, so_graph m.count m.heads v m.groups m.tables t r.given r.tables, r.tables.size, few (made w));
      a_lt_n = (left w, right w, omega (arith, few (made w), c.requires.1));
      b_value = chain-reached m.count m.heads v m.tables t r.given r.tables w.in-Some.a w.in-Some.b (left w) (right w) (has-told w ByChain (by_chain k));
    }

pub returns-in-ByChain : goal.returns-in-ByChain
returns-in-ByChain c =
    let w = (goal.at.returns-in-ByChain c).After-way in
    let k = (goal.at.returns-in-ByChain c).In-ByChain in
    let m = c.prepare.new.self in
    let r = c.prepare.ensures.ready in
    let q =
    all-told w ByChain (by_chain k) _
    (chain-told m.count m.heads c.args.v.now m.tables (terms_from m.terms) r.given r.tables w.in-Some.a w.in-Some.b (left w) (right w) (has-told w ByChain (by_chain k)))
    c.write_chain.result c.write_chain.ensures.value _ c.write_chain.ensures.out_after in
    record { value = q.0; out_after = q.1 }

-- the middle events, as the evidence has them
same-middles : (c : After-way) → let x = c.evidence-evidence.result in let m = c.prepare.new.self in
    between x.events.count x.events.seen.now x.events.groups.now x.tables.now c.in-Some.a c.in-Some.b ≡ between m.count c.args.v.now m.groups m.tables c.in-Some.a c.in-Some.b
same-middles c = let e = c.evidence-evidence.ensures in rw (e.seen.0, e.seen.1, e.lent.1, e.lent.3) refl

pub write_middle-requires : goal.write_middle-requires
write_middle-requires c =
    let w = (goal.at.write_middle-requires c).After-way in
    let k = (goal.at.write_middle-requires c).In-ByMiddle in
    let m = c.prepare.new.self in
    let r = c.prepare.ensures.ready in
    let e = c.evidence-evidence.ensures in
    let size = e.seen.0 in
    record {
      in_bounds = (omega (arith, left w, size), omega (arith, right w, size), omega (arith, c.requires.1));
      there =
          ap₂ (λ (n : ℕ) (f : ℕ → Bool). some n f) size (same-middles w)
          ∙ middle-there m.count m.heads c.args.v.now m.groups m.tables (terms_from m.terms) r.given r.tables w.in-Some.a w.in-Some.b (left w) (right w) r.grouped (has-told w ByMiddle (by_middle k));
    }

pub returns-in-ByMiddle : goal.returns-in-ByMiddle
returns-in-ByMiddle c =
    let w = (goal.at.returns-in-ByMiddle c).After-way in
    let k = (goal.at.returns-in-ByMiddle c).In-ByMiddle in
    let m = c.prepare.new.self in
    let r = c.prepare.ensures.ready in
    let b = w.in-Some.b in
    let q =
    all-told w ByMiddle (by_middle k) _
    (middle-told m.count m.heads c.args.v.now m.groups m.tables (terms_from m.terms) r.given r.tables w.in-Some.a b (left w) (right w) r.grouped) 2 refl _
    (c.write_middle.ensures ∙ ap₂ (λ (n : ℕ) (f : ℕ → Bool). lowest n f ∷ b ∷ drop 2 c.args.out.now) c.evidence-evidence.ensures.seen.0 (same-middles w)) in
    record { value = q.0; out_after = q.1 }

pub overflow_cast-out : goal.overflow_cast-out
overflow_cast-out c = let w = (goal.at.overflow_cast-out c).After-way in omega (arith, right w, few (made w))

pub returns-in-ByPair : goal.returns-in-ByPair
returns-in-ByPair c =
    let w = (goal.at.returns-in-ByPair c).After-way in
    let b = w.in-Some.b in
    let q =
    all-told w ByPair (sym c.in-ByPair.is ∙ c.way.ensures) (b ∷ []) (told_pair (history (made w)) w.in-Some.a b) 1 refl _ (set-one c.args.out.now b (omega (arith, c.requires.1))) in
    record { value = q.0; out_after = q.1 }
