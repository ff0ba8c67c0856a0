-- rb by its three cases, of any two events and any difference; and the formula that was written before gives the same verdicts. Assumes nothing.
use mathlib.Core.Path.{◌≡◌, refl, sym, ap, fun_ext, ◌∙◌}
use mathlib.Core.Bool.{true, false, cond, ◌&&◌, ◌||◌}
use Prim.Native.Nat.{ℕ, ◌+◌}
use native.Mathlib.Omega.{arith}
use borrow.Author.Tests.{lt-ltb, ltb-true, eq-eqb, ne_eqb}
use lib.Dec.{ltb}
use Rattle.rows.proofs.Tests.{split}
use Rattle.rows.specs.Relation.{Rel, reaches}
use Rattle.record.specs.History.{History, vis}
use Rattle.consistency.specs.FirstPair.{first, Verdict}
use Rattle.consistency.specs.Relations.{ss, ob, rb, so, ar, step, hb, write, read, from, to, both, through}
use Rattle.consistency.specs.Predicates.{Rule, ◌within◌, rule, breaks, verdict}
use Rattle.consistency.specs.declared.Predicate.{Predicate}
use Rattle.consistency.specs.declared.Predicate.TheVariants.{RVal, SingleOrder, RealTime, RealTimeWrites, MonotonicReads, ReadYourWrites, MonotonicWrites, WritesFollowReads, Pram, CausalVisibility, CausalArbitration, PerObjectPram, PerObjectSingleOrder}
use Rattle.consistency.specs.ReturnsBefore.{ByCases}

-- ---- the three cases

module _ (h : History) (a b : ℕ) where
  pub pending-before-nothing : h.is_pending a ≡ true → rb h a b ≡ false
  unfolding rb
  pending-before-nothing p = rw p refl

  pub before-at-one-site : h.is_pending a ≡ false → h.site a ≡ h.site b → rb h a b ≡ ltb (h.return a) (h.start b)
  unfolding rb ss
  before-at-one-site p s = rw (p, eq-eqb (h.site a) (h.site b) s) refl

  pub before_between_sites : h.is_pending a ≡ false → (h.site a ≡ h.site b → ⊥) → rb h a b ≡ ltb (h.return a + h.terms.difference) (h.start b)
  unfolding rb ss
  before_between_sites p s = rw (p, ne_eqb (h.site a) (h.site b) s) refl

  pub by_cases : ByCases h a b
  by_cases = record {
    pending = pending-before-nothing;
    same_site_lem = λ p s.
        let e = before-at-one-site p s in
        (λ t. ltb-true (h.return a) (h.start b) (sym e ∙ t), λ l. e ∙ lt-ltb (h.return a) (h.start b) l);
    other_site_lem = λ p s.
        let e = before_between_sites p s in
        let r = h.return a + h.terms.difference in
        (λ t. ltb-true r (h.start b) (sym e ∙ t), λ l. e ∙ lt-ltb r (h.start b) l);
  }

-- ---- as before

-- the verdicts, made of any relation r in the place of rb: in predicates 3 and 4, and in so, of which 5 to 12 are made
module _ (r : History → Rel) where
  abbrev so_by : History → Rel
  so_by h a b = r h a b && ss h a b

  abbrev hb_by : History → Rel
  hb_by h = reaches h.count (λ a b. so_by h a b || vis h a b)

  unfoldable pub rule_by : Predicate → History → Rule
  rule_by RVal h = rule RVal h
  rule_by SingleOrder h = rule SingleOrder h
  rule_by RealTime h = r h within ar h
  rule_by RealTimeWrites h = from (write h) (r h) within ar h
  rule_by MonotonicReads h = to (read h) (through h (read h) (vis h) (so_by h)) within vis h
  rule_by ReadYourWrites h = from (write h) (to (read h) (so_by h)) within vis h
  rule_by MonotonicWrites h = from (write h) (to (write h) (so_by h)) within ar h
  rule_by WritesFollowReads h = from (write h) (to (write h) (through h (read h) (vis h) (so_by h))) within ar h
  rule_by Pram h = so_by h within vis h
  rule_by CausalVisibility h = hb_by h within vis h
  rule_by CausalArbitration h = hb_by h within ar h
  rule_by PerObjectPram h = both (so_by h) (ob h) within vis h
  rule_by PerObjectSingleOrder h = rule PerObjectSingleOrder h

  unfoldable pub verdict_by : Predicate → History → Verdict
  verdict_by p h = first h.count (breaks h (rule_by p h))

-- they are what is judged, where r is rb
rule-by-rb : (p : Predicate) (h : History) → rule p h ≡ rule_by rb p h
unfolding rule rule_by so step hb
rule-by-rb RVal h = refl
rule-by-rb SingleOrder h = refl
rule-by-rb RealTime h = refl
rule-by-rb RealTimeWrites h = refl
rule-by-rb MonotonicReads h = refl
rule-by-rb ReadYourWrites h = refl
rule-by-rb MonotonicWrites h = refl
rule-by-rb WritesFollowReads h = refl
rule-by-rb Pram h = refl
rule-by-rb CausalVisibility h = refl
rule-by-rb CausalArbitration h = refl
rule-by-rb PerObjectPram h = refl
rule-by-rb PerObjectSingleOrder h = refl

-- the former formula: 0 or the difference was added to the return
abbrev pub formerly : History → Rel
formerly h a b = cond (h.is_pending a) false (ltb (h.return a + cond (ss h a b) 0 h.terms.difference) (h.start b))

pub rb_formerly : rb ≡ formerly
unfolding rb
rb_formerly = fun_ext (λ h. fun_ext (λ a. fun_ext (λ b.
    split (ss h a b)
    (λ e. rw e (ap (λ (r : ℕ). cond (h.is_pending a) false (ltb r (h.start b))) (omega arith)))
    (λ e. rw e refl))))

-- every verdict is the one by the former formula
pub as_formerly : (p : Predicate) (h : History) → verdict p h ≡ verdict_by formerly p h
unfolding verdict verdict_by
as_formerly p h =
    ap (λ (u : Rule). first h.count (breaks h u)) (rule-by-rb p h)
    ∙ ap (λ (r : History → Rel). verdict_by r p h) rb_formerly
