-- `rehearsal::refuse::rehearsal_refused` meets its contract: each return is the first question that got a no. Assumes nothing.
use mathlib.Core.Logic.{inl, inr}
use mathlib.Core.Path.{◌≡◌, refl, sym, ◌∙◌}
use mathlib.Core.Bool.{Bool, true, false, not, ◌&&◌}
use mathlib.Core.List.{List}
use Prim.Native.Nat.{ℕ, ◌%◌, ◌≤◌}
use lib.Dec.{eqb}
use lib.ListN.{length}
use borrow.Author.Tests.{le-leb, lt-leb, eq-eqb, ne_eqb, eqb-true}
use Rattle.record.specs.Layout.{longest_record}
use Rattle.record.specs.Terms.{openings_right}
use Rattle.record.specs.Questions.{ask}
use Rattle.store.specs.Rehearsal.{rehearsal_refusal}
use Rattle.rehearsal.proofs.refuse.rehearsal_refused.Goals.{then-opened-ne132, else-opened-ne132}
use Rattle.rehearsal.proofs.refuse.rehearsal_refused.Goals as goal

pub returns-then-n-gt8 : goal.returns-then-n-gt8
unfolding rehearsal_refusal
returns-then-n-gt8 c =
    λ s t u e f g.
    elim c.if-n-gt8.either [
      | inl p ↦ rw (lt-leb _ _ p) refl
      | inr q ↦ rw (le-leb _ _ q.0, lt-leb _ _ q.1) refl
    ]

pub returns-then-script-gt32768 : goal.returns-then-script-gt32768
unfolding rehearsal_refusal
returns-then-script-gt32768 c =
    λ s t u e f g.
    let h = c.if-n-gt8.false in
    elim c.if-script-gt32768.either [
      | inl p ↦ rw (le-leb _ _ h.0, le-leb _ _ h.1, e, ne_eqb _ _ p) refl
      | inr q ↦ rw (le-leb _ _ h.0, le-leb _ _ h.1, e, eq-eqb _ _ q.0, lt-leb _ _ q.1) refl
    ]

pub returns-then-rec-lt-LONGEST : goal.returns-then-rec-lt-LONGEST
unfolding rehearsal_refusal
returns-then-rec-lt-LONGEST c =
    λ s t u e f g.
    let h = c.if-n-gt8.false in
    let k = c.if-script-gt32768.false in
    rw (le-leb _ _ h.0, le-leb _ _ h.1, e, eq-eqb _ _ k.0, le-leb _ _ k.1, f, lt-leb _ _ c.if-rec-lt-LONGEST.true) refl

pub returns-then-answers-script : goal.returns-then-answers-script
unfolding rehearsal_refusal
returns-then-answers-script c =
    λ s t u e f g.
    let h = c.if-n-gt8.false in
    let k = c.if-script-gt32768.false in
    rw (le-leb _ _ h.0, le-leb _ _ h.1, e, eq-eqb _ _ k.0, le-leb _ _ k.1, f, le-leb _ _ c.if-rec-lt-LONGEST.false, g, lt-leb _ _ c.if-answers-script.true) refl

-- 20 to 23 let it pass: 40 is asked
late : (n : ℕ) (opened s t u : List ℕ) (script rec answers : ℕ) → (1 ≤ n) × (n ≤ 8) → (script % 8 ≡ 0) × (script ≤ 32768) → longest_record ≤ rec → script ≤ answers
    → length s ≡ script → length t ≡ rec → length u ≡ answers → rehearsal_refusal n opened s t u ≡ ask (eqb (length opened) 132 && openings_right opened 0) 40 0
unfolding rehearsal_refusal
late n opened s t u script rec answers h k l m e f g = rw (le-leb _ _ h.0, le-leb _ _ h.1, e, eq-eqb _ _ k.0, le-leb _ _ k.1, f, le-leb _ _ l, g, le-leb _ _ m) refl

denied : (b : Bool) → not b ≡ true → b ≡ false
denied false e = refl
denied true e = sym e

granted : (b : Bool) → not b ≡ false → b ≡ true
granted true e = refl
granted false e = sym e

pub returns-then-not-hold : goal.returns-then-not-hold
returns-then-not-hold c =
    λ s t u e f g.
    rw (late c.args.n c.args.opened.now s t u _ _ _ c.if-n-gt8.false c.if-script-gt32768.false c.if-rec-lt-LONGEST.false c.if-answers-script.false e f g)
    (elim c.if-opened-ne132.branch [
      | then-opened-ne132 w ↦ rw (ne_eqb _ _ w.if-opened-ne132.true) refl
      | else-opened-ne132 w ↦ rw (eq-eqb _ _ w.if-opened-ne132.false, ← w.hold.ensures, denied _ (sym w.value-is ∙ c.if-not-hold.true)) refl
    ])

pub returns-else-not-hold : goal.returns-else-not-hold
returns-else-not-hold c =
    λ s t u e f g.
    rw (late c.args.n c.args.opened.now s t u _ _ _ c.if-n-gt8.false c.if-script-gt32768.false c.if-rec-lt-LONGEST.false c.if-answers-script.false e f g)
    (elim c.if-opened-ne132.branch [
      | then-opened-ne132 w ↦ absurd (w.if-opened-ne132.true (eqb-true _ _ (granted _ (sym w.value-is ∙ c.if-not-hold.false))))
      | else-opened-ne132 w ↦ rw (eq-eqb _ _ w.if-opened-ne132.false, ← w.hold.ensures, granted _ (sym w.value-is ∙ c.if-not-hold.false)) refl
    ])
