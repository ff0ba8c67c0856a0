-- `judge::prepared::Evidence::judge` meets its contract. In each arm the two tables hold the two sides of the predicate's rule. Assumes nothing.
use mathlib.Core.Path.{◌≡◌, refl, sym, ap, ◌∙◌}
use mathlib.Core.Bool.{Bool, true, not}
use Prim.Native.Nat.{ℕ}
use native.Mathlib.Omega.{arith}
use Rattle.record.specs.Layout.{row_words}
use Rattle.record.specs.Terms.{Terms}
use Rattle.record.specs.History.{History, under, vis}
use Rattle.record.specs.Words.{history_from, is_write_in, terms_from}
use Rattle.consistency.specs.FirstPair.{Verdict}
use Rattle.consistency.specs.Relations.{rb, ob, so, ar, hb, read, both, through}
use Rattle.consistency.specs.Predicates.{rule, breaks, verdict}
use Rattle.consistency.specs.declared.Predicate.{Predicate}
use Rattle.consistency.specs.declared.Predicate.TheVariants.{RVal, SingleOrder, RealTime, RealTimeWrites, MonotonicReads, ReadYourWrites, MonotonicWrites, WritesFollowReads, Pram, CausalVisibility, CausalArbitration, PerObjectPram, PerObjectSingleOrder}
use Rattle.consistency.proofs.SameVerdict.{SameFor, verdict-under}
use Rattle.events.specs.Given.{Given, Groups}
use Rattle.judge.proofs.PreparedLaws.{ars-lent, seen-lent, rows-judged}
use Rattle.judge.proofs.prepared.Evidence.judge.Goals.{Start}
use Rattle.judge.proofs.prepared.Evidence.judge.Goals as goal

abbrev history : Start → History
history s = let e = s.args.self.now.events in history_from e.count row_words e.heads.words.now e.seen.now

abbrev terms : Start → Terms
terms s = terms_from s.args.self.now.terms.words.now

-- the history that is judged
abbrev judged : Start → History
judged s = under (terms s) (history s)

given : (s : Start) → let e = s.args.self.now.events in Given e.count row_words e.heads.words.now e.seen.now
given s = s.args.self.now.events.given

grouped : (s : Start) → let e = s.args.self.now.events in Groups e.count row_words e.heads.words.now e.groups.now
grouped s = s.args.self.now.events.grouped

-- p is q, so q's verdict is p's; that of 2 and 13 is found from the events alone
as_is : (s : Start) (q : Predicate) {r : Verdict} → s.args.p ≡ q → r ≡ verdict q (judged s) → r ≡ verdict s.args.p (judged s)
as_is s q e f = f ∙ ap (λ (x : Predicate). verdict x (judged s)) (sym e)

by-events : (s : Start) (q : Predicate) {r : Verdict} → SameFor q (terms s) (history s).terms → s.args.p ≡ q → r ≡ verdict q (history s) → r ≡ verdict s.args.p (judged s)
by-events s q other e f = as_is s q e (f ∙ sym (verdict-under (terms s) (history s) q other))

-- the events of each kind
abbrev writes : Start → ℕ → Bool
writes s = is_write_in s.args.self.now.events.heads.words.now

abbrev reads : Start → ℕ → Bool
reads s = λ e. not (writes s e)

abbrev every : Start → ℕ → Bool
every s = λ e. true

pub wrong_values-requires : goal.wrong_values-requires
wrong_values-requires c =
    let e = c.args.self.now in
    (omega arith, ars-lent e.events.count e.events.heads.words.now e.events.seen.now e.tables.now (terms_from e.terms.words.now) e.filled c.table-ar.ensures)

pub first_misplaced-requires : goal.first_misplaced-requires
first_misplaced-requires c =
    let e = c.args.self.now in
    (omega arith, ars-lent e.events.count e.events.heads.words.now e.events.seen.now e.tables.now (terms_from e.terms.words.now) e.filled c.table-ar.ensures)

pub first_misplaced-requires-in-PerObjectSingleOrder : goal.first_misplaced-requires-in-PerObjectSingleOrder
first_misplaced-requires-in-PerObjectSingleOrder c =
    let e = c.args.self.now in
    (omega arith, ars-lent e.events.count e.events.heads.words.now e.events.seen.now e.tables.now (terms_from e.terms.words.now) e.filled c.table-ar.ensures)

pub returns-in-RVal : goal.returns-in-RVal
unfolding rule breaks verdict history_from
returns-in-RVal c = let s = (goal.at.returns-in-RVal c).Start in as_is s RVal c.in-RVal.is c.wrong_values.ensures

pub returns-in-SingleOrder : goal.returns-in-SingleOrder
unfolding rule breaks verdict history_from
returns-in-SingleOrder c = by-events (goal.at.returns-in-SingleOrder c).Start SingleOrder tt c.in-SingleOrder.is c.first_misplaced.ensures

pub returns-in-PerObjectSingleOrder : goal.returns-in-PerObjectSingleOrder
unfolding rule breaks verdict history_from
returns-in-PerObjectSingleOrder c = by-events (goal.at.returns-in-PerObjectSingleOrder c).Start PerObjectSingleOrder tt c.in-PerObjectSingleOrder.is c.first_misplaced-in-PerObjectSingleOrder.ensures

pub returns-in-RealTime : goal.returns-in-RealTime
unfolding rule breaks verdict history_from
returns-in-RealTime c =
    let s = (goal.at.returns-in-RealTime c).Start in
    let h = judged s in
    as_is s RealTime c.in-RealTime.is
    (rows-judged RealTime h (rb h) (ar h) (every s) (every s) _ _ _ _ s.args.self.now.filled.timed.rbs (rw c.table-ar.ensures s.args.self.now.filled.ars) (grouped s).every (grouped s).every c.within.ensures refl)

pub returns-in-RealTimeWrites : goal.returns-in-RealTimeWrites
unfolding rule breaks verdict history_from
returns-in-RealTimeWrites c =
    let s = (goal.at.returns-in-RealTimeWrites c).Start in
    let h = judged s in
    as_is s RealTimeWrites c.in-RealTimeWrites.is
    (rows-judged RealTimeWrites h (rb h) (ar h) (writes s) (every s) _ _ _ _ s.args.self.now.filled.timed.rbs (rw c.table-ar.ensures s.args.self.now.filled.ars) (grouped s).writes (grouped s).every c.within-in-RealTimeWrites.ensures refl)

pub returns-in-MonotonicReads : goal.returns-in-MonotonicReads
unfolding rule breaks verdict history_from
returns-in-MonotonicReads c =
    let s = (goal.at.returns-in-MonotonicReads c).Start in
    let h = judged s in
    as_is s MonotonicReads c.in-MonotonicReads.is
    (rows-judged MonotonicReads h (through h (read h) (vis h) (so h)) (vis h) (every s) (reads s) _ _ _ _ s.args.self.now.filled.timed.middles (seen-lent _ _ _ s.args.self.now.tables.now (terms s) s.args.self.now.filled (given s)) (grouped s).every (grouped s).reads c.within-in-MonotonicReads.ensures refl)

pub returns-in-ReadYourWrites : goal.returns-in-ReadYourWrites
unfolding rule breaks verdict history_from
returns-in-ReadYourWrites c =
    let s = (goal.at.returns-in-ReadYourWrites c).Start in
    let h = judged s in
    as_is s ReadYourWrites c.in-ReadYourWrites.is
    (rows-judged ReadYourWrites h (so h) (vis h) (writes s) (reads s) _ _ _ _ s.args.self.now.filled.timed.sos (seen-lent _ _ _ s.args.self.now.tables.now (terms s) s.args.self.now.filled (given s)) (grouped s).writes (grouped s).reads c.within-in-ReadYourWrites.ensures refl)

pub returns-in-MonotonicWrites : goal.returns-in-MonotonicWrites
unfolding rule breaks verdict history_from
returns-in-MonotonicWrites c =
    let s = (goal.at.returns-in-MonotonicWrites c).Start in
    let h = judged s in
    as_is s MonotonicWrites c.in-MonotonicWrites.is
    (rows-judged MonotonicWrites h (so h) (ar h) (writes s) (writes s) _ _ _ _ s.args.self.now.filled.timed.sos (rw c.table-ar.ensures s.args.self.now.filled.ars) (grouped s).writes (grouped s).writes c.within-in-MonotonicWrites.ensures refl)

pub returns-in-WritesFollowReads : goal.returns-in-WritesFollowReads
unfolding rule breaks verdict history_from
returns-in-WritesFollowReads c =
    let s = (goal.at.returns-in-WritesFollowReads c).Start in
    let h = judged s in
    as_is s WritesFollowReads c.in-WritesFollowReads.is
    (rows-judged WritesFollowReads h (through h (read h) (vis h) (so h)) (ar h) (writes s) (writes s) _ _ _ _ s.args.self.now.filled.timed.middles (rw c.table-ar.ensures s.args.self.now.filled.ars) (grouped s).writes (grouped s).writes c.within-in-WritesFollowReads.ensures refl)

pub returns-in-Pram : goal.returns-in-Pram
unfolding rule breaks verdict history_from
returns-in-Pram c =
    let s = (goal.at.returns-in-Pram c).Start in
    let h = judged s in
    as_is s Pram c.in-Pram.is
    (rows-judged Pram h (so h) (vis h) (every s) (every s) _ _ _ _ s.args.self.now.filled.timed.sos (seen-lent _ _ _ s.args.self.now.tables.now (terms s) s.args.self.now.filled (given s)) (grouped s).every (grouped s).every c.within-in-Pram.ensures refl)

pub returns-in-CausalVisibility : goal.returns-in-CausalVisibility
unfolding rule breaks verdict history_from
returns-in-CausalVisibility c =
    let s = (goal.at.returns-in-CausalVisibility c).Start in
    let h = judged s in
    as_is s CausalVisibility c.in-CausalVisibility.is
    (rows-judged CausalVisibility h (hb h) (vis h) (every s) (every s) _ _ _ _ s.args.self.now.filled.hbs (seen-lent _ _ _ s.args.self.now.tables.now (terms s) s.args.self.now.filled (given s)) (grouped s).every (grouped s).every c.within-in-CausalVisibility.ensures refl)

pub returns-in-CausalArbitration : goal.returns-in-CausalArbitration
unfolding rule breaks verdict history_from
returns-in-CausalArbitration c =
    let s = (goal.at.returns-in-CausalArbitration c).Start in
    let h = judged s in
    as_is s CausalArbitration c.in-CausalArbitration.is
    (rows-judged CausalArbitration h (hb h) (ar h) (every s) (every s) _ _ _ _ s.args.self.now.filled.hbs (rw c.table-ar.ensures s.args.self.now.filled.ars) (grouped s).every (grouped s).every c.within-in-CausalArbitration.ensures refl)

pub returns-in-PerObjectPram : goal.returns-in-PerObjectPram
unfolding rule breaks verdict history_from
returns-in-PerObjectPram c =
    let s = (goal.at.returns-in-PerObjectPram c).Start in
    let h = judged s in
    as_is s PerObjectPram c.in-PerObjectPram.is
    (rows-judged PerObjectPram h (both (so h) (ob h)) (vis h) (every s) (every s) _ _ _ _ s.args.self.now.filled.timed.objects (seen-lent _ _ _ s.args.self.now.tables.now (terms s) s.args.self.now.filled (given s)) (grouped s).every (grouped s).every c.within-in-PerObjectPram.ensures refl)
