-- Of a history with distinct positions (question 8): a verdict is broken at (a, b) exactly if that is the first pair that breaks the predicate in the
-- paper's words, and a list of predicates is broken at the first that does not hold. Assumes nothing.
use mathlib.Core.Path.{◌≡◌, refl, sym, ap, ◌∙◌, subst}
use mathlib.Core.Logic.{◌↔◌}
use mathlib.Core.Bool.{Bool, true, false, not, ◌&&◌, false≢true}
use mathlib.Core.List.{List, [], ◌∷◌}
use Prim.Native.Nat.{ℕ, ◌<◌}
use native.Mathlib.Omega.{arith}
use lib.Dec.{eqb}
use borrow.Author.Tests.{eqb-true, eq-eqb, not-true}
use Rattle.std.specs.Prelude.{Some, None}
use Rattle.std.proofs.lemmas.Option.{same_Some}
use Rattle.rows.specs.Lowest.{some}
use Rattle.rows.specs.Relation.{Rel}
use Rattle.rows.proofs.LowestLaws.{some-none, none-some}
use Rattle.rows.proofs.Tests.{tell, never, and_both, and_left, and_right, not_of}
use Rattle.record.specs.History.{History}
use Rattle.consistency.specs.FirstPair.{Verdict}
use Rattle.consistency.specs.Relations.{read}
use Rattle.consistency.specs.Reads.{candidate, last_write, same_held, held, expected, last_or, wrong_read, wrong, Last}
use Rattle.consistency.specs.Predicates.{Rule, last-value, ◌within◌, ◌fits◌, rule, excused, differ, misfit, breaks, verdict, numbered}
use Rattle.consistency.specs.Holds.{DistinctPositions}
use Rattle.consistency.specs.Breaks.{LastOrItself, none_seen, last-seen, WrongRead, EventFits, alike, unseen, Misplaced, Breaks, FirstBreak, AllHold, FirstNot, here, after}
use Rattle.consistency.specs.Models.{or_else, first_broken, Outcome, broken_at}
use Rattle.consistency.specs.declared.Break.{Break}
use Rattle.consistency.proofs.LastWriteLaws.{LastSays, write-says, expected-right, right-expected}
use Rattle.consistency.proofs.MetIffHolds.{same_held_lem, held_same, met_holds, holds-met, broken-first, first_broken_lem}

-- ---- 1

module _ (h : History) (d : DistinctPositions h) (e : ℕ) where
  last_itself : LastOrItself h e (last_or e (last_write h e))
  last_itself = go (last_write h e) (write-says h e)
    where
      go : (l : Last) → LastSays h e h.count l → LastOrItself h e (last_or e l)
      go None s = none_seen s
      go (Some w) s = last-seen (record { below = s.below; seen = s.seen; last = s.last })

  -- there is only one
  itself_last : (w : ℕ) → LastOrItself h e w → w ≡ last_or e (last_write h e)
  itself_last w k = go (last_write h e) (write-says h e) w k
    where
      go : (l : Last) → LastSays h e h.count l → (w : ℕ) → LastOrItself h e w → w ≡ last_or e l
      go None s w (none_seen f) = refl
      go None s w (last-seen t) = absurd (tell (candidate h e w) t.seen (s w t.below))
      go (Some u) s w (none_seen f) = absurd (tell (candidate h e u) s.seen (f u s.below))
      go (Some u) s w (last-seen t) = d w u t.below s.below (omega (arith, t.last u s.below s.seen, s.last w t.below t.seen))

  wrong-breaks : (w : ℕ) → wrong h e w ≡ true → WrongRead h e w
  unfolding wrong wrong_read
  wrong-breaks w t =
      let x : Bool = read h e && not (h.is_pending e) in
      let same : Bool = same_held (held h e) (expected h e) in
      let bad : (x && not same) ≡ true = and_left (x && not same) (eqb w (last_or e (last_write h e))) t in
      let both : x ≡ true = and_left x (not same) bad in
      record {
        reads = and_left (read h e) (not (h.is_pending e)) both;
        returned = not-true (h.is_pending e) (and_right (read h e) (not (h.is_pending e)) both);
        wrong = λ r. tell same (held_same (held h e) (expected h e) (right-expected h e d r)) (not-true same (and_right x (not same) bad));
        with = subst (LastOrItself h e) (sym (eqb-true w (last_or e (last_write h e)) (and_right (x && not same) (eqb w (last_or e (last_write h e))) t))) last_itself;
      }

  breaks-wrong : (w : ℕ) → WrongRead h e w → wrong h e w ≡ true
  unfolding wrong wrong_read
  breaks-wrong w b =
      let x : Bool = read h e && not (h.is_pending e) in
      let same : Bool = same_held (held h e) (expected h e) in
      let other : same ≡ false = never same (λ t. b.wrong (expected-right h e (same_held_lem (held h e) (expected h e) t))) in
      and_both (x && not same) (eqb w (last_or e (last_write h e)))
      (and_both x (not same) (and_both (read h e) (not (h.is_pending e)) b.reads (not_of (h.is_pending e) b.returned)) (not_of same other))
      (eq-eqb w (last_or e (last_write h e)) (itself_last w b.with))

-- ---- 2 and 13

differ-apart : (x y : Bool) → differ x y ≡ true → x ≡ y → ⊥
differ-apart true true t e = false≢true t
differ-apart true false t e = false≢true (sym e)
differ-apart false true t e = false≢true e
differ-apart false false t e = false≢true t

apart-differ : (x y : Bool) → (x ≡ y → ⊥) → differ x y ≡ true
apart-differ true true f = absurd (f refl)
apart-differ true false f = refl
apart-differ false true f = refl
apart-differ false false f = absurd (f refl)

pub differ_same : (x y : Bool) → differ x y ≡ false → x ≡ y
differ_same true true e = refl
differ_same true false e = e
differ_same false true e = sym e
differ_same false false e = refl

module _ (h : History) (q r : Rel) (a b : ℕ) (j : b < h.count) where
  misfit-breaks : misfit h q r a b ≡ true → Misplaced h q r a b
  misfit-breaks t =
      let apart = differ-apart (q a b) (r a b) (and_right (not (excused h q a)) (differ (q a b) (r a b)) t) in
      let free : excused h q a ≡ false = not-true (excused h q a) (and_left (not (excused h q a)) (differ (q a b) (r a b)) t) in
      record { neither = neither apart free; differ = apart }
    where
      neither : (q a b ≡ r a b → ⊥) → excused h q a ≡ false → EventFits h q r a → ⊥
      neither apart free (alike s) = apart (s b j)
      neither apart free (unseen p u) =
          tell (excused h q a) (and_both (h.is_pending a) (not (some h.count (q a))) p (not_of (some h.count (q a)) (none-some h.count (q a) u))) free

  breaks-misfit : Misplaced h q r a b → misfit h q r a b ≡ true
  breaks-misfit m =
      and_both (not (excused h q a)) (differ (q a b) (r a b))
      (not_of (excused h q a) (never (excused h q a) (λ t.
      m.neither (unseen (and_left (h.is_pending a) (not (some h.count (q a))) t)
      (some-none h.count (q a) (not-true (some h.count (q a)) (and_right (h.is_pending a) (not (some h.count (q a))) t)))))))
      (apart-differ (q a b) (r a b) m.differ)

-- ---- all three kinds

module _ (h : History) (d : DistinctPositions h) where
  pub breaks_is : (u : Rule) (a b : ℕ) → b < h.count → breaks h u a b ≡ true → Breaks h u a b
  unfolding breaks Breaks
  breaks_is last-value a b j t = wrong-breaks h d a b t
  breaks_is (q within r) a b j t = record { left = and_left (q a b) (not (r a b)) t; right = not-true (r a b) (and_right (q a b) (not (r a b)) t) }
  breaks_is (q fits r) a b j t = misfit-breaks h q r a b j t

  pub is_breaks : (u : Rule) (a b : ℕ) → b < h.count → Breaks h u a b → breaks h u a b ≡ true
  unfolding breaks Breaks
  is_breaks last-value a b j t = breaks-wrong h d a b t
  is_breaks (q within r) a b j t = and_both (q a b) (not (r a b)) t.left (not_of (r a b) t.right)
  is_breaks (q fits r) a b j t = breaks-misfit h q r a b j t

  module _ (p a b : ℕ) where
    abbrev u : Rule
    u = rule (numbered p) h

    broken_break : verdict (numbered p) h ≡ Some (a, b) → FirstBreak p h a b
    broken_break e =
        let f = broken-first (numbered p) h a b e in
        record {
          left = f.left;
          right = f.right;
          breaks = breaks_is u a b f.right f.holds;
          least_a = λ x y l k t. tell (breaks h u x y) (is_breaks u x y k t) (f.least_a x y l k);
          least_b = λ y l t. tell (breaks h u a y) (is_breaks u a y (omega (arith, f.right)) t) (f.least_b y l);
        }

    break_broken : FirstBreak p h a b → verdict (numbered p) h ≡ Some (a, b)
    break_broken f =
        first_broken_lem (numbered p) h a b
        (record {
          left = f.left;
          right = f.right;
          holds = is_breaks u a b f.right f.breaks;
          least_a = λ x y l k. never (breaks h u x y) (λ t. f.least_a x y l k (breaks_is u x y k t));
          least_b = λ y l. never (breaks h u a y) (λ t. f.least_b y l (breaks_is u a y (omega (arith, f.right)) t));
        })

    pub broken_iff : (verdict (numbered p) h ≡ Some (a, b)) ↔ FirstBreak p h a b
    broken_iff = (broken_break, break_broken)

  -- ---- lists

  apart : {p a b : ℕ} {o : Outcome} → o ≡ None → o ≡ broken_at p (a, b) → ⊥
  apart e f = let z : ◌≡◌ {A = ℕ} 0 1 = cc in omega arith

  met-broken : {v : Verdict} {a b : ℕ} → v ≡ None → v ≡ Some (a, b) → ⊥
  met-broken e f = let z : ◌≡◌ {A = ℕ} 0 1 = cc in omega arith

  met_all : (ps : List ℕ) → first_broken ps h ≡ None → AllHold ps h
  unfolding first_broken
  met_all [] e = tt
  met_all (p ∷ ps) e = go (met_all ps) (verdict (numbered p) h) refl e
    where
      go : (first_broken ps h ≡ None → AllHold ps h) → (v : Verdict) → verdict (numbered p) h ≡ v → or_else p v (first_broken ps h) ≡ None → AllHold (p ∷ ps) h
      go rest None v e = (met_holds (numbered p) h v, rest e)
      go rest (Some (a, b)) v e = absurd (apart e refl)

  all_met : (ps : List ℕ) → AllHold ps h → first_broken ps h ≡ None
  unfolding first_broken
  all_met [] a = refl
  all_met (p ∷ ps) a = rw (holds-met (numbered p) h d a.0) (all_met ps a.1)

  -- a list is met exactly if each of its predicates holds
  pub list_met_iff : (ps : List ℕ) → (first_broken ps h ≡ None) ↔ AllHold ps h
  list_met_iff ps = (met_all ps, all_met ps)

  broken-not : (ps : List ℕ) (p a b : ℕ) → first_broken ps h ≡ broken_at p (a, b) → FirstNot h ps p × FirstBreak p h a b
  unfolding first_broken
  broken-not [] p a b e = absurd (apart refl e)
  broken-not (q ∷ ps) p a b e = go (broken-not ps p a b) (verdict (numbered q) h) refl e
    where
      go : (first_broken ps h ≡ broken_at p (a, b) → FirstNot h ps p × FirstBreak p h a b) → (v : Verdict) → verdict (numbered q) h ≡ v
          → or_else q v (first_broken ps h) ≡ broken_at p (a, b) → FirstNot h (q ∷ ps) p × FirstBreak p h a b
      go rest None v e = let r = rest e in (after (met_holds (numbered q) h v) r.0, r.1)
      go rest (Some (x, y)) v e =
          let k = same_Some _ _ e in
          let same : q ≡ p = ap (λ (z : Break). z.predicate) k in
          let left : x ≡ a = ap (λ (z : Break). z.first) k in
          let right : y ≡ b = ap (λ (z : Break). z.second) k in
          let at : verdict (numbered q) h ≡ Some (a, b) = v ∙ ap (λ (z : ℕ). Some (z, y)) left ∙ ap (λ (z : ℕ). Some (a, z)) right in (
            subst (FirstNot h (q ∷ ps)) same (here (λ k. met-broken (holds-met (numbered q) h d k) at)),
            subst (λ (z : ℕ). FirstBreak z h a b) same (broken_break q a b at),
          )

  not-broken : (ps : List ℕ) (p a b : ℕ) → FirstNot h ps p → FirstBreak p h a b → first_broken ps h ≡ broken_at p (a, b)
  unfolding first_broken
  not-broken [] p a b x k = elim x [ ]
  not-broken (q ∷ ps) p a b (here f) k = rw (break_broken q a b k)
  not-broken (q ∷ ps) p a b (after m f) k = rw (holds-met (numbered q) h d m) (not-broken ps p a b f k)

  -- and broken at the first that does not, with the first pair that breaks it
  pub list_broken_iff : (ps : List ℕ) (p a b : ℕ) → (first_broken ps h ≡ broken_at p (a, b)) ↔ (FirstNot h ps p × FirstBreak p h a b)
  list_broken_iff ps p a b = (broken-not ps p a b, λ k. not-broken ps p a b k.0 k.1)
