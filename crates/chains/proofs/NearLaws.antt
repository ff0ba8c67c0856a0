-- Laws of rows of near events: those from which at most so many steps lead to b. Assumes nothing.
use mathlib.Core.Path.{◌≡◌, sym, ap, ap₂, ◌∙◌}
use mathlib.Core.Bool.{Bool, true, false, not, ◌&&◌, ◌||◌}
use mathlib.Core.List.{List}
use Prim.Native.Nat.{ℕ, suc, ◌<◌}
use native.Mathlib.Omega.{arith}
use lib.ListN.{replicate, length-replicate}
use Rattle.rows.specs.Lowest.{lowest, some}
use Rattle.rows.specs.Row.{has, or_row, only_first, row_at, Row}
use Rattle.rows.specs.Relation.{Rel, related, Graph}
use Rattle.rows.specs.Shortest.{leads, distance, next_of}
use Rattle.rows.proofs.Tests.{split, tell, never, same_test, or_elim, or_left, or_right, and_both, and_left, and_right, not_of}
use Rattle.rows.proofs.LowestLaws.{lowest_hit, same-lowest, some_of, some_at, some-none, none-some, same_some, some_more}
use Rattle.rows.proofs.RowLaws.{row_of, row_empty, row_in, row_has, row_same, row-or}
use Rattle.rows.proofs.TableLaws.{length-row_le}
use Rattle.rows.proofs.ShortestLaws.{leads_one, leads-before, go_on}
use Rattle.chains.specs.Near.{within}
use Rattle.chains.proofs.JoiningLaws.{brought}

module _ (n : ℕ) (r : Rel) (b : ℕ) where
  pub within_none : (x : ℕ) → within n r b 0 x ≡ false
  within_none x = none-some 0 (λ j. leads n r j x b) (λ k h. absurd (omega arith))

  within_more : (k x : ℕ) → within n r b (suc k) x ≡ within n r b k x || leads n r k x b
  within_more k x = some_more k (λ j. leads n r j x b)

  within-one : (x : ℕ) → within n r b 1 x ≡ r x b
  within-one x = within_more 0 x ∙ ap₂ ◌||◌ (within_none x) (leads_one n r x b)

  within-keep : (k x : ℕ) → within n r b k x ≡ true → within n r b (suc k) x ≡ true
  within-keep k x e = within_more k x ∙ or_left (within n r b k x) (leads n r k x b) e

  -- one step more
  within_step : (k x m : ℕ) → m < n → r x m ≡ true → within n r b k m ≡ true → within n r b (suc k) x ≡ true
  within_step k x m h s e =
      let at = some_at k (λ j. leads n r j m b) e in
      let i : ℕ = lowest k (λ j. leads n r j m b) in
      some_of (suc k) (λ j. leads n r j x b) (suc i) (omega (arith, at.0)) (leads-before n r i x m b h s at.1)

  -- k + 1 steps lead from x to b, and no fewer
  abbrev exactly : ℕ → ℕ → Bool
  exactly k x = within n r b (suc k) x && not (within n r b k x)

  exactly-leads : (k x : ℕ) → within n r b k x ≡ false → within n r b (suc k) x ≡ true → leads n r k x b ≡ true
  exactly-leads k x e f = or_elim (within n r b k x) (leads n r k x b) (sym (within_more k x) ∙ f) (λ t. absurd (tell (within n r b k x) t e)) (λ t. t)

  leads-exactly : (k x : ℕ) → within n r b k x ≡ false → leads n r k x b ≡ true → exactly k x ≡ true
  leads-exactly k x e f =
      and_both (within n r b (suc k) x) (not (within n r b k x)) (within_more k x ∙ or_right (within n r b k x) (leads n r k x b) f) (not_of (within n r b k x) e)

  pub distance-found : (k a : ℕ) → k < n → within n r b k a ≡ false → within n r b (suc k) a ≡ true → distance n r a b ≡ k
  unfolding distance
  distance-found k a h e f = lowest_hit n (λ j. leads n r j a b) k h (some-none k (λ j. leads n r j a b) e) (exactly-leads k a e f)

  -- the events from which at most k + 2 steps lead to b: those from which at most k + 1 do, and those with a step to one from which k + 1 do and no fewer
  within-next : (k x : ℕ) → within n r b (suc (suc k)) x ≡ within n r b (suc k) x || some n (λ m. exactly k m && r x m)
  within-next k x = same_test (within n r b (suc (suc k)) x) (within n r b (suc k) x || some n f) there back
    where
      f : ℕ → Bool
      f m = exactly k m && r x m

      there : within n r b (suc (suc k)) x ≡ true → within n r b (suc k) x || some n f ≡ true
      there e = or_elim (within n r b (suc k) x) (leads n r (suc k) x b) (sym (within_more (suc k) x) ∙ e)
          (or_left (within n r b (suc k) x) (some n f))
          (λ t.
          let o = go_on n r b k x t in
          let m : ℕ = next_of n r b k x in
          split (within n r b k m)
          (λ u. or_left (within n r b (suc k) x) (some n f) (within_step k x m o.below o.step u))
          (λ u. or_right (within n r b (suc k) x) (some n f)
          (some_of n f m o.below (and_both (exactly k m) (r x m) (leads-exactly k m u o.left) o.step))))

      back : within n r b (suc k) x || some n f ≡ true → within n r b (suc (suc k)) x ≡ true
      back e = or_elim (within n r b (suc k) x) (some n f) e (within-keep (suc k) x)
          (λ t.
          let at = some_at n f t in
          let m : ℕ = lowest n f in
          let c = and_left (exactly k m) (r x m) at.1 in
          within_step (suc k) x m at.0 (and_right (exactly k m) (r x m) at.1) (and_left (within n r b (suc k) m) (not (within n r b k m)) c))

  -- where at least k + 2 steps lead from a to b, no fewer than k + 1 do from what a steps to
  step-exactly : (k a m : ℕ) → m < n → within n r b (suc k) a ≡ false → exactly k m && r a m ≡ r a m && leads n r k m b
  step-exactly k a m h far = same_test (exactly k m && r a m) (r a m && leads n r k m b)
      (λ e.
      let s = and_right (exactly k m) (r a m) e in
      let c = and_left (within n r b (suc k) m) (not (within n r b k m)) (and_left (exactly k m) (r a m) e) in
      and_both (r a m) (leads n r k m b) s (exactly-leads k m (no_fewer s) c))
      (λ e.
      let s = and_left (r a m) (leads n r k m b) e in
      and_both (exactly k m) (r a m) (leads-exactly k m (no_fewer s) (and_right (r a m) (leads n r k m b) e)) s)
    where
      no_fewer : r a m ≡ true → within n r b k m ≡ false
      no_fewer s = never (within n r b k m) (λ t. tell (within n r b (suc k) a) (within_step k a m h s t) far)

-- ---- in rows

module _ {g : List ℕ} {n w : ℕ} (graph : Graph g n w) (b : ℕ) (right : b < n) where
  abbrev r : Rel
  r = related g w

  pub near_none : Row n (within n r b 0) (replicate w 0)
  near_none = row_same n (λ x. false) (replicate w 0) (row_empty n w) (within n r b 0) (λ x h. sym (within_none n r b x))

  -- the first: b's own row
  pub near_one : Row n (within n r b 1) (or_row (replicate w 0) (row_at g w b))
  near_one = row_same n (λ x. r x b) (or_row (replicate w 0) (row_at g w b))
      (row-or n (λ x. false) (replicate w 0) (row_empty n w) (λ x. r x b) (row_at g w b) own (omega (arith, length-row_le g w b, length-replicate {A = ℕ} w 0)))
      (within n r b 1) (λ x h. sym (within-one n r b x))
    where
      own : Row n (λ x. r x b) (row_at g w b)
      own = row_of n (λ x. r x b) (row_at g w b) (λ x e. (graph.inside b x right e, e)) (λ x h e. e)

  module _ (k : ℕ) (l m : List ℕ) (p : Row n (within n r b (suc k)) l) (q : Row n (within n r b k) m) where
    only-exactly : (x : ℕ) → x < n → only_first l m x ≡ exactly n r b k x
    only-exactly x h = ap₂ (λ (s t : Bool). s && not t) (row_has n (within n r b (suc k)) l p x h) (row_has n (within n r b k) m q x h)

    -- the next, joined
    pub near_more : (next : List ℕ) → ((x : ℕ) → has next x ≡ has l x || brought g n w l m x) → Row n (within n r b (suc (suc k))) next
    near_more next e = row_of n (within n r b (suc (suc k))) next there back
      where
        f : ℕ → ℕ → Bool
        f x a = exactly n r b k a && r x a

        joined : (x : ℕ) → has next x ≡ has l x || some n (f x)
        joined x = e x ∙ ap (λ (t : Bool). has l x || t) (same_some n (λ a. only_first l m a && r x a) (f x) (λ a h. ap (λ (t : Bool). t && r x a) (only-exactly a h)))

        there : (x : ℕ) → has next x ≡ true → (x < n) × (within n r b (suc (suc k)) x ≡ true)
        there x t = or_elim (has l x) (some n (f x)) (sym (joined x) ∙ t)
            (λ u. let s = row_in n (within n r b (suc k)) l p x u in (s.0, within-keep n r b (suc k) x s.1))
            (λ u.
            let at = some_at n (f x) u in
            let a : ℕ = lowest n (f x) in
            (graph.inside a x at.0 (and_right (exactly n r b k a) (r x a) at.1), within-next n r b k x ∙ or_right (within n r b (suc k) x) (some n (f x)) u))

        back : (x : ℕ) → x < n → within n r b (suc (suc k)) x ≡ true → has next x ≡ true
        back x h t = joined x ∙ ap (λ (s : Bool). s || some n (f x)) (row_has n (within n r b (suc k)) l p x h) ∙ sym (within-next n r b k x) ∙ t

    -- what has been joined so far is all that was near
    pub near_done : (done : List ℕ) → ((x : ℕ) → has done x ≡ has m x || has l x) → Row n (within n r b (suc k)) done
    near_done done e x = e x ∙ same_test (has m x || has l x) (has l x) (λ t. or_elim (has m x) (has l x) t (kept x) (λ u. u)) (or_right (has m x) (has l x)) ∙ p x
      where
        kept : (x : ℕ) → has m x ≡ true → has l x ≡ true
        kept x t =
            let s = row_in n (within n r b k) m q x t in
            row_has n (within n r b (suc k)) l p x s.0 ∙ within-keep n r b k x s.1

    -- the next event on the way from a
    pub next_on : (a : ℕ) → within n r b (suc k) a ≡ false → lowest n (λ x. only_first l m x && r a x) ≡ next_of n r b k a
    next_on a far = same-lowest n (λ x. only_first l m x && r a x) (λ x. r a x && leads n r k x b)
        (λ x h. ap (λ (t : Bool). t && r a x) (only-exactly x h) ∙ step-exactly n r b k a x h far)
