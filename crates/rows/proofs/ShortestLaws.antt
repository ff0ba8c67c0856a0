-- Laws of shortest chains. Assumes nothing.
use mathlib.Core.Path.{◌≡◌, refl, sym, ap, ap₂, ◌∙◌}
use mathlib.Core.Bool.{Bool, true, false, ◌&&◌}
use mathlib.Core.List.{List, [], ◌∷◌}
use Prim.Native.Nat.{ℕ, zero, suc, ◌+◌, ◌-◌, ◌<◌, ◌≤◌}
use native.Mathlib.Omega.{arith}
use borrow.Author.Tests.{ltb-true, ltb-false}
use lib.Dec.{ltb}
use lib.ListN.{length, get_or}
use Rattle.rows.specs.Lowest.{lowest, some}
use Rattle.rows.specs.Relation.{Rel, reaches, Steps, one, more}
use Rattle.rows.specs.Shortest.{leads, distance, next_of, steps_from, shortest_chain, Entries, last, next, NotLater, same, lower, then, Shortest}
use Rattle.rows.proofs.Tests.{split, tell, and_both, and_left, and_right}
use Rattle.rows.proofs.LowestLaws.{lowest_low, same-lowest, some_of, some_at, same_some}
use Rattle.rows.proofs.CountLaws.{few_different}
use Rattle.rows.proofs.ReachLaws.{reaches-sound}

-- a list that begins with the lowest number at which f holds, beside one that begins with another
pub lowest-not-later : (n : ℕ) (f : ℕ → Bool) (x : ℕ) {l m : List ℕ} → f x ≡ true → (lowest n f ≡ x → NotLater l m) → NotLater (lowest n f ∷ l) (x ∷ m)
lowest-not-later n f x {l} {m} e rest =
    split (ltb (lowest n f) x)
    (λ t. lower (ltb-true (lowest n f) x t))
    (λ t. split (ltb x (lowest n f))
    (λ u. absurd (tell (f x) e ((lowest_low n f).below x (ltb-true x (lowest n f) u))))
    (λ u.
    let z : lowest n f ≡ x = omega (arith, ltb-false (lowest n f) x t, ltb-false x (lowest n f) u) in
    rw z (then (rest z))))

module _ (n : ℕ) (r : Rel) where
  -- ---- k + 1 steps

  pub leads_one : (a b : ℕ) → leads n r 0 a b ≡ r a b
  unfolding leads
  leads_one a b = refl

  leads-more : (k a b : ℕ) → leads n r (suc k) a b ≡ some n (λ m. r a m && leads n r k m b)
  unfolding leads
  leads-more k a b = refl

  -- a step before them
  pub leads-before : (k a m b : ℕ) → m < n → r a m ≡ true → leads n r k m b ≡ true → leads n r (suc k) a b ≡ true
  leads-before k a m b l s e = leads-more k a b ∙ some_of n (λ m. r a m && leads n r k m b) m l (and_both (r a m) (leads n r k m b) s e)

  -- where k + 2 steps lead from a to b: the lowest event to which the first of them leads
  abbrev onward : ℕ → ℕ → ℕ → ℕ → Bool
  onward b k a m = r a m && leads n r k m b

  pub record Onward (b k a : ℕ) : Type 0 where
    pub below : next_of n r b k a < n
    pub step : r a (next_of n r b k a) ≡ true
    pub left : leads n r k (next_of n r b k a) b ≡ true

  pub go_on : (b k a : ℕ) → leads n r (suc k) a b ≡ true → Onward b k a
  go_on b k a e =
      let at = some_at n (onward b k a) (sym (leads-more k a b) ∙ e) in
      let m : ℕ = next_of n r b k a in
      record { below = at.0; step = and_left (r a m) (leads n r k m b) at.1; left = and_right (r a m) (leads n r k m b) at.1 }

  -- i + 1 steps to m, and k + 1 from there
  leads_join : (i k a m b : ℕ) → m < n → leads n r i a m ≡ true → leads n r k m b ≡ true → leads n r (suc (i + k)) a b ≡ true
  leads_join zero k a m b l e f = let z : 0 + k ≡ k = omega arith in rw z (leads-before k a m b l (sym (leads_one a m) ∙ e) f)
  leads_join (suc i) k a m b l e f =
      let o = go_on m i a e in
      let x : ℕ = next_of n r m i a in
      let z : suc i + k ≡ suc (i + k) = omega arith in
      rw z (leads-before (suc (i + k)) a x b o.below o.step (leads_join i k x m b l o.left f))

  -- ---- chains and steps

  entries_some : {a b : ℕ} {l : List ℕ} → Entries n r a b l → 1 ≤ length l
  entries_some (last s) = omega arith
  entries_some (next s i c) = omega arith

  entries_lead : {a b : ℕ} {l : List ℕ} → Entries n r a b l → (k : ℕ) → length l ≡ suc k → leads n r k a b ≡ true
  entries_lead (last {a} {b} s) zero e = leads_one a b ∙ s
  entries_lead (last {a} {b} s) (suc k) e = absurd (omega arith)
  entries_lead (next {a} {m} {b} {l} s i c) zero e = absurd (omega (arith, entries_some c))
  entries_lead (next {a} {m} {b} {l} s i c) (suc k) e = leads-before k a m b i s (entries_lead c k (omega arith))

  -- ---- the chain of k + 1 steps, each next event the lowest possible

  pub from_one : (b a : ℕ) → steps_from n r b 0 a ≡ b ∷ []
  unfolding steps_from
  from_one b a = refl

  pub from_more : (b k a : ℕ) → steps_from n r b (suc k) a ≡ next_of n r b k a ∷ steps_from n r b k (next_of n r b k a)
  unfolding steps_from
  from_more b k a = refl

  pub from_length : (b k a : ℕ) → length (steps_from n r b k a) ≡ suc k
  from_length b zero a = rw (from_one b a) refl
  from_length b (suc k) a = rw (from_more b k a) (ap suc (from_length b k (next_of n r b k a)))

  module _ (b : ℕ) where
    from_entries : (k a : ℕ) → leads n r k a b ≡ true → Entries n r a b (steps_from n r b k a)
    from_entries zero a e = rw (from_one b a) (last (sym (leads_one a b) ∙ e))
    from_entries (suc k) a e =
        let o = go_on b k a e in
        rw (from_more b k a) (next o.step o.below (from_entries k (next_of n r b k a) o.left))

    from_first : (k a : ℕ) {m : List ℕ} → Entries n r a b m → length m ≡ suc k → NotLater (steps_from n r b k a) m
    from_first zero a (last s) e = rw (from_one b a) same
    from_first zero a (next s i c) e = absurd (omega (arith, entries_some c))
    from_first (suc k) a (last s) e = absurd (omega arith)
    from_first (suc k) a (next {m = x} {l = l} s i c) e =
        let q : onward b k a x ≡ true = and_both (r a x) (leads n r k x b) s (entries_lead c k (omega arith)) in
        rw (from_more b k a) (lowest-not-later n (onward b k a) x q (λ z. rw z (from_first k x c (omega arith))))

    -- ---- its entries

    -- entry i is m: i + 1 steps lead to it from a; the last is b, and each other is below n, with k - i steps from it to b
    record Entry (k a i m : ℕ) : Type 0 where
      to : leads n r i a m ≡ true
      below : i < k → m < n
      left : (j : ℕ) → i + suc j ≡ k → leads n r j m b ≡ true
      end : i ≡ k → m ≡ b

    entry : (k a : ℕ) → leads n r k a b ≡ true → (i : ℕ) → i ≤ k → Entry k a i (get_or (steps_from n r b k a) i 0)
    entry zero a e zero h = rw (from_one b a) (record { to = e; below = λ l. absurd (omega arith); left = λ j q. absurd (omega arith); end = λ q. refl })
    entry zero a e (suc i) h = absurd (omega arith)
    entry (suc k) a e zero h =
        let o = go_on b k a e in
        rw (from_more b k a)
        (record {
          to = leads_one a (next_of n r b k a) ∙ o.step;
          below = λ l. o.below;
          left = λ j q. let z : j ≡ k = omega arith in rw z o.left;
          end = λ q. absurd (omega arith);
        })
    entry (suc k) a e (suc i) h =
        let o = go_on b k a e in
        let m : ℕ = next_of n r b k a in
        let t = entry k m o.left i (omega arith) in
        let x : ℕ = get_or (steps_from n r b k m) i 0 in
        rw (from_more b k a)
        (record {
          to = leads-before i a m x o.below o.step t.to;
          below = λ l. t.below (omega arith);
          left = λ j q. t.left j (omega arith);
          end = λ q. t.end (omega arith);
        })

    -- where no fewer steps lead to b, no event stands twice: what stands between would be left out
    from_once : (k a : ℕ) → leads n r k a b ≡ true → ((j : ℕ) → j < k → leads n r j a b ≡ false)
        → (i j : ℕ) → i < j → j ≤ k → get_or (steps_from n r b k a) i 0 ≡ get_or (steps_from n r b k a) j 0 → ⊥
    from_once k a e fewer i j h l q =
        let s = entry k a e i (omega arith) in
        let t = entry k a e j l in
        let x : ℕ = get_or (steps_from n r b k a) i 0 in
        let y : ℕ = get_or (steps_from n r b k a) j 0 in
        split (ltb j k)
        (λ u.
        let v : j < k = ltb-true j k u in
        let d : ℕ = k - suc j in
        let z : leads n r (suc (i + d)) a b ≡ true = leads_join i d a x b (s.below (omega arith)) s.to (rw q (t.left d (omega arith))) in
        tell (leads n r (suc (i + d)) a b) z (fewer (suc (i + d)) (omega arith)))
        (λ u.
        let v : j ≡ k = omega (arith, ltb-false j k u) in
        let z : x ≡ b = q ∙ t.end v in
        tell (leads n r i a b) (rw z at s.to) (fewer i (omega arith)))

-- ---- the distance

module _ (n : ℕ) (r : Rel) (b : ℕ) (right : b < n) where
  steps_lead : {a : ℕ} → Steps n r a b → ((k : ℕ) → leads n r k a b ≡ true → ⊥) → ⊥
  steps_lead (one {a} s) never-so = never-so 0 (leads_one n r a b ∙ s)
  steps_lead (more {a} {b = m} s l c) never-so = steps_lead c (λ k e. never-so (suc k) (leads-before n r k a m b l s e))

  -- k + 1 steps, where no fewer do, go to k + 1 different events
  fewest-small : (k a : ℕ) → leads n r k a b ≡ true → ((j : ℕ) → j < k → leads n r j a b ≡ false) → k < n
  fewest-small k a e fewer =
      let long = from_length n r b k a in
      omega (arith, long, few_different n (λ i. get_or (steps_from n r b k a) i 0) (length (steps_from n r b k a)) inside (λ i j h m. from_once n r b k a e fewer i j h (omega (arith, long))))
    where
      inside : (i : ℕ) → i < length (steps_from n r b k a) → get_or (steps_from n r b k a) i 0 < n
      inside i h =
          let long = from_length n r b k a in
          let t = entry n r b k a e i (omega (arith, long)) in
          split (ltb i k)
          (λ u. t.below (ltb-true i k u))
          (λ u.
          let end : i ≡ k = omega (arith, ltb-false i k u, long) in
          omega (arith, t.end end))

  -- where any number of steps lead from a to b, one below n does
  lead_near : (k a : ℕ) → leads n r k a b ≡ true → distance n r a b < n
  unfolding distance
  lead_near k a e =
      let f : ℕ → Bool = λ j. leads n r j a b in
      let g = some_at (suc k) f (some_of (suc k) f k (omega arith) e) in
      let d : ℕ = lowest (suc k) f in
      let small : d < n = fewest-small d a g.1 (lowest_low (suc k) f).below in
      (some_at n f (some_of n f d small g.1)).0

  pub reached_near : (a : ℕ) → reaches n r a b ≡ true → distance n r a b < n
  reached_near a e =
      split (ltb (distance n r a b) n) (λ t. ltb-true (distance n r a b) n t)
      (λ t. absurd (steps_lead (reaches-sound n r a b e) (λ k f. omega (arith, lead_near k a f, ltb-false (distance n r a b) n t))))

  pub at-distance : (a : ℕ) → distance n r a b < n → leads n r (distance n r a b) a b ≡ true
  unfolding distance
  at-distance a h = (lowest_low n (λ k. leads n r k a b)).at h

  pub none_nearer : (a j : ℕ) → j < distance n r a b → leads n r j a b ≡ false
  unfolding distance
  none_nearer a j h = (lowest_low n (λ k. leads n r k a b)).below j h

  entries_length : {a : ℕ} {m : List ℕ} → Entries n r a b m → distance n r a b < length m
  entries_length {a} {m} c =
      split (ltb (distance n r a b) (length m)) (λ t. ltb-true (distance n r a b) (length m) t)
      (λ t.
      let far = ltb-false (distance n r a b) (length m) t in
      let full = entries_some n r c in
      let k : ℕ = length m - 1 in
      absurd (tell (leads n r k a b) (entries_lead n r c k (omega arith)) (none_nearer a k (omega arith))))

  -- ---- the shortest chain

  pub shortest : (a : ℕ) → reaches n r a b ≡ true → Shortest n r a b (shortest_chain n r a b)
  unfolding shortest_chain
  shortest a e =
      let near = reached_near a e in
      let k : ℕ = distance n r a b in
      let long = from_length n r b k a in
      record {
        chain = from_entries n r b k a (at-distance a near);
        fewest = λ m c. omega (arith, long, entries_length c);
        lowest_next = λ m c q. from_first n r b k a c (q ∙ long);
        once = λ i j h l. from_once n r b k a (at-distance a near) (none_nearer a) i j h (omega (arith, long));
        fits = omega (arith, long, near);
      }

-- ---- there is one only

head_not_later : {x y : ℕ} {l m : List ℕ} → NotLater (x ∷ l) (y ∷ m) → x ≤ y
head_not_later same = omega arith
head_not_later (lower h) = omega arith
head_not_later (then p) = omega arith

tail_not_later : {x y : ℕ} {l m : List ℕ} → NotLater (x ∷ l) (y ∷ m) → x ≡ y → NotLater l m
tail_not_later same e = same
tail_not_later (lower h) e = absurd (omega arith)
tail_not_later (then p) e = p

nil_not_later : {y : ℕ} {m : List ℕ} → NotLater [] (y ∷ m) → ⊥
nil_not_later p = elim p [ ]

pub not-later-both : {l m : List ℕ} → NotLater l m → NotLater m l → l ≡ m
not-later-both {l} {m} p q = both l m p q
  where
    both : (l m : List ℕ) → NotLater l m → NotLater m l → l ≡ m
    both [] [] p q = refl
    both [] (y ∷ m) p q = absurd (nil_not_later p)
    both (x ∷ l) [] p q = absurd (nil_not_later q)
    both (x ∷ l) (y ∷ m) p q =
        let e : x ≡ y = omega (arith, head_not_later p, head_not_later q) in
        ap₂ ◌∷◌ e (both l m (tail_not_later p e) (tail_not_later q (sym e)))

pub shortest_only : {n : ℕ} {r : Rel} {a b : ℕ} {l m : List ℕ} → Shortest n r a b l → Shortest n r a b m → l ≡ m
shortest_only {l} {m} s t =
    let long : length l ≡ length m = omega (arith, s.fewest m t.chain, t.fewest l s.chain) in
    not-later-both (s.lowest_next m t.chain (sym long)) (t.lowest_next l s.chain long)

-- ---- relations that agree among n events

module _ (n : ℕ) (r q : Rel) (alike : (x y : ℕ) → x < n → y < n → r x y ≡ q x y) (b : ℕ) (right : b < n) where
  leads-same : (k a : ℕ) → a < n → leads n r k a b ≡ leads n q k a b
  leads-same zero a h = leads_one n r a b ∙ alike a b h right ∙ sym (leads_one n q a b)
  leads-same (suc k) a h =
      leads-more n r k a b
      ∙ same_some n (λ m. r a m && leads n r k m b) (λ m. q a m && leads n q k m b) (λ m l. ap₂ ◌&&◌ (alike a m h l) (leads-same k m l))
      ∙ sym (leads-more n q k a b)

  from-same : (k a : ℕ) → a < n → leads n r k a b ≡ true → steps_from n r b k a ≡ steps_from n q b k a
  from-same zero a h e = from_one n r b a ∙ sym (from_one n q b a)
  from-same (suc k) a h e =
      let o = go_on n r b k a e in
      let m : ℕ = next_of n r b k a in
      let to : m ≡ next_of n q b k a = same-lowest n (onward n r b k a) (onward n q b k a) (λ x l. ap₂ ◌&&◌ (alike a x h l) (leads-same k x l)) in
      from_more n r b k a
      ∙ ap (λ (t : List ℕ). m ∷ t) (from-same k m o.below o.left)
      ∙ ap (λ (x : ℕ). x ∷ steps_from n q b k x) to
      ∙ sym (from_more n q b k a)

  pub chain_same : (a : ℕ) → a < n → reaches n r a b ≡ true → shortest_chain n r a b ≡ shortest_chain n q a b
  unfolding shortest_chain distance
  chain_same a h e =
      let near = reached_near n r b right a e in
      from-same (distance n r a b) a h (at-distance n r b right a near)
      ∙ ap (λ (k : ℕ). steps_from n q b k a) (same-lowest n (λ k. leads n r k a b) (λ k. leads n q k a b) (λ k l. leads-same k a h))
