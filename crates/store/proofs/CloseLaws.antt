-- A close acts on each site alone. It takes puts by event number, so their needs are met, and afterwards none is lacking. Assumes nothing.
use mathlib.Core.Path.{◌≡◌, refl, ap, ◌∙◌, fun_ext}
use mathlib.Core.Bool.{Bool, true, false, not, cond, ◌&&◌}
use mathlib.Core.List.{List, [], ◌∷◌, ◌++◌}
use Prim.Native.Nat.{ℕ, zero, suc, ◌≤◌, ◌<◌}
use native.Mathlib.Omega.{arith}
use native.Mathlib.Nat.{le_refl}
use lib.Dec.{ltb, eqb}
use borrow.Author.Tests.{ltb-true, ltb-false, lt-ltb, le-ltb}
use Rattle.rows.proofs.Tests.{split}
use Rattle.record.specs.Questions.{ask}
use Rattle.record.specs.Terms.{Terms}
use Rattle.store.specs.Store.{upd, Site, Store}
use Rattle.store.specs.Calls.{close}
use Rattle.store.specs.Rules.{reached, refusal, after_delivery, with_copy, Copy, copies_of, all_copies, copy_refusal, after_copy, after_copies, copied, close_copies, effect}
use Rattle.store.specs.Outstanding.{lacks, outstanding}
use Rattle.store.proofs.UpdateLaws.{upd_elim, upd-there, lt_suc_elim}
use Rattle.store.proofs.Invariant.{Table, CountedPut, StoreInv}
use Rattle.store.proofs.DeliverKeeps.{still_known, put-known}
use Rattle.store.proofs.RunKeeps.{reached_true, copies_inv}
use Rattle.store.proofs.OutstandingLaws.{outstanding-none, not-lacking, copies-outstanding}

-- ---- needs are met in event order

-- site t knows every put below w: a put that w needs is one of these
pub needs-reached : (n : ℕ) {T : Terms} (F : Table) (st : Store) → StoreInv n T F st → (w t : ℕ) → w < st.count
    → ((e : ℕ) → e < w → (F e).is_put ≡ true → (st.site t).known e ≡ true) → (i : ℕ) → (F w).needs i ≤ (st.site t).held i
needs-reached n F st ok w t below has i =
    split (ltb ((st.site t).held i) ((F w).needs i))
    (λ l.
    let c : CountedPut F (F w).sees i ((st.site t).held i) = (ok.events w below).counted i _ (ltb-true ((st.site t).held i) ((F w).needs i) l) in
    let k : (st.site t).known c.put ≡ true = has c.put ((ok.events w below).earlier c.put c.seen) c.is_put in
    absurd (omega (arith, (ok.sites t).known_held c.put k c.is_put, c.place, ap (st.site t).held c.site)))
    (λ l. ltb-false ((st.site t).held i) ((F w).needs i) l)

-- ---- one copy changes its own site

-- w is a put that site a lacks, and its needs are met
abbrev pub due : Table → Site → ℕ → Bool
due F a w = (F w).is_put && (not (a.known w) && reached 8 (F w).needs a.held)

-- site a after a copy of event w
abbrev pub site_then : Table → Site → ℕ → Site
site_then F a w = cond (due F a w) (after_delivery a w (F w)) a

-- a delivery's questions 33, 35 and 36
asked : (p k r : Bool) → eqb (ask p 33 (ask (not k) 35 (ask r 36 0))) 0 ≡ p && (not k && r)
asked true true r = refl
asked true false true = refl
asked true false false = refl
asked false k r = refl

pub copy_due : (n : ℕ) (st : Store) (w t : ℕ) → w < st.count → t < n → eqb (copy_refusal n st (record { event = w; site = t })) 0 ≡ due st.event (st.site t) w
unfolding refusal
copy_due n st w t below l =
    rw (lt-ltb t n l, lt-ltb w st.count below)
    (asked (st.event w).is_put ((st.site t).known w) (reached 8 (st.event w).needs (st.site t).held))

abbrev pub with_sites : Store → (ℕ → Site) → Store
with_sites st S = record { count = st.count; event = st.event; site = S }

copy_then : (n : ℕ) (st : Store) (w t : ℕ) → w < st.count → t < n
    → after_copy n st (record { event = w; site = t }) ≡ with_sites st (upd st.site t (site_then st.event (st.site t) w))
unfolding after_copy
copy_then n st w t below l = rw (copy_due n st w t below l) (go (due st.event (st.site t) w))
  where
    go : (b : Bool) → cond b (with_copy st w t) st ≡ with_sites st (upd st.site t (cond b (after_delivery (st.site t) w (st.event w)) (st.site t)))
    go true = refl
    go false = ap (with_sites st) (upd-there st.site t (st.site t) refl)

-- ---- so all copies change each site alone

-- the first k sites changed by f
abbrev pub each : ℕ → (Site → Site) → (ℕ → Site) → ℕ → Site
each k f S t = cond (ltb t k) (f (S t)) (S t)

pub each_elim : (P : Site → Type 0) (k : ℕ) (f : Site → Site) (S : ℕ → Site) (t : ℕ) → (t < k → P (f (S t))) → (k ≤ t → P (S t)) → P (each k f S t)
each_elim P k f S t first rest = go (ltb t k) refl
  where
    go : (b : Bool) → ltb t k ≡ b → P (cond b (f (S t)) (S t))
    go true e = first (ltb-true t k e)
    go false e = rest (ltb-false t k e)

each_none : (f : Site → Site) (S : ℕ → Site) → S ≡ each 0 f S
each_none f S = fun_ext (λ t. each_elim (λ (a : Site). S t ≡ a) 0 f S t (λ l. absurd (omega arith)) (λ l. refl))

each_same : (k : ℕ) (S : ℕ → Site) → S ≡ each k (λ a. a) S
each_same k S = fun_ext (λ t. each_elim (λ (a : Site). S t ≡ a) k (λ a. a) S t (λ l. refl) (λ l. refl))

each_more : (k : ℕ) (f : Site → Site) (S : ℕ → Site) → upd (each k f S) k (f (each k f S k)) ≡ each (suc k) f S
each_more k f S = fun_ext (λ t.
    upd_elim (λ (a : Site). a ≡ each (suc k) f S t) (each k f S) k (f (each k f S k)) t
    (λ q. rw (q, lt-ltb k (suc k) (le_refl _), le-ltb k k (le_refl _)))
    (λ q. each_elim (λ (a : Site). a ≡ each (suc k) f S t) k f S t
    (λ l. rw (lt-ltb t (suc k) (omega arith)))
    (λ l. rw (le-ltb t (suc k) (omega arith)))))

each_twice : (k : ℕ) (f g : Site → Site) (S : ℕ → Site) → each k g (each k f S) ≡ each k (λ a. g (f a)) S
each_twice k f g S = fun_ext (λ t. go (ltb t k) (S t))
  where
    go : (b : Bool) (a : Site) → cond b (g (cond b (f a) a)) (cond b (f a) a) ≡ cond b (g (f a)) a
    go true a = refl
    go false a = refl

copies_join : (n : ℕ) (st : Store) (xs ys : List Copy) → after_copies n st (xs ++ ys) ≡ after_copies n (after_copies n st xs) ys
unfolding after_copies
copies_join n st [] ys = refl
copies_join n st (c ∷ xs) ys = copies_join n (after_copy n st c) xs ys

-- the copies of one event for the first k sites
pub row-closed : (n : ℕ) (st : Store) (w : ℕ) → w < st.count → (k : ℕ) → k ≤ n
    → after_copies n st (copies_of w k) ≡ with_sites st (each k (λ a. site_then st.event a w) st.site)
unfolding after_copies copies_of
row-closed n st w below zero l = ap (with_sites st) (each_none (λ a. site_then st.event a w) st.site)
row-closed n st w below (suc t) l =
    let f : Site → Site = λ a. site_then st.event a w in
    copies_join n st (copies_of w t) (record { event = w; site = t } ∷ [])
    ∙ ap (λ (x : Store). after_copy n x (record { event = w; site = t })) (row-closed n st w below t (omega arith))
    ∙ copy_then n (with_sites st (each t f st.site)) w t below l
    ∙ ap (with_sites st) (each_more t f st.site)

-- site a after the copies of the first k events
unfoldable pub closed_site : Table → Site → ℕ → Site
closed_site F a zero = a
closed_site F a (suc w) = site_then F (closed_site F a w) w

-- the store after them
abbrev pub closed_store : ℕ → Store → ℕ → Store
closed_store n st k = with_sites st (each n (λ a. closed_site st.event a k) st.site)

pub all_closed : (n : ℕ) (st : Store) (k : ℕ) → k ≤ st.count → after_copies n st (all_copies n k) ≡ closed_store n st k
unfolding after_copies all_copies closed_site
all_closed n st zero l = ap (with_sites st) (each_same n st.site)
all_closed n st (suc w) l =
    copies_join n st (all_copies n w) (copies_of w n)
    ∙ ap (λ (x : Store). after_copies n x (copies_of w n)) (all_closed n st w (omega arith))
    ∙ row-closed n (closed_store n st w) w l n (le_refl n)
    ∙ ap (with_sites st) (each_twice n (λ a. closed_site st.event a w) (λ a. site_then st.event a w) st.site)

-- ---- after the close no put is lacking

-- a site keeps what it knows
then_keeps : (F : Table) (a : Site) (w e : ℕ) → a.known e ≡ true → (site_then F a w).known e ≡ true
then_keeps F a w e h = go (due F a w)
  where
    go : (b : Bool) → (cond b (after_delivery a w (F w)) a).known e ≡ true
    go true = still_known a w (F w) e h
    go false = h

then-knows : (F : Table) (a : Site) (w : ℕ) → (F w).is_put ≡ true → reached 8 (F w).needs a.held ≡ true → (site_then F a w).known w ≡ true
then-knows F a w put met =
    split (a.known w)
    (λ k. then_keeps F a w w k)
    (λ k. let d : due F a w ≡ true = rw (put, k, met) in rw d (put-known a w (F w)))

module _ (n : ℕ) (n≤8 : n ≤ 8) {T : Terms} (st : Store) (ok : StoreInv n T st.event st) where
  -- a close stopped after k events
  closed_inv : (k : ℕ) → k ≤ st.count → StoreInv n T st.event (closed_store n st k)
  closed_inv k l = rw (all_closed n st k l) at (copies_inv n n≤8 (all_copies n k) st ok)

  -- where it has every put below k, the needs of k are met
  pub closed-met : (t k : ℕ) → t < n → k < st.count
      → ((e : ℕ) → e < k → (st.event e).is_put ≡ true → (closed_site st.event (st.site t) k).known e ≡ true)
      → reached 8 (st.event k).needs (closed_site st.event (st.site t) k).held ≡ true
  closed-met t k l below has =
      let here : (closed_store n st k).site t ≡ closed_site st.event (st.site t) k = rw (lt-ltb t n l) in
      let ok' : StoreInv n T st.event (closed_store n st k) = closed_inv k (omega arith) in
      reached_true 8 (st.event k).needs (closed_site st.event (st.site t) k).held
      (λ i q. rw here at (needs-reached n st.event (closed_store n st k) ok' k t below (λ e m p. rw here (has e m p)) i))

  -- so it gets k
  pub closed-knows : (t k : ℕ) → t < n → k ≤ st.count → (e : ℕ) → e < k → (st.event e).is_put ≡ true → (closed_site st.event (st.site t) k).known e ≡ true
  unfolding closed_site
  closed-knows t zero l m e below put = absurd (omega arith)
  closed-knows t (suc k) l m e below put =
      let has : (f : ℕ) → f < k → (st.event f).is_put ≡ true → (closed_site st.event (st.site t) k).known f ≡ true =
      closed-knows t k l (omega arith) in
      lt_suc_elim e k below
      (λ q. then_keeps st.event (closed_site st.event (st.site t) k) k e (has e q put))
      (λ q. rw q (then-knows st.event (closed_site st.event (st.site t) k) k (rw q at put) (closed-met t k l m has)))

  close-none : (w t : ℕ) → w < st.count → t < n → lacks (closed_store n st st.count) t w ≡ false
  close-none w t below l =
      not-lacking (st.event w).is_put (((closed_store n st st.count).site t).known w)
      (λ put. rw (lt-ltb t n l) (closed-knows t st.count l (le_refl _) w below put))

  -- after a close no site lacks a put
  pub close-none-lacking : (w t : ℕ) → w < st.count → t < n → lacks (effect n st close) t w ≡ false
  unfolding effect
  close-none-lacking = rw (all_closed n st st.count (le_refl _)) close-none

  -- it delivers as many copies as were lacking
  pub copied-outstanding : copied n st (close_copies n st) ≡ outstanding n st
  copied-outstanding =
      let none : outstanding n (after_copies n st (close_copies n st)) ≡ 0 =
      rw (all_closed n st st.count (le_refl _)) (outstanding-none n (closed_store n st st.count) close-none) in
      omega (arith, copies-outstanding n n≤8 (close_copies n st) st ok)
