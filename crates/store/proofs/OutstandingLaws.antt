-- The copies outstanding: a done delivery is one less, a put one more for each other site, and a get none. Assumes nothing.
use mathlib.Core.Path.{◌≡◌, refl, ap, ap₂, ◌∙◌}
use mathlib.Core.Logic.{inl, inr}
use mathlib.Core.Bool.{Bool, true, false, not, cond, ◌&&◌}
use mathlib.Core.List.{List, [], ◌∷◌}
use Prim.Native.Nat.{ℕ, suc, ◌+◌, ◌-◌, ◌*◌, ◌≤◌, ◌<◌}
use native.Mathlib.Omega.{arith}
use native.Mathlib.Nat.{le_refl}
use lib.Dec.{eqb}
use borrow.Author.Tests.{eq-eqb, ne_eqb, eqb-true, not-false}
use Rattle.rows.specs.Count.{sum, how_many}
use Rattle.rows.proofs.Tests.{split, same_test}
use Rattle.rows.proofs.CountLaws.{sum_more, sum_same, sum-most, sum-each, sum-add, sum-other, many_most, many_same, many_others}
use Rattle.record.specs.Encode.{bit}
use Rattle.record.specs.Terms.{Terms}
use Rattle.store.specs.Store.{upd, Site, Event, Store}
use Rattle.store.specs.Calls.{deliver}
use Rattle.store.specs.Rules.{refusal, after_delivery, with_copy, Copy, copy_refusal, after_copy, after_copies, copied}
use Rattle.store.specs.Outstanding.{lacks, outstanding, puts}
use Rattle.store.proofs.UpdateLaws.{upd_elim, upd_same, upd-below}
use Rattle.store.proofs.Invariant.{StoreInv}
use Rattle.store.proofs.DeliverKeeps.{Deliverable, still_known, put-known, came_put}
use Rattle.store.proofs.RunKeeps.{deliverable, delivery_site, copies_inv}

-- ---- all puts, all pairs

pub puts-most : (st : Store) → puts st ≤ st.count
unfolding puts
puts-most st = many_most st.count (λ e. (st.event e).is_put)

pub outstanding-most : (n : ℕ) (st : Store) → outstanding n st ≤ n * st.count
unfolding outstanding
outstanding-most n st = sum-most n (λ t. how_many st.count (lacks st t)) st.count (λ t l. many_most st.count (lacks st t))

pub outstanding-none : (n : ℕ) (st : Store) → ((w t : ℕ) → w < st.count → t < n → lacks st t w ≡ false) → outstanding n st ≡ 0
unfolding outstanding
outstanding-none n st none =
    omega (
      arith,
      sum-most n (λ t. how_many st.count (lacks st t)) 0
          (λ t l. omega (arith, sum-most st.count (λ w. cond (lacks st t w) 1 0) 0 (λ w m. rw (none w t m l) (le_refl 0)))),
    )

-- ---- lacking or known

pub known-put : (p k : Bool) → p && not k ≡ false → p ≡ true → k ≡ true
known-put p k e q = not-false k (rw q at e)

pub not-lacking : (p k : Bool) → (p ≡ true → k ≡ true) → p && not k ≡ false
not-lacking true k h = rw (h refl)
not-lacking false k h = refl

same-lacking : (p k l : Bool) → (k ≡ true → l ≡ true) → (p ≡ true → l ≡ true → k ≡ true) → p && not k ≡ p && not l
same-lacking true k l up down = ap not (same_test k l up (down refl))
same-lacking false k l up down = refl

-- ---- a done delivery

module _ (n : ℕ) (n≤8 : n ≤ 8) {T : Terms} (st : Store) (ok : StoreInv n T st.event st) (w t : ℕ) (done : refusal n st (deliver w t) ≡ 0) where
  d : Deliverable st w t (st.event w)
  d = deliverable n st w t done

  abbrev there : Site
  there = after_delivery (st.site t) w (st.event w)

  -- the pair was lacking and is not
  lacked : lacks st t w ≡ true
  lacked = rw (d.is_put, d.lacks)

  given : lacks (with_copy st w t) t w ≡ false
  given =
      not-lacking (st.event w).is_put (((with_copy st w t).site t).known w)
      (λ i. rw (upd_same st.site t there) (put-known (st.site t) w (st.event w)))

  -- at any other pair nothing changes
  others_lack : (v u : ℕ) → (v ≡ w → u ≡ t → ⊥) → lacks st u v ≡ lacks (with_copy st w t) u v
  others_lack v u other =
      upd_elim (λ (a : Site). lacks st u v ≡ (st.event v).is_put && not (a.known v))
      st.site t there u
      (λ q. rw q
      (same-lacking (st.event v).is_put ((st.site t).known v) (there.known v)
      (still_known (st.site t) w (st.event w) v)
      (λ i k. elim (came_put n n≤8 st.event st ok w t d v k i) [ inl x ↦ absurd (other x q) | inr x ↦ x ])))
      (λ q. refl)

  -- one pair less is lacking
  pub outstanding_less : outstanding n st ≡ outstanding n (with_copy st w t) + 1
  unfolding outstanding
  outstanding_less =
      sum-other n (λ u. how_many st.count (lacks st u)) (λ u. how_many st.count (lacks (with_copy st w t) u)) t 1 (delivery_site n st w t done)
      (sum-other st.count (λ v. cond (lacks st t v) 1 0) (λ v. cond (lacks (with_copy st w t) t v) 1 0) w 1 d.done
      (rw (lacked, given))
      (λ v l other. ap (λ (x : Bool). cond {A = ℕ} x 1 0) (others_lack v t (λ x y. other x))))
      (λ u l other. many_same st.count (lacks st u) (lacks (with_copy st w t) u) (λ v m. others_lack v u (λ x y. other y)))

-- ---- a new event: a put is lacking at every site but its own

module _ (n : ℕ) {T : Terms} (st : Store) (ok : StoreInv n T st.event st) (s : ℕ) (e : Event) (b : Site) (knows : b.known ≡ upd (st.site s).known st.count true) where
  -- the store with event e, made at site s
  abbrev pub with_new : Store
  with_new = record { count = suc st.count; event = upd st.event st.count e; site = upd st.site s b }

  old_lack : (t w : ℕ) → w < st.count → lacks with_new t w ≡ lacks st t w
  old_lack t w l =
      rw (upd-below st.event st.count e w l)
      (upd_elim (λ (a : Site). (st.event w).is_put && not (a.known w) ≡ lacks st t w) st.site s b t
      (λ q. rw (q, knows, upd-below (st.site s).known st.count true w l) refl)
      (λ q. refl))

  unknown : (t : ℕ) → (st.site t).known st.count ≡ false
  unknown t = split ((st.site t).known st.count) (λ k. absurd (omega (arith, (ok.sites t).below st.count k))) (λ k. k)

  new_lack : (t : ℕ) → lacks with_new t st.count ≡ e.is_put && not (eqb t s)
  new_lack t =
      rw (upd_same st.event st.count e)
      (upd_elim (λ (a : Site). e.is_put && not (a.known st.count) ≡ e.is_put && not (eqb t s)) st.site s b t
      (λ q. rw (knows, upd_same (st.site s).known st.count true, eq-eqb t s q) refl)
      (λ q. rw (unknown t, ne_eqb t s q) refl))

  others : (p : Bool) → s < n → how_many n (λ t. p && not (eqb t s)) ≡ cond p (n - 1) 0
  others true l = many_others n s l
  others false l = sum-each n 0 ∙ omega arith

  pub outstanding_new : s < n → outstanding n with_new ≡ outstanding n st + cond e.is_put (n - 1) 0
  unfolding outstanding
  outstanding_new l =
      let more : ℕ → ℕ = λ t. cond (e.is_put && not (eqb t s)) 1 0 in
      sum_same n (λ t. how_many (suc st.count) (lacks with_new t)) (λ t. how_many st.count (lacks st t) + more t)
      (λ t m. sum_more st.count (λ w. cond (lacks with_new t w) 1 0)
      ∙ ap₂ ◌+◌ (many_same st.count (lacks with_new t) (lacks st t) (old_lack t)) (ap (λ (x : Bool). cond {A = ℕ} x 1 0) (new_lack t)))
      ∙ sum-add n (λ t. how_many st.count (lacks st t)) more
      ∙ ap (λ (x : ℕ). sum n (λ t. how_many st.count (lacks st t)) + x) (others e.is_put l)

  pub puts_new : puts with_new ≡ puts st + cond e.is_put 1 0
  unfolding puts
  puts_new =
      sum_more st.count (λ w. cond (with_new.event w).is_put 1 0)
      ∙ ap₂ ◌+◌
      (many_same st.count (λ w. (with_new.event w).is_put) (λ w. (st.event w).is_put) (λ w l. ap (λ (x : Event). x.is_put) (upd-below st.event st.count e w l)))
      (ap (λ (x : Event). cond {A = ℕ} x.is_put 1 0) (upd_same st.event st.count e))

-- ---- copies

-- each delivered copy is one less that is lacking
copy_outstanding : (n : ℕ) → n ≤ 8 → {T : Terms} (c : Copy) (st : Store) → StoreInv n T st.event st
    → bit (eqb (copy_refusal n st c) 0) + outstanding n (after_copy n st c) ≡ outstanding n st
unfolding after_copy
copy_outstanding n n≤8 c st ok = go (eqb (copy_refusal n st c) 0) refl
  where
    go : (t : Bool) → eqb (copy_refusal n st c) 0 ≡ t → bit t + outstanding n (cond t (with_copy st c.event c.site) st) ≡ outstanding n st
    go true e = omega (arith, outstanding_less n n≤8 st ok c.event c.site (eqb-true (copy_refusal n st c) 0 e))
    go false e = omega arith

pub copies-outstanding : (n : ℕ) → n ≤ 8 → {T : Terms} (cs : List Copy) (st : Store) → StoreInv n T st.event st
    → copied n st cs + outstanding n (after_copies n st cs) ≡ outstanding n st
unfolding copied after_copies
copies-outstanding n n≤8 [] st ok = omega arith
copies-outstanding n n≤8 (c ∷ cs) st ok =
    omega (arith, copy_outstanding n n≤8 c st ok, copies-outstanding n n≤8 cs (after_copy n st c) (copies_inv n n≤8 (c ∷ []) st ok))
