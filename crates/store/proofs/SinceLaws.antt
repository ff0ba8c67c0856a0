-- Keepings by their numbers, as code has them: for each name the number of its keeping, 0 for none, and what was copied. A return forgets every keeping
-- with a higher number. What there is now is the same, and so is which names are kept. Assumes nothing.
use mathlib.Core.Path.{◌≡◌, refl, sym, ap, ◌∙◌}
use mathlib.Core.Bool.{Bool, true, false, not, cond, ◌||◌, true≢false, false≢true}
use mathlib.Core.List.{List, [], ◌∷◌}
use Prim.Native.Nat.{ℕ, suc, ◌*◌, ◌≤◌, ◌<◌}
use native.Mathlib.Omega.{arith}
use native.Mathlib.Nat.{le_refl}
use lib.Dec.{eqb, ltb}
use borrow.Author.Tests.{eqb-true, eq-eqb, ne_eqb, lt-ltb, le-ltb}
use Rattle.rows.proofs.Tests.{split}
use Rattle.record.specs.Questions.{ask}
use Rattle.record.specs.Terms.{Terms}
use Rattle.store.specs.Store.{upd, Store, fresh}
use Rattle.store.specs.Calls.{Call}
use Rattle.store.specs.Rules.{after_call}
use Rattle.store.specs.Named.{Item, call, keep, back, item_at, items_from, Keeping, Day, begun, is_kept, without, back_to, after_item, item_refusal}
use Rattle.store.proofs.UpdateLaws.{upd_elim, upd_same}
use Rattle.store.proofs.RunKeeps.{Stays, stays_here}
use Rattle.store.proofs.NamedLaws.{back_none, linked_now, linked_again, linked_return}
use Rattle.store.proofs.Remaining.{stores_after, stores_more, items_more}
use Rattle.store.proofs.KeptStores.{Blank, stays_join, Grown, stores_grown, Saved, saved, restored, restored_same}

pub record Marked : Type 0 where
  pub now : Store
  -- the number of each name's keeping; 0 where it is not kept
  pub since : ℕ → ℕ
  -- what was copied then
  pub copy : ℕ → Saved

-- the keepings after x's are forgotten
abbrev pub up_to : (ℕ → ℕ) → ℕ → ℕ → ℕ
up_to since x y = cond (ltb (since x) (since y)) 0 (since y)

-- after the item with this number
unfoldable pub after_marked : ℕ → ℕ → Marked → Item Call → Marked
after_marked n number m (call c) = record { now = after_call n m.now c; since = m.since; copy = m.copy }
after_marked n number m (keep x) = record { now = m.now; since = upd m.since x number; copy = upd m.copy x (saved m.now) }
after_marked n number m (back x) = cond (eqb (m.since x) 0) m (record { now = restored (m.copy x) m.now; since = up_to m.since x; copy = m.copy })

-- ---- the numbers of keepings fall from the latest to the first, all below `bound`

abbrev Falls : (ℕ → ℕ) → (ℕ → Saved) → ℕ → List (Keeping Store) → Type 0
Falls since copy bound [] = Unit {0}
Falls since copy bound (k ∷ ks) =
    ((0 < since k.name) × (since k.name < bound)) × ((copy k.name ≡ saved k.kept) × Falls since copy (since k.name) ks)

abbrev Others : (ℕ → ℕ) → List (Keeping Store) → Type 0
Others since ks = (y : ℕ) → is_kept y ks ≡ false → since y ≡ 0

falls_raise : (since : ℕ → ℕ) (copy : ℕ → Saved) (b b' : ℕ) (ks : List (Keeping Store)) → b ≤ b' → Falls since copy b ks → Falls since copy b' ks
falls_raise since copy b b' [] l h = tt
falls_raise since copy b b' (k ∷ ks) l h = ((h.0.0, omega (arith, h.0.1)), h.1)

-- a kept name has a number
falls_kept : (since : ℕ → ℕ) (copy : ℕ → Saved) (x b : ℕ) (ks : List (Keeping Store)) → Falls since copy b ks → is_kept x ks ≡ true → (0 < since x) × (since x < b)
unfolding is_kept
falls_kept since copy x b [] h e = absurd (false≢true e)
falls_kept since copy x b (k ∷ ks) h e =
    split (eqb k.name x)
    (λ t. rw (eqb-true k.name x t) at h.0)
    (λ t. let r = falls_kept since copy x (since k.name) ks h.1.1 (rw t at e) in (r.0, omega (arith, r.1, h.0.1)))

-- ---- a keep

kept-other : (x y : ℕ) (ks : List (Keeping Store)) → (y ≡ x → ⊥) → is_kept y (without x ks) ≡ is_kept y ks
unfolding is_kept without
kept-other x y [] other = refl
kept-other x y (k ∷ ks) other =
    split (eqb k.name x)
    (λ t. rw t (kept-other x y ks other ∙ rw (ne_eqb k.name y (λ q. other (sym q ∙ eqb-true k.name x t))) refl))
    (λ t. rw t (ap (λ (b : Bool). eqb k.name y || b) (kept-other x y ks other)))

falls_without : (since : ℕ → ℕ) (copy : ℕ → Saved) (x number : ℕ) (s : Saved) (b : ℕ) (ks : List (Keeping Store)) → Falls since copy b ks
    → Falls (upd since x number) (upd copy x s) b (without x ks)
unfolding without
falls_without since copy x number s b [] h = tt
falls_without since copy x number s b (k ∷ ks) h =
    split (eqb k.name x)
    (λ t. rw t
    (falls_raise (upd since x number) (upd copy x s) (since k.name) b (without x ks) (omega (arith, h.0.1)) (falls_without since copy x number s (since k.name) ks h.1.1)))
    (λ t. rw (t, t) (h.0, (h.1.0, falls_without since copy x number s (since k.name) ks h.1.1)))

others_keep : (since : ℕ → ℕ) (x number : ℕ) (st : Store) (ks : List (Keeping Store)) → Others since ks
    → Others (upd since x number) (record { name = x; kept = st } ∷ without x ks)
unfolding is_kept
others_keep since x number st ks h y e =
    upd_elim (λ (j : ℕ). j ≡ 0) since x number y
    (λ q. absurd (true≢false (rw (eq-eqb x y (sym q)) at e)))
    (λ q. h y (sym (kept-other x y ks q) ∙ (rw (ne_eqb x y (λ r. q (sym r))) at e)))

-- ---- a return

-- keepings no later than x's keep their numbers
falls_up_to : (since : ℕ → ℕ) (copy : ℕ → Saved) (x b : ℕ) (ks : List (Keeping Store)) → b ≤ suc (since x) → Falls since copy b ks → Falls (up_to since x) copy b ks
falls_up_to since copy x b [] l h = tt
falls_up_to since copy x b (k ∷ ks) l h =
    rw (le-ltb (since x) (since k.name) (omega (arith, h.0.1)))
    (h.0, (h.1.0, falls_up_to since copy x (since k.name) ks (omega (arith, h.0.1)) h.1.1))

-- what a return to x leaves, where it is kept: the keepings up to its own, and under it what is there then
record Returned (since : ℕ → ℕ) (copy : ℕ → Saved) (x b : ℕ) (d : Day Store) : Type 0 where
  falls : Falls (up_to since x) copy b d.keepings
  others : Others (up_to since x) d.keepings
  brought : copy x ≡ saved d.now

falls_back : (since : ℕ → ℕ) (copy : ℕ → Saved) (x b : ℕ) (d : Day Store) (ks : List (Keeping Store)) → Falls since copy b ks → is_kept x ks ≡ true
    → Others (up_to since x) ks → Returned since copy x b (back_to x d ks)
unfolding is_kept back_to
falls_back since copy x b d [] h e others = absurd (false≢true e)
falls_back since copy x b d (k ∷ ks) h e others =
    split (eqb k.name x)
    (λ t.
    let q : k.name ≡ x = eqb-true k.name x t in
    let l : since k.name ≡ since x = ap since q in
    rw t (record {
      falls = rw (le-ltb (since x) (since k.name) (omega arith)) (h.0, (h.1.0, falls_up_to since copy x (since k.name) ks (omega arith) h.1.1));
      others = others;
      brought = ap copy (sym q) ∙ h.1.0;
    }))
    (λ t.
    let kept : is_kept x ks ≡ true = rw t at e in
    let later : since x < since k.name = (falls_kept since copy x (since k.name) ks h.1.1 kept).1 in
    let r : Returned since copy x (since k.name) (back_to x d ks) =
    falls_back since copy x (since k.name) d ks h.1.1 kept
    (λ y f. split (eqb k.name y)
    (λ u. rw (← (eqb-true k.name y u), lt-ltb (since x) (since k.name) later) refl)
    (λ u. others y (rw u f))) in
    rw t (record {
      falls = falls_raise (up_to since x) copy (since k.name) b (back_to x d ks).keepings (omega (arith, h.0.1)) r.falls;
      others = r.others;
      brought = r.brought;
    }))

-- ---- what a return brings back

back_blank : (n : ℕ) (d : Day Store) → Grown d → (x : ℕ) → Blank (back_to x d d.keepings).now
unfolding after_item
back_blank n d h x =
    let e : Day Store = back_to x d d.keepings in
    linked_now Blank Stays stays_here stays_join e.now e.keepings
    (linked_again Blank Stays stays_here stays_join (after_call n) d h x)

back_stays : (n : ℕ) (d : Day Store) → Grown d → (x : ℕ) → Stays (back_to x d d.keepings).now d.now
unfolding after_item
back_stays n d h x = linked_return Blank Stays stays_here stays_join (after_call n) d x h

-- ---- every item

-- m is d, where the next item has this number
pub record Marks (number : ℕ) (m : Marked) (d : Day Store) : Type 0 where
  pub now : m.now ≡ d.now
  pub falls : Falls m.since m.copy number d.keepings
  pub others : Others m.since d.keepings

module _ (n number : ℕ) (m : Marked) (d : Day Store) (h : Marks number m d) where
  -- a name is kept exactly if it has a number
  pub marks_kept : (x : ℕ) → is_kept x d.keepings ≡ not (eqb (m.since x) 0)
  marks_kept x =
      split (is_kept x d.keepings)
      (λ t. t ∙ rw (ne_eqb (m.since x) 0 (λ q. omega (arith, (falls_kept m.since m.copy x number d.keepings h.falls t).0, q))) refl)
      (λ t. t ∙ rw (eq-eqb (m.since x) 0 (h.others x t)) refl)

  pub marks_below : 0 < number → (x : ℕ) → m.since x < number
  marks_below pos x =
      split (is_kept x d.keepings)
      (λ t. (falls_kept m.since m.copy x number d.keepings h.falls t).1)
      (λ t. omega (arith, h.others x t))

  -- so a return is refused by the number
  pub marks_refusal : (x : ℕ) → item_refusal n d (back x) ≡ ask (not (eqb (m.since x) 0)) 49 0
  unfolding item_refusal
  marks_refusal x = ap (λ (t : Bool). ask t 49 0) (marks_kept x)

  -- a return to a name not kept
  marks_stay : (x : ℕ) → eqb (m.since x) 0 ≡ true → Marks (suc number) m (back_to x d d.keepings)
  marks_stay x t =
      rw (back_none x d d.keepings (rw t at (marks_kept x)))
      (record {
        now = h.now;
        falls = falls_raise m.since m.copy number (suc number) d.keepings (omega arith) h.falls;
        others = h.others;
      })

  -- and to one that is kept
  brought_back_lem : (x : ℕ) → eqb (m.since x) 0 ≡ false → Returned m.since m.copy x number (back_to x d d.keepings)
  brought_back_lem x t =
      falls_back m.since m.copy x number d d.keepings h.falls (rw t at (marks_kept x))
      (λ y f. let z : m.since y ≡ 0 = h.others y f in rw (z, le-ltb (m.since x) 0 (omega arith)) refl)

  -- under its name stands what was copied of the store that it brings back
  pub marks_copy : (x : ℕ) → eqb (m.since x) 0 ≡ false → m.copy x ≡ saved (back_to x d d.keepings).now
  marks_copy x t = (brought_back_lem x t).brought

  -- which has no more events than there are now
  pub marks_count : Grown d → (x : ℕ) → eqb (m.since x) 0 ≡ false → (m.copy x).count ≤ m.now.count
  marks_count grown x t =
      omega (arith, ap (λ (b : Saved). b.count) (marks_copy x t), (back_stays n d grown x).count, ap (λ (st : Store). st.count) h.now)

  marks_return : Grown d → (x : ℕ) → eqb (m.since x) 0 ≡ false
      → Marks (suc number) (record { now = restored (m.copy x) m.now; since = up_to m.since x; copy = m.copy }) (back_to x d d.keepings)
  marks_return grown x t =
      let e : Day Store = back_to x d d.keepings in
      record {
        now = ap (λ (b : Saved). restored b m.now) (marks_copy x t)
            ∙ ap (restored (saved e.now)) h.now
            ∙ restored_same e.now d.now (back_blank n d grown x) (back_stays n d grown x);
        falls = falls_raise (up_to m.since x) m.copy number (suc number) e.keepings (omega arith) (brought_back_lem x t).falls;
        others = (brought_back_lem x t).others;
      }

  -- so every item does the same
  pub marks_item : 0 < number → Grown d → (i : Item Call) → Marks (suc number) (after_marked n number m i) (after_item (after_call n) d i)
  unfolding after_marked after_item
  marks_item pos grown (call c) = record {
    now = ap (λ (st : Store). after_call n st c) h.now;
    falls = falls_raise m.since m.copy number (suc number) d.keepings (omega arith) h.falls;
    others = h.others;
  }
  marks_item pos grown (keep x) = record {
    now = h.now;
    falls =
        rw (upd_same m.since x number, upd_same m.copy x (saved m.now))
        ((pos, le_refl _), (ap saved h.now, falls_without m.since m.copy x number (saved m.now) number d.keepings h.falls));
    others = others_keep m.since x number d.now d.keepings h.others;
  }
  marks_item pos grown (back x) = split (eqb (m.since x) 0)
      (λ t. rw t (marks_stay x t))
      (λ t. rw t (marks_return grown x t))

-- ---- a script

pub marks_begun : (T : Terms) (copy : ℕ → Saved) → Marks 1 (record { now = fresh T; since = λ x. 0; copy = copy }) (begun (fresh T))
marks_begun T copy = record { now = refl; falls = tt; others = λ y e. refl }

-- item k of a script has number k + 1
pub marks_more : (n : ℕ) (T : Terms) (k : ℕ) (s : List ℕ) (m : Marked) → Marks (suc k) m (stores_after n T (items_from k s 0))
    → Marks (suc (suc k)) (after_marked n (suc k) m (item_at s (8 * k))) (stores_after n T (items_from (suc k) s 0))
marks_more n T k s m h =
    rw (items_more k s, stores_more n T (items_from k s 0) (item_at s (8 * k)))
    (marks_item n (suc k) m (stores_after n T (items_from k s 0)) h (omega arith) (stores_grown n T (items_from k s 0)) (item_at s (8 * k)))
