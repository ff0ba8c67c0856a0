-- Keeps and returns, of whatever is kept: item by item, carried over by a function, and what every step keeps. Assumes nothing.
use mathlib.Core.Path.{◌≡◌, refl, ap, ◌∙◌}
use mathlib.Core.Bool.{Bool, true, false, ◌||◌, true≢false, false≢true}
use mathlib.Core.List.{List, [], ◌∷◌, ◌++◌}
use Prim.Native.Nat.{ℕ}
use lib.Dec.{eqb}
use Rattle.rows.proofs.Tests.{split}
use Rattle.store.specs.Named.{Item, call, keep, back, Keeping, Day, is_kept, without, back_to, after_item, after_items, on_keepings, on_day}

-- ---- one more item

pub after_more : {A C : Type 0} (step : A → C → A) (d : Day A) (is : List (Item C)) (i : Item C)
    → after_items step d (is ++ (i ∷ [])) ≡ after_item step (after_items step d is) i
unfolding after_items
after_more step d [] i = refl
after_more step d (j ∷ is) i = after_more step (after_item step d j) is i

-- ---- a return to a name not kept changes nothing

pub back_none : {A : Type 0} (x : ℕ) (d : Day A) (ks : List (Keeping A)) → is_kept x ks ≡ false → back_to x d ks ≡ d
unfolding is_kept back_to
back_none x d [] e = refl
back_none x d (k ∷ ks) e =
    split (eqb k.name x)
    (λ t. absurd (true≢false (rw t at e)))
    (λ t. rw t (back_none x d ks (rw t at e)))

-- the name returned to stays
pub back-kept : {A : Type 0} (x : ℕ) (d : Day A) (ks : List (Keeping A)) → is_kept x ks ≡ true → is_kept x (back_to x d ks).keepings ≡ true
unfolding is_kept back_to
back-kept x d [] e = absurd (false≢true e)
back-kept x d (k ∷ ks) e =
    split (eqb k.name x)
    (λ t. rw (t, t) refl)
    (λ t. rw t (back-kept x d ks (rw t at e)))

-- ---- carried over by f

module _ {A B : Type 0} (f : A → B) where
  pub on_kept : (x : ℕ) (ks : List (Keeping A)) → is_kept x (on_keepings f ks) ≡ is_kept x ks
  unfolding is_kept on_keepings
  on_kept x [] = refl
  on_kept x (k ∷ ks) = ap (λ (t : Bool). eqb k.name x || t) (on_kept x ks)

  on_without : (x : ℕ) (ks : List (Keeping A)) → without x (on_keepings f ks) ≡ on_keepings f (without x ks)
  unfolding without on_keepings
  on_without x [] = refl
  on_without x (k ∷ ks) =
      split (eqb k.name x)
      (λ t. rw t (on_without x ks))
      (λ t. rw t (ap (λ (l : List (Keeping B)). record { name = k.name; kept = f k.kept } ∷ l) (on_without x ks)))

  on_back : (x : ℕ) (d : Day A) (ks : List (Keeping A)) → back_to x (on_day f d) (on_keepings f ks) ≡ on_day f (back_to x d ks)
  unfolding back_to on_keepings
  on_back x d [] = refl
  on_back x d (k ∷ ks) = split (eqb k.name x) (λ t. rw t refl) (λ t. rw t (on_back x d ks))

  -- where f carries one step to the other, it carries a day to the other; a call may be told in another form, as c'
  module _ {C D : Type 0} (step : A → C → A) (step' : B → D → B) where
    pub on_call : (d : Day A) (c : C) (c' : D) → step' (f d.now) c' ≡ f (step d.now c) → after_item step' (on_day f d) (call c') ≡ on_day f (after_item step d (call c))
    unfolding after_item
    on_call d c c' e = ap (λ (b : B). record { now = b; keepings = on_keepings f d.keepings }) e

    pub on_keep : (d : Day A) (x : ℕ) → after_item step' (on_day f d) (keep x) ≡ on_day f (after_item step d (keep x))
    unfolding after_item on_keepings
    on_keep d x = ap (λ (l : List (Keeping B)). record { now = f d.now; keepings = record { name = x; kept = f d.now } ∷ l }) (on_without x d.keepings)

    pub on_return : (d : Day A) (x : ℕ) → after_item step' (on_day f d) (back x) ≡ on_day f (after_item step d (back x))
    unfolding after_item
    on_return d x = on_back x d d.keepings

  module _ {C : Type 0} (step : A → C → A) (step' : B → C → B) (same : (a : A) (c : C) → step' (f a) c ≡ f (step a c)) where
    pub on_item : (d : Day A) (i : Item C) → after_item step' (on_day f d) i ≡ on_day f (after_item step d i)
    on_item d (call c) = on_call step step' d c c (same d.now c)
    on_item d (keep x) = on_keep step step' d x
    on_item d (back x) = on_return step step' d x

    pub on_items : (d : Day A) (is : List (Item C)) → after_items step' (on_day f d) is ≡ on_day f (after_items step d is)
    unfolding after_items
    on_items d [] = refl
    on_items d (i ∷ is) = ap (λ (x : Day B). after_items step' x is) (on_item d i) ∙ on_items (after_item step d i) is

-- ---- what every step keeps

-- Q of the call, where the item is one
abbrev pub OfCall : {C : Type 0} → (C → Type 0) → Item C → Type 0
OfCall Q (call c) = Q c
OfCall Q (keep x) = Unit {0}
OfCall Q (back x) = Unit {0}

abbrev pub OfCalls : {C : Type 0} → (C → Type 0) → List (Item C) → Type 0
OfCalls Q [] = Unit {0}
OfCalls Q (i ∷ is) = OfCall Q i × OfCalls Q is

-- P of a and of all that is kept; and each keeping is in R to the one after it, the last to a
abbrev pub Linked : {A : Type 0} → (A → Type 0) → (A → A → Type 0) → A → List (Keeping A) → Type 0
Linked P R a [] = P a
Linked P R a (k ∷ ks) = P a × (R k.kept a × Linked P R k.kept ks)

abbrev pub LinkedDay : {A : Type 0} → (A → Type 0) → (A → A → Type 0) → Day A → Type 0
LinkedDay P R d = Linked P R d.now d.keepings

module _ {A : Type 0} (P : A → Type 0) (R : A → A → Type 0) (same : (a : A) → R a a) (join : (a b c : A) → R a b → R b c → R a c) where
  pub linked_now : (a : A) (ks : List (Keeping A)) → Linked P R a ks → P a
  linked_now a [] h = h
  linked_now a (k ∷ ks) h = h.0

  linked_on : (a b : A) (ks : List (Keeping A)) → P b → R a b → Linked P R a ks → Linked P R b ks
  linked_on a b [] p r h = p
  linked_on a b (k ∷ ks) p r h = (p, (join k.kept a b h.1.0 r, h.1.1))

  linked_without : (x : ℕ) (a : A) (ks : List (Keeping A)) → Linked P R a ks → Linked P R a (without x ks)
  unfolding without
  linked_without x a [] h = h
  linked_without x a (k ∷ ks) h =
      split (eqb k.name x)
      (λ t. rw t (linked_without x a ks (linked_on k.kept a ks h.0 h.1.0 h.1.1)))
      (λ t. rw t (h.0, (h.1.0, linked_without x k.kept ks h.1.1)))

  linked_back : (x : ℕ) (d : Day A) → LinkedDay P R d → (a : A) (ks : List (Keeping A)) → Linked P R a ks → LinkedDay P R (back_to x d ks)
  unfolding back_to
  linked_back x d whole a [] h = whole
  linked_back x d whole a (k ∷ ks) h =
      split (eqb k.name x)
      (λ t. rw t (linked_now k.kept ks h.1.1, (same k.kept, h.1.1)))
      (λ t. rw t (linked_back x d whole k.kept ks h.1.1))

  -- what a return brings back is in R to what there is now
  back_from : (x : ℕ) (d : Day A) (a : A) (ks : List (Keeping A)) → R a d.now → Linked P R a ks → R (back_to x d ks).now d.now
  unfolding back_to
  back_from x d a [] r h = same d.now
  back_from x d a (k ∷ ks) r h =
      let here : R k.kept d.now = join k.kept a d.now h.1.0 r in
      split (eqb k.name x) (λ t. rw t here) (λ t. rw t (back_from x d k.kept ks here h.1.1))

  pub linked_return : {C : Type 0} (step : A → C → A) (d : Day A) (x : ℕ) → LinkedDay P R d → R (after_item step d (back x)).now d.now
  unfolding after_item
  linked_return step d x h = back_from x d d.now d.keepings (same d.now) h

  module _ {C : Type 0} (step : A → C → A) (d : Day A) (h : LinkedDay P R d) where
    pub linked_call : (c : C) → (P d.now → P (step d.now c)) → R d.now (step d.now c) → LinkedDay P R (after_item step d (call c))
    unfolding after_item
    linked_call c keeps adds = linked_on d.now (step d.now c) d.keepings (keeps (linked_now d.now d.keepings h)) adds h

    pub linked_keep : (x : ℕ) → LinkedDay P R (after_item step d (keep x))
    unfolding after_item
    linked_keep x = (linked_now d.now d.keepings h, (same d.now, linked_without x d.now d.keepings h))

    pub linked_again : (x : ℕ) → LinkedDay P R (after_item step d (back x))
    unfolding after_item
    linked_again x = linked_back x d h d.now d.keepings h

  module _ {C : Type 0} (Q : C → Type 0) (step : A → C → A) (keeps : (a : A) (c : C) → Q c → P a → P (step a c)) (adds : (a : A) (c : C) → R a (step a c)) where
    linked_item : (d : Day A) (i : Item C) → OfCall Q i → LinkedDay P R d → LinkedDay P R (after_item step d i)
    linked_item d (call c) q h = linked_call step d h c (keeps d.now c q) (adds d.now c)
    linked_item d (keep x) q h = linked_keep step d h x
    linked_item d (back x) q h = linked_again step d h x

    pub linked_items : (d : Day A) (is : List (Item C)) → OfCalls Q is → LinkedDay P R d → LinkedDay P R (after_items step d is)
    unfolding after_items
    linked_items d [] q h = h
    linked_items d (i ∷ is) q h = linked_items (after_item step d i) is q.1 (linked_item d i q.0 h)
