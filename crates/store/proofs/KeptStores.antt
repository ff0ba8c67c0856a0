-- A kept store is the beginning of the store now: its events are the first ones, what they see too. So a keeping has but to copy the count and the
-- sites, and no event below a kept count is overwritten. Assumes nothing.
use mathlib.Core.Path.{◌≡◌, refl, sym, ap, ◌∙◌, fun_ext}
use mathlib.Core.Bool.{Bool, true, false, cond}
use mathlib.Core.List.{List}
use Prim.Native.Nat.{ℕ, suc, ◌≤◌}
use native.Mathlib.Omega.{arith}
use lib.Dec.{ltb}
use borrow.Author.Tests.{ltb-true, ltb-false}
use Rattle.record.specs.Terms.{value, Terms}
use Rattle.store.specs.Store.{upd, cell_value, Site, Event, Store, no_event, fresh}
use Rattle.store.specs.Calls.{Call, put, get, deliver, close, malformed}
use Rattle.store.specs.Rules.{made, close_copies, effect, after_call}
use Rattle.store.specs.Named.{Item, back, Day, begun, after_item}
use Rattle.store.proofs.UpdateLaws.{upd_elim}
use Rattle.store.proofs.RunKeeps.{step_elim, copies-keep, Stays, stays_here, step_stays}
use Rattle.store.proofs.NamedLaws.{LinkedDay, linked_items, linked_return}
use Rattle.store.proofs.Remaining.{any_calls, stores_after}

-- ---- nothing stands behind the events

abbrev pub Blank : Store → Type 0
Blank st = (e : ℕ) → st.count ≤ e → st.event e ≡ no_event

new_blank : (st : Store) (x : Event) → Blank st → (e : ℕ) → suc st.count ≤ e → upd st.event st.count x e ≡ no_event
new_blank st x h e l =
    upd_elim (λ (y : Event). y ≡ no_event) st.event st.count x e (λ q. absurd (omega arith)) (λ q. h e (omega arith))

effect_blank : (n : ℕ) (st : Store) (c : Call) → Blank st → Blank (effect n st c)
unfolding effect
effect_blank n st (put s o v) h = new_blank st (made st s true o (value v)) h
effect_blank n st (get s o) h = new_blank st (made st s false o (cell_value ((st.site s).cell o))) h
effect_blank n st (deliver w t) h = h
effect_blank n st close h = copies-keep n Blank (λ x w t r k. k) (close_copies n st) st h
effect_blank n st malformed h = h

pub step_blank : (n : ℕ) (st : Store) (c : Call) → Blank st → Blank (after_call n st c)
step_blank n st c h = step_elim n st c Blank (λ r. effect_blank n st c h) h

-- ---- a kept store stays

pub stays_join : (a b c : Store) → Stays a b → Stays b c → Stays a c
stays_join a b c h k = record {
  count = omega (arith, h.count, k.count);
  event = λ e l. k.event e (omega (arith, h.count)) ∙ h.event e l;
}

-- each kept store in the one kept after it, and the last in the store now
abbrev pub Grown : Day Store → Type 0
Grown = LinkedDay Blank Stays

pub stores_grown : (n : ℕ) (T : Terms) (is : List (Item Call)) → Grown (stores_after n T is)
stores_grown n T is =
    linked_items Blank Stays stays_here stays_join (λ c. Unit {0}) (after_call n) (λ st c q. step_blank n st c) (step_stays n) (begun (fresh T)) is (any_calls is) (λ e l. refl)

-- the store that a return brings back has no more events than there are now, and these are the first ones
pub return_stays : (n : ℕ) (T : Terms) (is : List (Item Call)) (x : ℕ) → Stays (after_item (after_call n) (stores_after n T is) (back x)).now (stores_after n T is).now
return_stays n T is x = linked_return Blank Stays stays_here stays_join (after_call n) (stores_after n T is) x (stores_grown n T is)

-- ---- so it is known again by its count and its sites

-- what is copied of a store
pub record Saved : Type 0 where
  pub count : ℕ
  pub site : ℕ → Site

abbrev pub saved : Store → Saved
saved st = record { count = st.count; site = st.site }

-- that, with the first events of the store now
abbrev pub restored : Saved → Store → Store
restored b st = record { count = b.count; event = λ e. cond (ltb e b.count) (st.event e) no_event; site = b.site }

pub restored_same : (a b : Store) → Blank a → Stays a b → restored (saved a) b ≡ a
restored_same a b blank h =
    ap (λ (events : ℕ → Event). record { count = a.count; event = events; site = a.site }) (fun_ext (λ e. go e (ltb e a.count) refl))
  where
    go : (e : ℕ) (t : Bool) → ltb e a.count ≡ t → cond t (b.event e) no_event ≡ a.event e
    go e true q = h.event e (ltb-true e a.count q)
    go e false q = sym (blank e (ltb-false e a.count q))
