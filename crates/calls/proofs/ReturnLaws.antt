-- Keeping and coming back in the arrays: what is the sites' is copied, with the row of puts and the count, and the events stay where they are. Assumes nothing.
use mathlib.Core.Path.{◌≡◌, refl, sym, ap, ◌∙◌, fun_ext}
use mathlib.Core.Bool.{false, cond}
use mathlib.Core.List.{List, []}
use Prim.Native.Nat.{ℕ, ◌≤◌, ◌<◌}
use native.Mathlib.Omega.{arith}
use lib.Dec.{eqb, ltb}
use borrow.Author.Tests.{lt-ltb, ltb-true}
use Rattle.rows.specs.Row.{has}
use Rattle.rows.proofs.Tests.{split}
use Rattle.record.specs.Terms.{Terms}
use Rattle.store.specs.Store.{upd, Site, Event, Store, fresh_site}
use Rattle.store.specs.Calls.{Call}
use Rattle.store.specs.Rules.{after_call}
use Rattle.store.specs.Named.{call, keep, back}
use Rattle.store.proofs.RunKeeps.{Stays}
use Rattle.store.proofs.KeptStores.{Saved, saved, restored}
use Rattle.store.proofs.SinceLaws.{Marked, up_to, after_marked}
use Rattle.calls.specs.Lent.{Lent, site_in, store_in, Clear}
use Rattle.calls.proofs.LentLaws.{store_path, store-count, put-told}
use Rattle.calls.proofs.MadeLaws.{event-same}

-- what is copied of the arrays: what sites know, their cells and clocks, what they hold, the row of puts, and the count
pub record Saving : Type 0 where
  pub known : List (List ℕ)
  pub puts : List ℕ
  pub cells : List (List ℕ)
  pub clocks : List ℕ
  pub count : ℕ
  pub held : List (List ℕ)

abbrev pub saving_of : Lent → Saving
saving_of z = record { known = z.known; puts = z.puts; cells = z.cells; clocks = z.clocks; count = z.count; held = z.held }

abbrev pub brought_back : Lent → Saving → Lent
brought_back z b = record {
  known = b.known;
  puts = b.puts;
  sees = z.sees;
  cells = b.cells;
  clocks = b.clocks;
  count = b.count;
  events = z.events;
  held = b.held;
  needs = z.needs;
}

-- the count and the sites that it stands for
abbrev sites_in : Terms → Saving → ℕ → Site
sites_in t b s = cond (ltb s 8) (site_in (brought_back (record { known = []; puts = []; sees = []; cells = []; clocks = []; count = 0; events = []; held = []; needs = [] }) b) s) (fresh_site t)

abbrev pub saved_in : Terms → Saving → Saved
saved_in t b = record { count = b.count; site = sites_in t b }

pub saved_now : (t : Terms) (z : Lent) → saved (store_in t z) ≡ saved_in t (saving_of z)
unfolding store_in
saved_now t z = refl

-- the first events, of which the row of puts tells as it did
pub store-back : (t : Terms) (z : Lent) (b : Saving) → b.count ≤ z.count → ((e : ℕ) → e < b.count → has b.puts e ≡ has z.puts e)
    → store_in t (brought_back z b) ≡ restored (saved_in t b) (store_in t z)
unfolding store_in
store-back t z b few puts =
    store_path refl
    (fun_ext (λ e.
    split (ltb e b.count)
    (λ u.
    let l : e < b.count = ltb-true e b.count u in
    rw (u, lt-ltb e z.count (omega arith)) (event-same z (brought_back z b) e refl (puts e l) refl refl))
    (λ u. rw u refl)))
    refl

-- it does so where the events then are the first ones now
pub puts_back : (t : Terms) (old z : Lent) → Clear old → Clear z → Stays (store_in t old) (store_in t z) → (e : ℕ) → e < old.count → has old.puts e ≡ has z.puts e
puts_back t old z clear-old clear stays e l =
    sym (put-told t old clear-old e) ∙ ap (λ (x : Event). x.is_put) (sym (stays.event e (rw (store-count t old) l))) ∙ put-told t z clear e

-- ---- items

-- the arrays, for each name the number of its keeping, and what was copied then
pub record Named : Type 0 where
  pub z : Lent
  pub since : ℕ → ℕ
  pub saves : ℕ → Saving

abbrev pub marked_in : Terms → Named → Marked
marked_in t q = record { now = store_in t q.z; since = q.since; copy = λ x. saved_in t (q.saves x) }

module _ (n number : ℕ) (t : Terms) (q : Named) where
  -- a keep copies
  pub keep_marked : (x : ℕ) → marked_in t (record { z = q.z; since = upd q.since x number; saves = upd q.saves x (saving_of q.z) }) ≡ after_marked n number (marked_in t q) (keep x)
  unfolding after_marked
  keep_marked x =
      ap (λ (copies : ℕ → Saved). record { now = store_in t q.z; since = upd q.since x number; copy = copies }) (fun_ext (λ y.
      split (eqb y x) (λ u. rw u (sym (saved_now t q.z))) (λ u. rw u refl)))

  -- a return copies back
  pub return_marked : (x : ℕ) → eqb (q.since x) 0 ≡ false → (q.saves x).count ≤ q.z.count → ((e : ℕ) → e < (q.saves x).count → has (q.saves x).puts e ≡ has q.z.puts e)
      → marked_in t (record { z = brought_back q.z (q.saves x); since = up_to q.since x; saves = q.saves }) ≡ after_marked n number (marked_in t q) (back x)
  unfolding after_marked
  return_marked x u few puts =
      rw u
      (ap (λ (st : Store). record { now = st; since = up_to q.since x; copy = λ y. saved_in t (q.saves y) }) (store-back t q.z (q.saves x) few puts))

  -- a call leaves what is kept
  pub call_marked : (z : Lent) (c : Call) → store_in t z ≡ after_call n (store_in t q.z) c
      → marked_in t (record { z = z; since = q.since; saves = q.saves }) ≡ after_marked n number (marked_in t q) (call c)
  unfolding after_marked
  call_marked z c e = ap (λ (st : Store). record { now = st; since = q.since; copy = λ y. saved_in t (q.saves y) }) e
