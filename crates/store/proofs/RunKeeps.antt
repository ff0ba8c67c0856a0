-- Every call keeps the invariant, and so does every list of calls. Assumes nothing.
use mathlib.Core.Path.{◌≡◌, refl, ◌∙◌}
use mathlib.Core.Bool.{Bool, true, false, not, cond, ◌&&◌, false≢true}
use mathlib.Core.List.{List, [], ◌∷◌}
use Prim.Native.Nat.{ℕ, zero, suc, ◌≤◌, ◌<◌}
use native.Mathlib.Omega.{arith}
use native.Mathlib.Nat.{le_refl}
use lib.Dec.{leb, ltb, eqb}
use borrow.Author.Tests.{ltb-true, leb-true, le-leb, eqb-true, not-true}
use Rattle.rows.proofs.Tests.{and_both, and_left, and_right}
use Rattle.record.specs.Layout.{most_events}
use Rattle.record.specs.Terms.{value, Terms}
use Rattle.store.specs.Store.{cell_value, Store, fresh}
use Rattle.store.specs.Calls.{Call, put, get, deliver, close, malformed}
use Rattle.record.specs.Questions.{ask}
use Rattle.store.specs.Rules.{reached, refusal, made, with_copy, Copy, copy_refusal, after_copy, after_copies, close_copies, effect, after_call, run}
use Rattle.store.proofs.UpdateLaws.{upd_same, upd-below, lt_suc_elim}
use Rattle.store.proofs.Invariant.{Table, StoreInv}
use Rattle.store.proofs.DeliverKeeps.{Deliverable, deliver-keeps}
use Rattle.store.proofs.PutGetKeeps.{put_keeps, get_keeps}

-- ---- what a question says that got a yes

ask_yes : (b : Bool) (r x : ℕ) → ask b (suc r) x ≡ 0 → b ≡ true
ask_yes true r x h = refl
ask_yes false r x h = absurd (omega arith)

ask-next : (b : Bool) (r x : ℕ) → ask b (suc r) x ≡ 0 → x ≡ 0
ask-next true r x h = h
ask-next false r x h = absurd (omega arith)

pub reached_le : (k : ℕ) (needs held : ℕ → ℕ) → reached k needs held ≡ true → (i : ℕ) → i < k → needs i ≤ held i
unfolding reached
reached_le zero needs held h i l = absurd (omega arith)
reached_le (suc k) needs held h i l =
    lt_suc_elim i k l
    (λ q. reached_le k needs held (and_left (reached k needs held) (leb (needs k) (held k)) h) i q)
    (λ q. rw q (leb-true (needs k) (held k) (and_right (reached k needs held) (leb (needs k) (held k)) h)))

pub reached_true : (k : ℕ) (needs held : ℕ → ℕ) → ((i : ℕ) → i < k → needs i ≤ held i) → reached k needs held ≡ true
unfolding reached
reached_true zero needs held h = refl
reached_true (suc k) needs held h =
    and_both (reached k needs held) (leb (needs k) (held k)) (reached_true k needs held (λ i l. h i (omega arith))) (le-leb (needs k) (held k) (h k (le_refl _)))

-- what a put or a get on object o at s has that is not refused
pub record Doable (n : ℕ) (st : Store) (s o : ℕ) : Type 0 where
  pub site : s < n
  pub object : o ≤ 31
  pub room : st.count < most_events

doable : (n : ℕ) (st : Store) (s o : ℕ) → ask {A = ℕ} (ltb s n) 32 (ask (leb o 31) 33 (ask (ltb st.count most_events) 34 0)) ≡ 0 → Doable n st s o
doable n st s o r =
    let q₃ : ℕ = ask (ltb st.count most_events) 34 0 in
    let q₂ : ℕ = ask (leb o 31) 33 q₃ in
    let r₂ : q₂ ≡ 0 = ask-next (ltb s n) 31 q₂ r in
    let r₃ : q₃ ≡ 0 = ask-next (leb o 31) 32 q₃ r₂ in
    record {
      site = ltb-true s n (ask_yes (ltb s n) 31 q₂ r);
      object = leb-true o 31 (ask_yes (leb o 31) 32 q₃ r₂);
      room = ltb-true st.count most_events (ask_yes (ltb st.count most_events) 33 0 r₃);
    }

pub put_doable : (n : ℕ) (st : Store) (s o v : ℕ) → refusal n st (put s o v) ≡ 0 → Doable n st s o
unfolding refusal
put_doable n st s o v r = doable n st s o r

pub get_doable : (n : ℕ) (st : Store) (s o : ℕ) → refusal n st (get s o) ≡ 0 → Doable n st s o
unfolding refusal
get_doable n st s o r = doable n st s o r

pub deliverable : (n : ℕ) (st : Store) (w t : ℕ) → refusal n st (deliver w t) ≡ 0 → Deliverable st w t (st.event w)
unfolding refusal
deliverable n st w t r =
    let q₄ : ℕ = ask (reached 8 (st.event w).needs (st.site t).held) 36 0 in
    let q₃ : ℕ = ask (not ((st.site t).known w)) 35 q₄ in
    let q₂ : ℕ = ask (ltb w st.count && (st.event w).is_put) 33 q₃ in
    let r₂ : q₂ ≡ 0 = ask-next (ltb t n) 31 q₂ r in
    let r₃ : q₃ ≡ 0 = ask-next (ltb w st.count && (st.event w).is_put) 32 q₃ r₂ in
    let r₄ : q₄ ≡ 0 = ask-next (not ((st.site t).known w)) 34 q₄ r₃ in
    let both = ask_yes (ltb w st.count && (st.event w).is_put) 32 q₃ r₂ in
    record {
      done = ltb-true w st.count (and_left (ltb w st.count) (st.event w).is_put both);
      is_put = and_right (ltb w st.count) (st.event w).is_put both;
      lacks = not-true ((st.site t).known w) (ask_yes (not ((st.site t).known w)) 34 q₄ r₃);
      reached =
          reached_le 8 (st.event w).needs (st.site t).held
          (ask_yes (reached 8 (st.event w).needs (st.site t).held) 35 0 r₄);
    }

pub delivery_site : (n : ℕ) (st : Store) (w t : ℕ) → refusal n st (deliver w t) ≡ 0 → t < n
unfolding refusal
delivery_site n st w t r = ltb-true t n (ask_yes (ltb t n) 31 _ r)

-- a step keeps what every call keeps that is not refused
pub step_elim : (n : ℕ) (st : Store) (c : Call) (P : Store → Type 0) → (refusal n st c ≡ 0 → P (effect n st c)) → P st → P (after_call n st c)
unfolding after_call
step_elim n st c P done refused = go (eqb (refusal n st c) 0) refl
  where
    go : (t : Bool) → eqb (refusal n st c) 0 ≡ t → P (cond t (effect n st c) st)
    go true e = done (eqb-true (refusal n st c) 0 e)
    go false e = refused

-- a close keeps what every delivery keeps that is not refused
pub copies-keep : (n : ℕ) (P : Store → Type 0) → ((st : Store) (w t : ℕ) → refusal n st (deliver w t) ≡ 0 → P st → P (with_copy st w t))
    → (cs : List Copy) (st : Store) → P st → P (after_copies n st cs)
unfolding after_copies after_copy
copies-keep n P keeps [] st p = p
copies-keep n P keeps (c ∷ cs) st p = copies-keep n P keeps cs (after_copy n st c) (go (eqb (copy_refusal n st c) 0) refl)
  where
    go : (t : Bool) → eqb (copy_refusal n st c) 0 ≡ t → P (cond t (with_copy st c.event c.site) st)
    go true e = keeps st c.event c.site (eqb-true (copy_refusal n st c) 0 e) p
    go false e = p

-- ---- what is done stays

pub record Stays (st later : Store) : Type 0 where
  pub count : st.count ≤ later.count
  pub event : (e : ℕ) → e < st.count → later.event e ≡ st.event e

pub stays_here : (st : Store) → Stays st st
stays_here st = record { count = le_refl _; event = λ e l. refl }

effect_stays : (n : ℕ) (st : Store) (c : Call) → Stays st (effect n st c)
unfolding effect
effect_stays n st (put s o v) = record {
  count = omega arith;
  event = upd-below st.event st.count (made st s true o (value v));
}
effect_stays n st (get s o) = record {
  count = omega arith;
  event = upd-below st.event st.count (made st s false o (cell_value ((st.site s).cell o)));
}
effect_stays n st (deliver w t) = record { count = le_refl _; event = λ e l. refl }
effect_stays n st close = copies-keep n (Stays st) (λ x w t r h. record { count = h.count; event = h.event }) (close_copies n st) st (stays_here st)
effect_stays n st malformed = stays_here st

pub step_stays : (n : ℕ) (st : Store) (c : Call) → Stays st (after_call n st c)
step_stays n st c = step_elim n st c (Stays st) (λ r. effect_stays n st c) (stays_here st)

pub run_stays : (n : ℕ) (st : Store) (cs : List Call) → Stays st (run n st cs)
unfolding run
run_stays n st [] = stays_here st
run_stays n st (c ∷ cs) =
    let h = step_stays n st c in
    let k = run_stays n (after_call n st c) cs in
    record {
      count = omega (arith, h.count, k.count);
      event = λ e l. k.event e (omega (arith, h.count)) ∙ h.event e l;
    }

-- ---- the invariant

-- F has the events done so far
abbrev pub Has : Table → Store → Type 0
Has F st = (e : ℕ) → e < st.count → F e ≡ st.event e

pub has_earlier : (F : Table) (st later : Store) → Stays st later → Has F later → Has F st
has_earlier F st later h k e l = k e (omega (arith, h.count)) ∙ h.event e l

-- a delivery changes no event
copy_keeps : (n : ℕ) → n ≤ 8 → {T : Terms} (F : Table) (st : Store) (w t : ℕ) → refusal n st (deliver w t) ≡ 0 → Has F st × StoreInv n T F st
    → Has F (with_copy st w t) × StoreInv n T F (with_copy st w t)
copy_keeps n n≤8 F st w t r h =
    let d = deliverable n st w t r in
    let e_f : F w ≡ st.event w = h.0 w d.done in
    (h.0, deliver-keeps n n≤8 F st h.1 w t (rw e_f d) e_f)

pub copy_inv : (n : ℕ) → n ≤ 8 → {T : Terms} (st : Store) (w t : ℕ) → refusal n st (deliver w t) ≡ 0 → StoreInv n T st.event st
    → StoreInv n T st.event (with_copy st w t)
copy_inv n n≤8 st w t done ok = (copy_keeps n n≤8 st.event st w t done ((λ e l. refl), ok)).1

pub copies_inv : (n : ℕ) → n ≤ 8 → {T : Terms} (cs : List Copy) (st : Store) → StoreInv n T st.event st
    → StoreInv n T (after_copies n st cs).event (after_copies n st cs)
copies_inv n n≤8 {T} = copies-keep n (λ (x : Store). StoreInv n T x.event x) (copy_inv n n≤8)

effect-keeps : (n : ℕ) → n ≤ 8 → {T : Terms} (F : Table) (st : Store) → StoreInv n T F st → (c : Call) → refusal n st c ≡ 0 → Has F (effect n st c)
    → StoreInv n T F (effect n st c)
unfolding effect
effect-keeps n n≤8 F st ok (put s o v) r has =
    put_keeps n n≤8 F st ok s (put_doable n st s o v r).site o v
    (has st.count (le_refl _) ∙ upd_same st.event st.count (made st s true o (value v)))
effect-keeps n n≤8 F st ok (get s o) r has =
    get_keeps n n≤8 F st ok s (get_doable n st s o r).site o
    (has st.count (le_refl _) ∙ upd_same st.event st.count (made st s false o (cell_value ((st.site s).cell o))))
effect-keeps n n≤8 F st ok (deliver w t) r has = (copy_keeps n n≤8 F st w t r (has, ok)).1
effect-keeps n n≤8 {T} F st ok close r has =
    (copies-keep n (λ (x : Store). Has F x × StoreInv n T F x) (λ x w t. copy_keeps n n≤8 F x w t) (close_copies n st) st
    (has_earlier F st (effect n st close) (effect_stays n st close) has, ok)).1
effect-keeps n n≤8 F st ok malformed r has = ok

pub step_keeps : (n : ℕ) → n ≤ 8 → {T : Terms} (F : Table) (st : Store) → StoreInv n T F st → (c : Call) → Has F (after_call n st c)
    → StoreInv n T F (after_call n st c)
step_keeps n n≤8 {T} F st ok c =
    step_elim n st c (λ (x : Store). Has F x → StoreInv n T F x) (λ r has. effect-keeps n n≤8 F st ok c r has) (λ has. ok)

pub run-keeps : (n : ℕ) → n ≤ 8 → {T : Terms} (F : Table) (cs : List Call) (st : Store) → StoreInv n T F st → Has F (run n st cs)
    → StoreInv n T F (run n st cs)
unfolding run
run-keeps n n≤8 F [] st ok has = ok
run-keeps n n≤8 F (c ∷ cs) st ok has =
    run-keeps n n≤8 F cs (after_call n st c)
    (step_keeps n n≤8 F st ok c (has_earlier F (after_call n st c) (run n (after_call n st c) cs) (run_stays n (after_call n st c) cs) has))
    has

fresh_keeps : (n : ℕ) (T : Terms) (F : Table) → StoreInv n T F (fresh T)
fresh_keeps n T F = record {
  events = λ e l. absurd (omega arith);
  sites = λ s. record {
    below = λ e h. absurd (false≢true h);
    closed = λ e f h x. absurd (false≢true h);
    own = λ e l q. absurd (omega arith);
    clock = λ e h. absurd (false≢true h);
    clock_few = le_refl _;
    known_held = λ e h i. absurd (false≢true h);
    held_known = λ e l i x. absurd (omega arith);
    counted = λ i p l. absurd (omega arith);
    held_made = λ i. le_refl _;
    cell = λ o. ((λ q h i b. absurd (false≢true h)), refl);
  };
  few = λ i. le_refl _;
}

-- for all terms, and every list of calls
pub every-run : (n : ℕ) → n ≤ 8 → (T : Terms) (cs : List Call) → StoreInv n T (run n (fresh T) cs).event (run n (fresh T) cs)
every-run n n≤8 T cs =
    let F : Table = (run n (fresh T) cs).event in
    run-keeps n n≤8 F cs (fresh T) (fresh_keeps n T F) (λ e l. refl)
