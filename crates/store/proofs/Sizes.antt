-- The store's numbers are small: sums do not wrap, and every field of the record holds its number. Assumes nothing.
use mathlib.Core.Path.{◌≡◌}
use mathlib.Core.Bool.{Bool, true, false, cond, ◌&&◌, false≢true}
use mathlib.Core.List.{List, [], ◌∷◌}
use Prim.Native.Nat.{ℕ, zero, suc, ◌+◌, ◌/◌, ◌^◌, ◌≤◌, ◌<◌}
use native.Mathlib.Omega.{arith}
use lib.Dec.{eqb}
use lib.ListN.{length}
use Rattle.rows.specs.Octets.{little}
use Rattle.rows.proofs.Tests.{split}
use Rattle.rows.proofs.ByteLaws.{little_lt}
use Rattle.record.specs.Layout.{byte, most_events}
use Rattle.record.specs.Terms.{Held, value, value_or0, Terms}
use Rattle.record.proofs.StoresLaws.{Bytes}
use Rattle.store.specs.Store.{upd, Cell, untouched, full, cell_value, Event, Store, fresh}
use Rattle.store.specs.Calls.{Call, put, get, deliver, close, malformed, call_at, calls_from, calls_of}
use Rattle.store.specs.Rules.{refusal, made, close_copies, effect, after_call, run}
use Rattle.store.proofs.UpdateLaws.{upd_elim, lt_suc_elim}
use Rattle.store.proofs.Invariant.{HoldsLast, ShowsLast, shows_opening, shows_put, StoreInv}
use Rattle.store.proofs.RunKeeps.{put_doable, get_doable, step_elim, copies-keep, every-run}

-- ---- every event

-- what the events have, and a new one, all have then
one_more : (P : Event → Type 0) (st : Store) (x : Event) → ((e : ℕ) → e < st.count → P (st.event e)) → P x
    → (e : ℕ) → e < suc st.count → P (upd st.event st.count x e)
one_more P st x h p e l =
    upd_elim P st.event st.count x e (λ q. p) (λ q. lt_suc_elim e st.count l (λ r. h e r) (λ r. absurd (q r)))

-- what questions 33 and 34 see to
pub record Limits (st : Store) : Type 0 where
  pub count : st.count ≤ most_events
  pub object : (e : ℕ) → e < st.count → (st.event e).object ≤ 31

effect_limits : (n : ℕ) (st : Store) → Limits st → (c : Call) → refusal n st c ≡ 0 → Limits (effect n st c)
unfolding effect
effect_limits n st h (put s o v) r =
    let d = put_doable n st s o v r in
    record { count = d.room; object = one_more (λ (x : Event). x.object ≤ 31) st (made st s true o (value v)) h.object d.object }
effect_limits n st h (get s o) r =
    let d = get_doable n st s o r in
    record {
      count = d.room;
      object =
          one_more (λ (x : Event). x.object ≤ 31) st (made st s false o (cell_value ((st.site s).cell o))) h.object d.object;
    }
effect_limits n st h (deliver w t) r = record { count = h.count; object = h.object }
effect_limits n st h close r = copies-keep n Limits (λ x w t r k. record { count = k.count; object = k.object }) (close_copies n st) st h
effect_limits n st h malformed r = h

run_limits : (n : ℕ) (st : Store) (cs : List Call) → Limits st → Limits (run n st cs)
unfolding run
run_limits n st [] h = h
run_limits n st (c ∷ cs) h = run_limits n (after_call n st c) cs (step_elim n st c Limits (λ r. effect_limits n st h c r) h)

pub every_limits : (n : ℕ) (T : Terms) (cs : List Call) → Limits (run n (fresh T) cs)
every_limits n T cs = run_limits n (fresh T) cs (record { count = omega arith; object = λ e l. absurd (omega arith) })

-- a stamp is a clock raised by 1
abbrev Stamped : Store → Type 0
Stamped st = (e : ℕ) → e < st.count → 1 ≤ (st.event e).stamp

effect_stamped : (n : ℕ) (st : Store) → Stamped st → (c : Call) → Stamped (effect n st c)
unfolding effect
effect_stamped n st h (put s o v) = one_more (λ (x : Event). 1 ≤ x.stamp) st (made st s true o (value v)) h (omega arith)
effect_stamped n st h (get s o) = one_more (λ (x : Event). 1 ≤ x.stamp) st (made st s false o (cell_value ((st.site s).cell o))) h (omega arith)
effect_stamped n st h (deliver w t) = h
effect_stamped n st h close = copies-keep n Stamped (λ x w t r k. k) (close_copies n st) st h
effect_stamped n st h malformed = h

run_stamped : (n : ℕ) (st : Store) (cs : List Call) → Stamped st → Stamped (run n st cs)
unfolding run
run_stamped n st [] h = h
run_stamped n st (c ∷ cs) h = run_stamped n (after_call n st c) cs (step_elim n st c Stamped (λ r. effect_stamped n st h c) h)

pub every_stamped : (n : ℕ) (T : Terms) (cs : List Call) → (e : ℕ) → e < (run n (fresh T) cs).count → 1 ≤ ((run n (fresh T) cs).event e).stamp
every_stamped n T cs = run_stamped n (fresh T) cs (λ e l. absurd (omega arith))

-- ---- numbers that count events

abbrev pub cell_stamp : Cell → ℕ
cell_stamp (untouched x) = 0
cell_stamp (full v stamp site) = stamp

abbrev pub cell_site : Cell → ℕ
cell_site (untouched x) = 0
cell_site (full v stamp site) = site

pub record Sizes (st : Store) : Type 0 where
  pub stamp : (e : ℕ) → e < st.count → (st.event e).stamp ≤ st.count
  pub needs : (e i : ℕ) → e < st.count → (st.event e).needs i ≤ st.count
  pub clock : (s : ℕ) → (st.site s).clock ≤ st.count
  pub held : (s i : ℕ) → (st.site s).held i ≤ st.count
  pub cell_stamp : (s o : ℕ) → cell_stamp ((st.site s).cell o) ≤ st.count
  pub cell_site : (s o : ℕ) → cell_site ((st.site s).cell o) < 8

module _ (n : ℕ) (n≤8 : n ≤ 8) {T : Terms} (st : Store) (ok : StoreInv n T st.event st) where
  cell_sizes : (s o : ℕ) (c : Cell) → HoldsLast T st.event (st.site s).known o c → (cell_stamp c ≤ st.count) × (cell_site c < 8)
  cell_sizes s o (untouched x) h = (omega arith, omega arith)
  cell_sizes s o (full v stamp site) h =
      let l = (ok.sites s).below h.0 h.1.seen in
      (omega (arith, (ok.events h.0 l).stamp, h.3), omega (arith, (ok.events h.0 l).site, h.4))

  pub sizes : Sizes st
  sizes = record {
    stamp = λ e l. omega (arith, (ok.events e l).stamp);
    needs = λ e i l. omega (arith, (ok.events e l).needs_made i, ok.few i);
    clock = λ s. (ok.sites s).clock_few;
    held = λ s i. omega (arith, (ok.sites s).held_made i, ok.few i);
    cell_stamp = λ s o. (cell_sizes s o ((st.site s).cell o) ((ok.sites s).cell o)).0;
    cell_site = λ s o. (cell_sizes s o ((st.site s).cell o) ((ok.sites s).cell o)).1;
  }

pub every_sizes : (n : ℕ) → n ≤ 8 → (T : Terms) (cs : List Call) → Sizes (run n (fresh T) cs)
every_sizes n n≤8 T cs = sizes n n≤8 (run n (fresh T) cs) (every-run n n≤8 T cs)

-- ---- values

-- a put's value has 32 bits
abbrev pub Fits : Call → Type 0
Fits (put s o v) = v < 2 ^ 32
Fits (get s o) = Unit {0}
Fits (deliver w t) = Unit {0}
Fits close = Unit {0}
Fits malformed = Unit {0}

abbrev pub AllFit : List Call → Type 0
AllFit [] = Unit {0}
AllFit (c ∷ cs) = Fits c × AllFit cs

-- and then so have the values of the puts done
abbrev Wrote : Event → Type 0
Wrote e = e.is_put ≡ true → value_or0 e.shown < 2 ^ 32

abbrev Written : Store → Type 0
Written st = (e : ℕ) → e < st.count → Wrote (st.event e)

effect-written : (n : ℕ) (st : Store) (c : Call) → Fits c → Written st → Written (effect n st c)
unfolding effect
effect-written n st (put s o v) f h = one_more Wrote st (made st s true o (value v)) h (λ q. f)
effect-written n st (get s o) f h =
    one_more Wrote st (made st s false o (cell_value ((st.site s).cell o))) h (λ q. absurd (false≢true q))
effect-written n st (deliver w t) f h = h
effect-written n st close f h = copies-keep n Written (λ x w t r k. k) (close_copies n st) st h
effect-written n st malformed f h = h

run-written : (n : ℕ) (st : Store) (cs : List Call) → AllFit cs → Written st → Written (run n st cs)
unfolding run
run-written n st [] f h = h
run-written n st (c ∷ cs) f h =
    run-written n (after_call n st c) cs f.1 (step_elim n st c Written (λ r. effect-written n st c f.0 h) h)

-- gets and cells have values of puts, or opening figures
pub record Values (st : Store) : Type 0 where
  pub event : (e : ℕ) → e < st.count → value_or0 (st.event e).shown < 2 ^ 32
  pub cell : (s o : ℕ) → value_or0 (cell_value ((st.site s).cell o)) < 2 ^ 32

module _ (n : ℕ) (T : Terms) (opens : (o : ℕ) → value_or0 (T.opening o) < 2 ^ 32) (st : Store) (ok : StoreInv n T st.event st) (written : Written st) where
  put-value : (p : ℕ) (x : Held) → p < st.count → (st.event p).is_put ≡ true → (st.event p).shown ≡ x → value_or0 x < 2 ^ 32
  put-value p x l i q = rw q at (written p l i)

  found-value : (e : ℕ) → e < st.count → (x : Held) → ShowsLast T st.event (st.event e).sees (st.event e).object x → value_or0 x < 2 ^ 32
  found-value e l x (shows_opening no-put is) = rw is at (opens (st.event e).object)
  found-value e l x (shows_put {p} last is) = put-value p x (omega (arith, (ok.events e l).earlier p last.seen)) last.is_put is

  cell_value_lem : (s o : ℕ) (c : Cell) → HoldsLast T st.event (st.site s).known o c → value_or0 (cell_value c) < 2 ^ 32
  cell_value_lem s o (untouched x) h = rw h.1 at (opens o)
  cell_value_lem s o (full v stamp site) h = put-value h.0 (value v) ((ok.sites s).below h.0 h.1.seen) h.1.is_put h.2

  values : Values st
  values = record {
    event = λ e l.
        split (st.event e).is_put (λ i. written e l i)
        (λ i. found-value e l (st.event e).shown ((ok.events e l).found i));
    cell = λ s o. cell_value_lem s o ((st.site s).cell o) ((ok.sites s).cell o);
  }

pub every_values : (n : ℕ) → n ≤ 8 → (T : Terms) → ((o : ℕ) → value_or0 (T.opening o) < 2 ^ 32) → (cs : List Call) → AllFit cs → Values (run n (fresh T) cs)
every_values n n≤8 T opens cs f =
    values n T opens (run n (fresh T) cs) (every-run n n≤8 T cs) (run-written n (fresh T) cs f (λ e l. absurd (omega arith)))

-- ---- the calls of a script

cond-fits : (t : Bool) (a b : Call) → Fits a → Fits b → Fits (cond t a b)
cond-fits true a b f g = f
cond-fits false a b f g = g

pub call_fits : (s : List ℕ) → Bytes s → (at : ℕ) → Fits (call_at s at)
unfolding call_at
call_fits s h at =
    let a : Call = put (byte s (at + 1)) (byte s (at + 2)) (little 4 s (at + 4)) in
    let b : Call = get (byte s (at + 1)) (byte s (at + 2)) in
    let c : Call = deliver (little 2 s (at + 4)) (byte s (at + 1)) in
    let t = eqb (byte s at) 2 && eqb (little 4 s (at + 4)) 0 in
    let u = eqb (byte s at) 3 && (eqb (byte s (at + 2)) 0 && eqb (little 2 s (at + 6)) 0) in
    let v = eqb (byte s at) 4 && (eqb (byte s (at + 1)) 0 && (eqb (byte s (at + 2)) 0 && eqb (little 4 s (at + 4)) 0)) in
    cond-fits (eqb (byte s (at + 3)) 0) (cond (eqb (byte s at) 1) a (cond t b (cond u c (cond v close malformed)))) malformed
    (cond-fits (eqb (byte s at) 1) a (cond t b (cond u c (cond v close malformed))) (omega (arith, little_lt s h 4 (at + 4)))
    (cond-fits t b (cond u c (cond v close malformed)) tt (cond-fits u c (cond v close malformed) tt (cond-fits v close malformed tt tt))))
    tt

pub calls_from_fit : (s : List ℕ) → Bytes s → (k at : ℕ) → AllFit (calls_from k s at)
unfolding calls_from
calls_from_fit s h zero at = tt
calls_from_fit s h (suc k) at = (call_fits s h at, calls_from_fit s h k (at + 8))

pub calls_fit : (s : List ℕ) → Bytes s → AllFit (calls_of s)
unfolding calls_of
calls_fit s h = calls_from_fit s h (length s / 8) 0
