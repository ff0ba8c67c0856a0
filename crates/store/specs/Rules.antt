-- The store's rules: what refuses a call, what a call does that is not refused, and its answer; then a whole list of calls.
use Rattle.std.specs.Prelude.{Bool, true, false, not, cond, ◌&&◌, ◌||◌, List, [], ◌∷◌, ◌++◌, ℕ, zero, suc, ◌+◌, max, leb, ltb, eqb, replicate}
use Rattle.record.specs.Layout.{most_events}
use Rattle.record.specs.Questions.{ask}
use Rattle.record.specs.Encode.{bit, little_bytes}
use Rattle.record.specs.Terms.{Held, none, value, value_or0}
use Rattle.store.specs.Store.{upd, full, cell_value, merge, Site, Event, Store}
use Rattle.store.specs.Calls.{Call, put, get, deliver, close, malformed}

-- the first k counts reach the needs
unfoldable pub reached : ℕ → (ℕ → ℕ) → (ℕ → ℕ) → Bool
reached zero needs held = true
reached (suc k) needs held = reached k needs held && leb (needs k) (held k)

-- 0, or the number that refuses a call at n sites. There are eight counts; those of sites that aren't there stay 0
unfoldable pub refusal : ℕ → Store → Call → ℕ
refusal n st (put s o v) = ask (ltb s n) 32 (ask (leb o 31) 33 (ask (ltb st.count most_events) 34 0))
refusal n st (get s o) = ask (ltb s n) 32 (ask (leb o 31) 33 (ask (ltb st.count most_events) 34 0))
refusal n st (deliver w t) =
    ask (ltb t n) 32
    (ask (ltb w st.count && (st.event w).is_put) 33
    (ask (not ((st.site t).known w)) 35
    (ask (reached 8 (st.event w).needs (st.site t).held) 36 0)))
refusal n st close = 0
refusal n st malformed = 31

-- the event that a put or a get at s becomes: its stamp is the clock raised by 1, vis is the known set
abbrev pub made : Store → ℕ → Bool → ℕ → Held → Event
made st s is_put o shown = record {
  site = s;
  is_put = is_put;
  object = o;
  shown = shown;
  stamp = suc (st.site s).clock;
  sees = (st.site s).known;
  needs = (st.site s).held;
}

-- site s, kept as a, after its put of v on o, which became event k
abbrev pub after_put : Site → ℕ → ℕ → ℕ → ℕ → Site
after_put a s k o v = record {
  clock = suc a.clock;
  held = upd a.held s (suc (a.held s));
  known = upd a.known k true;
  cell = upd a.cell o (full v (suc a.clock) s);
}

-- a site, kept as a, after its get, which became event k
abbrev pub after_get : Site → ℕ → Site
after_get a k = record { clock = suc a.clock; held = a.held; known = upd a.known k true; cell = a.cell }

-- a site, kept as a, after the delivery of the put w, whose event is e
abbrev pub after_delivery : Site → ℕ → Event → Site
after_delivery a w e = record {
  clock = max a.clock e.stamp;
  held = upd a.held e.site (suc (a.held e.site));
  known = λ x. eqb x w || (e.sees x || a.known x);
  cell = upd a.cell e.object (merge (a.cell e.object) (value_or0 e.shown) e.stamp e.site);
}

-- the put w comes to site t
abbrev pub with_copy : Store → ℕ → ℕ → Store
with_copy st w t = record {
  count = st.count;
  event = st.event;
  site = upd st.site t (after_delivery (st.site t) w (st.event w));
}

-- ---- close of trading: the deliveries of all copies, each by a delivery's own questions, so that one with nothing to deliver changes nothing

-- a copy of an event, for a site
pub record Copy : Type 0 where
  pub event : ℕ
  pub site : ℕ

-- the copies of event w for the first k sites, in rising order
unfoldable pub copies_of : ℕ → ℕ → List Copy
copies_of w zero = []
copies_of w (suc t) = copies_of w t ++ (record { event = w; site = t } ∷ [])

-- the copies of the first k events, by event number, for n sites
unfoldable pub all_copies : ℕ → ℕ → List Copy
all_copies n zero = []
all_copies n (suc w) = all_copies n w ++ copies_of w n

-- what refuses the delivery of a copy, or 0
abbrev pub copy_refusal : ℕ → Store → Copy → ℕ
copy_refusal n st c = refusal n st (deliver c.event c.site)

unfoldable pub after_copy : ℕ → Store → Copy → Store
after_copy n st c = cond (eqb (copy_refusal n st c) 0) (with_copy st c.event c.site) st

unfoldable pub after_copies : ℕ → Store → List Copy → Store
after_copies n st [] = st
after_copies n st (c ∷ cs) = after_copies n (after_copy n st c) cs

-- how many of these copies are delivered
unfoldable pub copied : ℕ → Store → List Copy → ℕ
copied n st [] = 0
copied n st (c ∷ cs) = bit (eqb (copy_refusal n st c) 0) + copied n (after_copy n st c) cs

-- the copies of a close at n sites
abbrev pub close_copies : ℕ → Store → List Copy
close_copies n st = all_copies n st.count

-- ---- calls

-- what a call does at n sites that is not refused
unfoldable pub effect : ℕ → Store → Call → Store
effect n st (put s o v) = record {
  count = suc st.count;
  event = upd st.event st.count (made st s true o (value v));
  site = upd st.site s (after_put (st.site s) s st.count o v);
}
effect n st (get s o) = record {
  count = suc st.count;
  event = upd st.event st.count (made st s false o (cell_value ((st.site s).cell o)));
  site = upd st.site s (after_get (st.site s) st.count);
}
effect n st (deliver w t) = with_copy st w t
effect n st close = after_copies n st (close_copies n st)
effect n st malformed = st

-- a refused call changes nothing
unfoldable pub after_call : ℕ → Store → Call → Store
after_call n st c = cond (eqb (refusal n st c) 0) (effect n st c) st

unfoldable pub run : ℕ → Store → List Call → Store
run n st [] = st
run n st (c ∷ cs) = run n (after_call n st c) cs

-- ---- what a list of calls comes to

-- a call's kind, and 0 of a malformed one
abbrev pub kind_of : Call → ℕ
kind_of (put s o v) = 1
kind_of (get s o) = 2
kind_of (deliver w t) = 3
kind_of close = 4
kind_of malformed = 0

-- 1 for a done call of a kind: one that no question refused
abbrev pub done : ℕ → ℕ → Store → Call → ℕ
done kind n st c = bit (eqb (kind_of c) kind && eqb (refusal n st c) 0)

-- the copies that a call delivers as a close
abbrev pub closed : ℕ → Store → Call → ℕ
closed n st c = cond (eqb (kind_of c) 4) (copied n st (close_copies n st)) 0

-- a number of each call, added up over the list
unfoldable pub total : (ℕ → Store → Call → ℕ) → ℕ → Store → List Call → ℕ
total f n st [] = 0
total f n st (c ∷ cs) = f n st c + total f n (after_call n st c) cs

-- done deliveries
abbrev pub deliveries : ℕ → Store → List Call → ℕ
deliveries = total (done 3)

-- copies delivered by closes
abbrev pub copies_by_closes : ℕ → Store → List Call → ℕ
copies_by_closes = total closed

-- ---- answers

abbrev pub is_found : Held → ℕ
is_found none = 0
is_found (value v) = 1

-- 0; 1 where a get found a value, and of every close; the event (16 bits); a get's value, or the copies that a close delivered; unused parts 0
unfoldable pub done_answer : ℕ → Store → Call → List ℕ
done_answer n st (put s o v) = 0 ∷ 0 ∷ (little_bytes 2 st.count ++ replicate 4 0)
done_answer n st (get s o) =
    0 ∷ is_found (cell_value ((st.site s).cell o)) ∷ (little_bytes 2 st.count ++ little_bytes 4 (value_or0 (cell_value ((st.site s).cell o))))
done_answer n st (deliver w t) = replicate 8 0
done_answer n st close = 0 ∷ 1 ∷ (replicate 2 0 ++ little_bytes 4 (copied n st (close_copies n st)))
done_answer n st malformed = replicate 8 0

unfoldable pub answer : ℕ → Store → Call → List ℕ
answer n st c = cond (eqb (refusal n st c) 0) (done_answer n st c) (refusal n st c ∷ replicate 7 0)

unfoldable pub answers : ℕ → Store → List Call → List ℕ
answers n st [] = []
answers n st (c ∷ cs) = answer n st c ++ answers n (after_call n st c) cs
