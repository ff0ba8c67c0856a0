-- 'Events and relations': rb, ss, ob, so, ar and hb of a history (vis stands beside History), and relations made of others.
use Rattle.std.specs.Prelude.{Bool, false, not, cond, ◌&&◌, ◌||◌, ℕ, ◌+◌, ltb, eqb}
use Rattle.rows.specs.Lowest.{some}
use Rattle.rows.specs.Relation.{Rel, reaches, Steps}
use Rattle.record.specs.History.{History, vis}

-- ss, ob: same site; same object
unfoldable pub ss : History → Rel
ss h a b = eqb (h.site a) (h.site b)

unfoldable pub ob : History → Rel
ob h a b = eqb (h.object a) (h.object b)

-- rb, returns-before, the survey's a.rtime < b.stime, by cases: a pending event's rtime is Ω, which is no number, and two sites' clocks may differ
unfoldable pub rb : History → Rel
rb h a b =
    -- first event pending: it is before nothing
    cond (h.is_pending a) false
    -- same site: one clock
    (cond (ss h a b) (ltb (h.return a) (h.start b))
    -- other site: by more than the two clocks may differ
    (ltb (h.return a + h.terms.difference) (h.start b)))

-- so: rb and ss, which goes by one site's own clock
unfoldable pub so : History → Rel
so h a b = rb h a b && ss h a b

-- ar: arbitration, by position
unfoldable pub ar : History → Rel
ar h a b = ltb (h.position a) (h.position b)

-- hb: one or more steps, each so or vis
unfoldable pub step : History → Rel
step h a b = so h a b || vis h a b

unfoldable pub hb : History → Rel
hb h = reaches h.count (step h)

-- the same as an inductive relation
abbrev pub Chain : History → ℕ → ℕ → Type 0
Chain h = Steps h.count (step h)

abbrev pub write : History → ℕ → Bool
write h e = h.is_write e

abbrev pub read : History → ℕ → Bool
read h e = not (h.is_write e)

-- the pairs of q that begin, or end, in s
abbrev pub from : (ℕ → Bool) → Rel → Rel
from s q a b = s a && q a b

abbrev pub to : (ℕ → Bool) → Rel → Rel
to s q a b = s b && q a b

abbrev pub both : Rel → Rel → Rel
both q r a b = q a b && r a b

-- a q b and b r c, for an event b in s
unfoldable pub through : History → (ℕ → Bool) → Rel → Rel → Rel
through h s q r a c = some h.count (λ b. q a b && (s b && r b c))
