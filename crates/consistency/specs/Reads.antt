-- Predicate 1, RVal: what a read holds, and what it should hold.
use Rattle.std.specs.Prelude.{Bool, true, false, not, cond, ◌&&◌, ℕ, zero, suc, eqb, Option, Some, None}
use Rattle.rows.specs.Relation.{Rel}
use Rattle.record.specs.Terms.{Held, none, value}
use Rattle.record.specs.History.{History, vis}
use Rattle.consistency.specs.Relations.{ob, ar, write, read}

-- w is a write on e's object that is visible to e
unfoldable pub candidate : History → ℕ → ℕ → Bool
candidate h e w = vis h w e && (write h w && ob h w e)

-- a last write, if there is any
abbrev pub Last : Type 0
Last = Option ℕ

-- of the last write so far and w, the later in ar
abbrev pub later : History → Last → ℕ → Last
later h None w = Some w
later h (Some v) w = cond (ar h v w) (Some w) (Some v)

-- the last in ar of the candidates below k
unfoldable pub last_below : History → ℕ → ℕ → Last
last_below h e zero = None
last_below h e (suc k) = cond (candidate h e k) (later h (last_below h e k) k) (last_below h e k)

unfoldable pub last_write : History → ℕ → Last
last_write h e = last_below h e h.count

abbrev pub same_held : Held → Held → Bool
same_held none none = true
same_held none (value y) = false
same_held (value x) none = false
same_held (value x) (value y) = eqb x y

abbrev pub held : History → ℕ → Held
held h e = cond (h.is_present e) (value (h.value e)) none

-- what read e should hold: the last write's value, or its object's opening figure where it sees none
abbrev pub left_by : History → ℕ → Last → Held
left_by h e None = h.terms.opening (h.object e)
left_by h e (Some w) = value (h.value w)

unfoldable pub expected : History → ℕ → Held
expected h e = left_by h e (last_write h e)

-- a returned read that holds something else
unfoldable pub wrong_read : History → ℕ → Bool
wrong_read h e = (read h e && not (h.is_pending e)) && not (same_held (held h e) (expected h e))

-- a break's second event: that last write, or the read itself
abbrev pub last_or : ℕ → Last → ℕ
last_or e None = e
last_or e (Some w) = w

unfoldable pub wrong : History → Rel
wrong h e w = wrong_read h e && eqb w (last_or e (last_write h e))
