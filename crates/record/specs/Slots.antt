-- Question 7: each slot as laid out.
use Rattle.std.specs.Prelude.{Bool, not, cond, ◌&&◌, ◌||◌, List, ℕ, ◌+◌, ◌*◌, ◌-◌, ◌%◌, eqb, ltb, leb}
use Rattle.rows.specs.Octets.{little}
use Rattle.record.specs.Layout.{Layout, byte, count_in, sites_in, slot_at, tail_at, zeros}

-- The slot that starts at `at`, its position and visible set aside.

-- 0 kind; 1 site, below the site count; 3 state
unfoldable pub place_right : List ℕ → ℕ → Bool
place_right s at = leb (byte s at) 1 && (ltb (byte s (at + 1)) (sites_in s) && leb (byte s (at + 3)) 1)

-- 8 is 1 where a value is present, else 0 with value 0; a write has a value, a pending read has none
unfoldable pub value_right : List ℕ → ℕ → Bool
value_right s at =
    cond (eqb (byte s (at + 8)) 0)
    (eqb (little 4 s (at + 4)) 0 && eqb (byte s at) 0)
    (eqb (byte s (at + 8)) 1 && (eqb (byte s at) 1 || eqb (byte s (at + 3)) 0))

-- 24–31 return, not below start, but 0 if pending
unfoldable pub times_right : List ℕ → ℕ → Bool
times_right s at =
    cond (eqb (byte s (at + 3)) 1)
    (eqb (little 8 s (at + 24)) 0)
    (leb (little 8 s (at + 16)) (little 8 s (at + 24)))

-- 9 and 12–15 zero
unfoldable pub gaps_right : List ℕ → ℕ → Bool
gaps_right s at = eqb (byte s (at + 9)) 0 && zeros 4 s (at + 12)

unfoldable pub event_right : List ℕ → ℕ → Bool
event_right s at = place_right s at && (value_right s at && (times_right s at && gaps_right s at))

-- the bytes after a block's slots count to its last slot
unfoldable pub tail_right : Layout → List ℕ → ℕ → Bool
tail_right L s e = not (eqb (e % L.per_block) (L.per_block - 1)) || zeros (508 - L.slot * L.per_block) s (tail_at L e)

-- slot e: an event below n, from n on every byte zero
unfoldable pub slot_right : Layout → List ℕ → ℕ → Bool
slot_right L s e = cond (ltb e (count_in s)) (event_right s (slot_at L e)) (zeros L.slot s (slot_at L e)) && tail_right L s e
