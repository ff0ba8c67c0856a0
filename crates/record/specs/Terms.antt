-- Terms: what block 0 says beside the event count and the sites, by which events are judged. What an edition lacks is 0 or none.
use Rattle.std.specs.Prelude.{◌≡◌, Bool, true, false, not, cond, ◌&&◌, List, ℕ, ◌+◌, ◌*◌, eqb, ltb}
use Rattle.rows.specs.Lowest.{some}
use Rattle.rows.specs.Octets.{little, has_byte}
use Rattle.record.specs.Layout.{Layout}

-- a value, or none
pub data Held : Type 0 where
  none : Held
  value : ℕ → Held

abbrev pub is_value : Held → Bool
is_value none = false
is_value (value v) = true

abbrev pub value_or0 : Held → ℕ
value_or0 none = 0
value_or0 (value v) = v

pub record Terms : Type 0 where
  -- the milliseconds by which the sites' clocks may differ
  pub difference : ℕ
  -- an object's opening figure, or none
  pub opening : ℕ → Held

-- nothing is said
abbrev pub bare : Terms
bare = record { difference = 0; opening = λ o. none }

-- ---- openings as 132 bytes, from `at` on: bit o of the first four is set where object o, 0 to 31, has one, and its value is in the four from 4 + 4 × o on

unfoldable pub opening_in : List ℕ → ℕ → ℕ → Held
opening_in s at o = cond (ltb o 32 && has_byte s at o) (value (little 4 s (at + 4 + 4 * o))) none

-- a value under a clear bit
abbrev pub stray : List ℕ → ℕ → ℕ → Bool
stray s at o = not (has_byte s at o) && not (eqb (little 4 s (at + 4 + 4 * o)) 0)

unfoldable pub openings_right : List ℕ → ℕ → Bool
openings_right s at = not (some 32 (stray s at))

-- ---- in a record: an edition with terms has the difference in bytes 8 to 11, and openings from byte 12 on

abbrev pub difference_in : Layout → List ℕ → ℕ
difference_in L s = cond L.terms (little 4 s 8) 0

abbrev pub terms_in : Layout → List ℕ → Terms
terms_in L s = record { difference = difference_in L s; opening = λ o. cond L.terms (opening_in s 12 o) none }

-- the same is said
pub record SameTerms (t u : Terms) : Type 0 where
  pub difference : t.difference ≡ u.difference
  pub opening : (o : ℕ) → t.opening o ≡ u.opening o
