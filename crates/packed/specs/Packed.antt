-- The numbers that hosts are given, and what a host reads in one.
use Rattle.std.specs.Prelude.{ℕ, zero, suc, ◌+◌, ◌*◌, ◌/◌, ◌%◌}

-- the parts of a number are below `places`; the numbers of breaks are from `broken_from` on, those of refusals from `refused_from` on
abbrev pub places : ℕ
places = 1024

abbrev pub broken_from : ℕ
broken_from = 1048576

abbrev pub refused_from : ℕ
refused_from = 2097152

-- broken at the pair (a, b)
abbrev pub packed_break : ℕ → ℕ → ℕ
packed_break a b = broken_from + places * a + b

-- refused by a question's number, at a place
abbrev pub packed_refusal : ℕ → ℕ → ℕ
packed_refusal number place = refused_from + places * number + place

-- what a host is told: met; broken, at a pair; or refused, by a question's number and at a place
pub data Told : Type 0 where
  met : Told
  broken : (a b : ℕ) → Told
  refused : (number place : ℕ) → Told

-- what a host reads in a number, by its kind and two parts
abbrev pub by_kind : ℕ → ℕ → ℕ → Told
by_kind zero x y = met
by_kind (suc zero) x y = broken x y
by_kind (suc (suc k)) x y = refused x y

abbrev pub unpacked : ℕ → Told
unpacked n = by_kind (n / broken_from) (n / places % places) (n % places)
