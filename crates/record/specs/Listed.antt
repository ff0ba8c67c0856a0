-- Tiny histories, written event by event.
use Rattle.std.specs.Prelude.{Bool, true, false, ◌||◌, List, [], ◌∷◌, ℕ, eqb, length, get_or}
use Rattle.record.specs.History.{History}
use Rattle.record.specs.Terms.{Held, none, is_value, value_or0, bare}

pub data Kind : Type 0 where
  a_read : Kind
  a_write : Kind

pub data Time : Type 0 where
  returned : (start return : ℕ) → Time
  pending : (start : ℕ) → Time

pub record Noted : Type 0 where
  pub kind : Kind
  pub site : ℕ
  pub object : ℕ
  pub shown : Held
  pub position : ℕ
  pub time : Time
  pub sees : List ℕ

-- kind, site, object, value or none, ar position, times, visible events
abbrev pub event : Kind → ℕ → ℕ → Held → ℕ → Time → List ℕ → Noted
event k s o v p t l = record { kind = k; site = s; object = o; shown = v; position = p; time = t; sees = l }

abbrev pub is_writing : Kind → Bool
is_writing a_read = false
is_writing a_write = true

abbrev pub is_pending : Time → Bool
is_pending (returned s r) = false
is_pending (pending s) = true

abbrev pub start_of : Time → ℕ
start_of (returned s r) = s
start_of (pending s) = s

-- what a record has in the return's field: zeros where there is no return
abbrev pub return_of : Time → ℕ
return_of (returned s r) = r
return_of (pending s) = 0

unfoldable pub member : List ℕ → ℕ → Bool
member [] b = false
member (x ∷ l) b = eqb x b || member l b

abbrev pub nothing : Noted
nothing = event a_read 0 0 none 0 (returned 0 0) []

unfoldable pub history_of_events : List Noted → History
history_of_events es = record {
  count = length es;
  is_write = λ e. is_writing (get_or es e nothing).kind;
  site = λ e. (get_or es e nothing).site;
  object = λ e. (get_or es e nothing).object;
  is_pending = λ e. is_pending (get_or es e nothing).time;
  is_present = λ e. is_value (get_or es e nothing).shown;
  value = λ e. value_or0 (get_or es e nothing).shown;
  position = λ e. (get_or es e nothing).position;
  start = λ e. start_of (get_or es e nothing).time;
  return = λ e. return_of (get_or es e nothing).time;
  sees = λ e b. member (get_or es e nothing).sees b;
  terms = bare;
}
