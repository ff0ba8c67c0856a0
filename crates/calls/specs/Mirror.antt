-- What the structs and the words of the code stand for in the store. Only contracts of inner functions cite this.
use Rattle.std.specs.Prelude.{◌≡◌, Bool, not, cond, List, ℕ, suc, ◌+◌, ◌/◌, ◌%◌, ◌^◌, eqb, get_or, ⊤, Option, Some, None, Result, Ok, Err}
use Rattle.record.specs.Terms.{Held, none, value}
use Rattle.store.specs.Store.{upd, Cell, untouched, full}
use Rattle.store.specs.Calls.{Call, put, get, deliver, close, malformed}
use Rattle.calls.specs.declared.refuse.Refusal.{Refusal}
use Rattle.calls.specs.declared.refuse.Refusal.TheVariants.{IllFormed, NoSuchSite, NoSuchObject, NoSuchPut, Full, AlreadyKnown, NeedsUnmet}
use Rattle.calls.specs.declared.script.Call as script
use Rattle.calls.specs.declared.script.Call.TheVariants.{Put, Get, Deliver, Close, Malformed}

-- a call as it was decoded
abbrev pub call_of : script.Call → Call
call_of (Put site object v) = put site object v
call_of (Get site object) = get site object
call_of (Deliver event site) = deliver event site
call_of Close = close
call_of Malformed = malformed

-- the number of a refusal, and 0 where nothing refuses
abbrev pub refused_number : Refusal → ℕ
refused_number IllFormed = 31
refused_number NoSuchSite = 32
refused_number NoSuchObject = 33
refused_number NoSuchPut = 33
refused_number Full = 34
refused_number AlreadyKnown = 35
refused_number NeedsUnmet = 36

abbrev pub number_in : Result ⊤ Refusal → ℕ
number_in (Ok u) = 0
number_in (Err r) = refused_number r

-- a value, where there is one
abbrev pub held_of : Option ℕ → Held
held_of None = none
held_of (Some v) = value v

-- a value, where one is present
abbrev pub shown_of : Bool → ℕ → Held
shown_of present v = cond present (value v) none

-- ---- words. From the lowest bit a word has 32 of a value, one for whether there is a value, 7 of an object, 3 of a site, and then a stamp: of two puts the
-- later has the larger word

abbrev pub word_value : ℕ → ℕ
word_value x = x % 2 ^ 32

abbrev pub word_present : ℕ → Bool
word_present x = eqb (x / 2 ^ 32 % 2) 1

abbrev pub word_object : ℕ → ℕ
word_object x = x / 2 ^ 33 % 128

abbrev pub word_site : ℕ → ℕ
word_site x = x / 2 ^ 40 % 8

abbrev pub word_stamp : ℕ → ℕ
word_stamp x = x / 2 ^ 43

-- stamp and site as one number
abbrev pub word_order : ℕ → ℕ
word_order x = x / 2 ^ 40

abbrev pub word_shown : ℕ → Held
word_shown x = shown_of (word_present x) (word_value x)

-- a value with its bit above it, or 0
abbrev pub shown_bits : Option ℕ → ℕ
shown_bits None = 0
shown_bits (Some v) = 2 ^ 32 + v

-- a cell is a put's word. Until a put comes its stamp is 0, and it is 0 where there is no opening
abbrev pub cell_of : ℕ → Cell
cell_of x = cond (eqb (word_stamp x) 0) (untouched (shown_of (not (eqb x 0)) (word_value x))) (full (word_value x) (word_stamp x) (word_site x))

-- ---- sites

-- the counts with one more held of site s
abbrev pub OneMore : List ℕ → List ℕ → ℕ → Type 0
OneMore counts all s = (λ (i : ℕ). get_or all i 0) ≡ upd (λ (i : ℕ). get_or counts i 0) s (suc (get_or counts s 0))
