-- A rehearsal: 20 to 23 and 40, then the whole list of calls from fresh sites; its number, record, answers and copies outstanding.
use Rattle.std.specs.Prelude.{cond, ◌&&◌, List, ◌++◌, ℕ, ◌*◌, ◌/◌, ◌%◌, eqb, leb, length, take, drop, ⊤, Result, Ok, Err}
use Rattle.record.specs.Layout.{store_layout, longest_record}
use Rattle.record.specs.Terms.{Terms, opening_in, openings_right}
use Rattle.store.specs.Store.{Store, fresh}
use Rattle.store.specs.Calls.{Call, call_at, calls_from, calls_of}
use Rattle.record.specs.Questions.{ask}
use Rattle.store.specs.Rules.{run, answers}
use Rattle.store.specs.Recorded.{store_record}
use Rattle.store.specs.Outstanding.{outstanding}
use Rattle.store.specs.declared.Rehearsed.{Rehearsed}
use Rattle.store.specs.declared.Unrehearsed.{Unrehearsed}
use Rattle.store.specs.declared.Unrehearsed.TheVariants.{Sites, Script, ShortRecord, ShortAnswers, Openings}

-- what a rehearsal came to, in numbers: 0 or the number that refused it, the record's length, and the copies outstanding
pub record InNumbers : Type 0 where
  pub number : ℕ
  pub length : ℕ
  pub outstanding : ℕ

abbrev pub unrehearsed_number : Unrehearsed → ℕ
unrehearsed_number Sites = 20
unrehearsed_number Script = 21
unrehearsed_number ShortRecord = 22
unrehearsed_number ShortAnswers = 23
unrehearsed_number Openings = 40

-- 0 where nothing refuses
abbrev pub number_in : Result ⊤ Unrehearsed → ℕ
number_in (Ok u) = 0
number_in (Err u) = unrehearsed_number u

abbrev pub in_numbers : Result Rehearsed Unrehearsed → InNumbers
in_numbers (Ok r) = record { number = 0; length = r.length; outstanding = r.outstanding }
in_numbers (Err u) = record { number = unrehearsed_number u; length = 0; outstanding = 0 }

-- 20 sites, 21 script, 22 record buffer, 23 answer buffer, 40 openings; 0 where all are right
unfoldable pub rehearsal_refusal : ℕ → List ℕ → List ℕ → List ℕ → List ℕ → ℕ
rehearsal_refusal n openings script rec ans =
    ask (leb 1 n && leb n 8) 20
    (ask (eqb (length script % 8) 0 && leb (length script) 32768) 21
    (ask (leb longest_record (length rec)) 22
    (ask (leb (length script) (length ans)) 23
    (ask (eqb (length openings) 132 && openings_right openings 0) 40 0))))

-- the terms that a rehearsal starts from: one clock, and its 132 bytes of openings
abbrev pub terms_of : List ℕ → Terms
terms_of openings = record { difference = 0; opening = opening_in openings 0 }

-- the store after a script, at n fresh sites
unfoldable pub store_after : ℕ → List ℕ → List ℕ → Store
store_after n openings script = run n (fresh (terms_of openings)) (calls_of script)

-- the store that call k finds: after the calls before it
unfoldable pub store_before : ℕ → List ℕ → List ℕ → ℕ → Store
store_before n openings script k = run n (fresh (terms_of openings)) (calls_from k script 0)

-- the calls of a script, call k of it, and the eight bytes of its answer
abbrev pub call_count : List ℕ → ℕ
call_count script = length script / 8

abbrev pub call_in : List ℕ → ℕ → Call
call_in script k = call_at script (8 * k)

abbrev pub answer_in : List ℕ → ℕ → List ℕ
answer_in ans k = take 8 (drop (8 * k) ans)

-- its record, of the edition that a store writes, with the openings in block 0
unfoldable pub record_of : ℕ → List ℕ → List ℕ → List ℕ
record_of n openings script = store_record store_layout n (terms_of openings) (store_after n openings script)

-- both buffers beyond what is written stay; a refusal changes neither
unfoldable pub record_after : ℕ → List ℕ → List ℕ → List ℕ → List ℕ → List ℕ
record_after n openings script rec ans =
    cond (eqb (rehearsal_refusal n openings script rec ans) 0) (record_of n openings script ++ drop (length (record_of n openings script)) rec) rec

unfoldable pub answers_after : ℕ → List ℕ → List ℕ → List ℕ → List ℕ → List ℕ
answers_after n openings script rec ans =
    cond (eqb (rehearsal_refusal n openings script rec ans) 0) (answers n (fresh (terms_of openings)) (calls_of script) ++ drop (length script) ans) ans

unfoldable pub length_after : ℕ → List ℕ → List ℕ → List ℕ → List ℕ → ℕ
length_after n openings script rec ans = cond (eqb (rehearsal_refusal n openings script rec ans) 0) (length (record_of n openings script)) 0

-- the copies outstanding; 0 where the rehearsal was refused
unfoldable pub outstanding_after : ℕ → List ℕ → List ℕ → List ℕ → List ℕ → ℕ
outstanding_after n openings script rec ans = cond (eqb (rehearsal_refusal n openings script rec ans) 0) (outstanding n (store_after n openings script)) 0
