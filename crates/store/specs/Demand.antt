-- The third demand, in one place: what a rehearsal promises of its result and of both buffers, for every input.
use Rattle.std.specs.Prelude.{◌≡◌, ◌↔◌, true, List, ◌∷◌, ◌++◌, ℕ, ◌+◌, ◌*◌, ◌<◌, take, drop}
use Rattle.rows.specs.Relation.{Steps}
use Rattle.record.specs.Layout.{store_layout, edition_of, byte, count_in}
use Rattle.record.specs.History.{history_of, vis}
use Rattle.record.specs.Questions.{on_ring}
use Rattle.record.specs.Answers.{Passes}
use Rattle.consistency.specs.Relations.{hb, Chain}
use Rattle.consistency.specs.Holds.{Holds}
use Rattle.consistency.specs.declared.Predicate.TheVariants.{RVal, CausalVisibility, CausalArbitration}
use Rattle.store.specs.Store.{fresh}
use Rattle.store.specs.Calls.{Call, close, calls_of}
use Rattle.store.specs.Rules.{run, answer}
use Rattle.store.specs.Close.{close_answer, Closes}
use Rattle.store.specs.Outstanding.{AddsUp, ToldAddsUp}
use Rattle.store.specs.Rehearsal.{InNumbers, rehearsal_refusal, terms_of, store_before, call_count, call_in, answer_in, record_of, record_after, answers_after, length_after, outstanding_after}

-- a record passes every check, and is causal: predicates 10, 11 and 1 hold of it. hb, of which 10 and 11 speak, is one or more steps, each so or vis; and
-- an event is on a ring, of which question 10 speaks, where one or more steps of vis lead from it to itself
pub record CausalRecord (s : List ℕ) : Type 0 where
  pub passes : Passes (edition_of s) s
  pub visibility : Holds CausalVisibility (history_of (edition_of s) s)
  pub arbitration : Holds CausalArbitration (history_of (edition_of s) s)
  pub r_val : Holds RVal (history_of (edition_of s) s)
  pub chains : (a b : ℕ) → (hb (history_of (edition_of s) s) a b ≡ true) ↔ Chain (history_of (edition_of s) s) a b
  pub rings : (e : ℕ) → (on_ring (count_in s) (vis (history_of (edition_of s) s)) e ≡ true) ↔ Steps (count_in s) (vis (history_of (edition_of s) s)) e e

-- n sites, openings, a script, and the record and answer buffers, as lent and as left. The record is of the edition that a store writes, says that clocks don't differ, and has the openings as they were lent. Each close in the script's list finds the store of the calls before it.
-- The copies outstanding are told exactly, and add up with those that came, by the store's rules and by the answers as left
pub record Rehearses (n : ℕ) (openings script rec ans rec' ans' : List ℕ) (r : InNumbers) : Type 0 where
  pub number : r.number ≡ rehearsal_refusal n openings script rec ans
  pub length : r.length ≡ length_after n openings script rec ans
  pub recorded : rec' ≡ record_after n openings script rec ans
  pub answered : ans' ≡ answers_after n openings script rec ans
  pub copies : r.outstanding ≡ outstanding_after n openings script rec ans
  -- a refusal changes neither buffer
  pub kept : (r.number ≡ 0 → ⊥) → (rec' ≡ rec) × (ans' ≡ ans)
  -- the record is the first bytes of its buffer as left, as many as the result's length; those beyond it stay
  pub front : r.number ≡ 0 → take r.length rec' ≡ record_of n openings script
  pub beyond : drop r.length rec' ≡ drop r.length rec
  pub edition : r.number ≡ 0 → edition_of (record_of n openings script) ≡ store_layout
  pub clocks : r.number ≡ 0 → (j : ℕ) → j < 4 → byte (record_of n openings script) (8 + j) ≡ 0
  pub opened : r.number ≡ 0 → (j : ℕ) → j < 132 → byte (record_of n openings script) (12 + j) ≡ byte openings j
  pub causal : r.number ≡ 0 → CausalRecord (record_of n openings script)
  -- bytes 8k to 8k + 7 of the answer buffer as left are the answer of call k, by the store of the calls before it; those beyond the answers stay
  pub each_answer : r.number ≡ 0 → (k : ℕ) → k < call_count script → answer_in ans' k ≡ answer n (store_before n openings script k) (call_in script k)
  pub beyond_answers : r.number ≡ 0 → drop (8 * call_count script) ans' ≡ drop (8 * call_count script) ans
  -- each close, by the calls before it; and by its place in the list, with its eight bytes
  pub closes : r.number ≡ 0 → (before after : List Call) → calls_of script ≡ before ++ (close ∷ after) → Closes n (run n (fresh (terms_of openings)) before)
  pub closes_at : r.number ≡ 0 → (k : ℕ) → k < call_count script → call_in script k ≡ close
      → Closes n (store_before n openings script k) × (answer_in ans' k ≡ close_answer n (store_before n openings script k))
  pub adds_up : r.number ≡ 0 → AddsUp n (terms_of openings) (calls_of script) r.outstanding
  pub told_adds_up : r.number ≡ 0 → ToldAddsUp n script ans' r.outstanding
