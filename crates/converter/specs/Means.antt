-- What a converting call's answer means, and what is to be shown of it (Change 9): what was written says the same and is judged the same, and moved back it is the
-- original.
use Rattle.std.specs.Prelude.{◌≡◌, true, false, List, ◌++◌, ℕ, ◌<◌, ◌≤◌, length, drop, Ok, Err}
use Rattle.record.specs.Layout.{byte, edition_of, sites_in}
use Rattle.record.specs.History.{history_of, Agree}
use Rattle.record.specs.Answers.{Passes, Tells}
use Rattle.record.specs.Converted.{is_edition, numbered, edition_number_of}
use Rattle.record.specs.declared.Refusal.{Refusal}
use Rattle.judge.specs.Judgments.{said_by, predicate_judgment_of, model_judgment_of}
use Rattle.converter.specs.Conversions.{Conversion, conversion, target_after, packed_conversion}
use Rattle.converter.specs.declared.Unconverted.TheVariants.{NoSuchEdition, CannotStand, ShortTarget, Refused}

-- t is what a record s is in edition k
pub record Moved (k : ℕ) (s t : List ℕ) : Type 0 where
  -- it is of that edition and passes questions 3 to 10
  pub edition : edition_of t ≡ numbered k
  pub passes : Passes (edition_of t) t
  -- it says the same: of the sites, of each event all fields, and of the terms, which are the difference of clocks and the openings
  pub sites : sites_in t ≡ sites_in s
  pub says : Agree (said_by s) (said_by t)
  -- each predicate and each model is judged alike, with the same pair, over a work slice of any length
  pub predicates : (words p : ℕ) → predicate_judgment_of words p t ≡ predicate_judgment_of words p s
  pub models : (words m : ℕ) → model_judgment_of words m t ≡ model_judgment_of words m s
  -- moved to its own edition it is itself
  pub own : k ≡ edition_number_of s → t ≡ s
  -- and moved back, by this call, it is the original: nothing refuses that but a target buffer with too little room
  pub back : (target : List ℕ) → length s ≤ length target
      → (conversion (edition_number_of s) (length target) t ≡ Ok (length s)) × (target_after (Ok (length s)) (edition_number_of s) t target ≡ s ++ drop (length s) target)

-- a record s, the target edition k and the target buffer: what is answered, and the buffer afterwards
pub data Converts (k : ℕ) (s target : List ℕ) : Conversion → List ℕ → Type 0 where
  -- it passes, there is room, and what it is in that edition stands in the buffer's front, as long as is answered
  written : (t : List ℕ) → is_edition k ≡ true → Passes (edition_of s) s → Moved k s t → length t ≤ length target
      → Converts k s target (Ok (length t)) (t ++ drop (length t) target)
  -- 43: there is no such edition
  no_such_edition : is_edition k ≡ false → Converts k s target (Err NoSuchEdition) target
  -- 3 to 10: r names the first that got a no, at its place
  refused : {r : Refusal} → is_edition k ≡ true → Tells (edition_of s) s (Err r) → Converts k s target (Err (Refused r)) target
  -- 44: it passes, no record of that edition which passes says the same, and its own edition is a later one
  cannot_stand : is_edition k ≡ true → Passes (edition_of s) s
      → ((t : List ℕ) → ((i : ℕ) → byte t i < 256) → Passes (numbered k) t → Agree (said_by s) (history_of (numbered k) t) → ⊥)
      → k < edition_number_of s → Converts k s target (Err CannotStand) target
  -- 45: it passes, and what it is in that edition is longer than the buffer
  short_target : (t : List ℕ) → is_edition k ≡ true → Passes (edition_of s) s → Moved k s t → length target < length t
      → Converts k s target (Err ShortTarget) target

-- the same of a host's number: it is that of an answer of which this holds
pub record ConvertsHost (k : ℕ) (s target : List ℕ) (answer : ℕ) (after : List ℕ) : Type 0 where
  pub conversion : Conversion
  pub means : Converts k s target conversion after
  pub packed : answer ≡ packed_conversion conversion
