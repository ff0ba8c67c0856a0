-- The converting call (Change 9): 43, then the record's own questions, then 44 and 45; what it leaves in the target buffer; and the host's number for its answer.
use Rattle.std.specs.Prelude.{List, ◌++◌, ℕ, leb, drop, Result, Ok, Err}
use Rattle.packed.specs.Packed.{packed_refusal}
use Rattle.record.specs.Layout.{Layout, edition_of}
use Rattle.record.specs.History.{history_of}
use Rattle.record.specs.Questions.{number_of, place_of, ask, if_passed, questions}
use Rattle.record.specs.Converted.{is_edition, numbered, can_stand, converted, length_in}
use Rattle.converter.specs.declared.Unconverted.{Unconverted}
use Rattle.converter.specs.declared.Unconverted.TheVariants.{NoSuchEdition, CannotStand, ShortTarget, Refused}

-- the answer of a converting call: the length written, or what refused it
abbrev pub Conversion : Type 0
Conversion = Result ℕ Unconverted

-- 44 and 45, of a record s of edition L that passed, for edition M and a target buffer of so many bytes; else the answer is the length written
unfoldable pub moved_to : Layout → Layout → ℕ → List ℕ → Conversion
moved_to L M room s =
    ask (can_stand M (history_of L s)) (Err CannotStand)
    (ask (leb (length_in M s) room) (Err ShortTarget) (Ok (length_in M s)))

-- 3 to 10 before them
unfoldable pub read_and_moved : Layout → Layout → ℕ → List ℕ → Conversion
read_and_moved L M room s = if_passed (questions L s) (λ r. Err (Refused r)) (moved_to L M room s)

-- and 43 first, for a target edition by number; a record's letters say its own
unfoldable pub conversion : ℕ → ℕ → List ℕ → Conversion
conversion k room s = ask (is_edition k) (Err NoSuchEdition) (read_and_moved (edition_of s) (numbered k) room s)

-- the number of the question that refused, 0 where none did, and its place
abbrev pub refusal_number : Conversion → ℕ
refusal_number (Ok n) = 0
refusal_number (Err NoSuchEdition) = 43
refusal_number (Err CannotStand) = 44
refusal_number (Err ShortTarget) = 45
refusal_number (Err (Refused r)) = number_of (Err r)

abbrev pub refusal_place : Conversion → ℕ
refusal_place (Ok n) = 0
refusal_place (Err NoSuchEdition) = 0
refusal_place (Err CannotStand) = 0
refusal_place (Err ShortTarget) = 0
refusal_place (Err (Refused r)) = place_of (Err r)

-- s as a record of edition k
abbrev pub converted_to : ℕ → List ℕ → List ℕ
converted_to k s = converted (edition_of s) (numbered k) s

-- it stands in the front of the target buffer; the bytes beyond it stay
unfoldable pub written_to : ℕ → List ℕ → List ℕ → List ℕ
written_to k s target = converted_to k s ++ drop (length_in (numbered k) s) target

-- the target buffer after a conversion: a refusal, whatever its number, leaves it unchanged
unfoldable pub target_after : Conversion → ℕ → List ℕ → List ℕ → List ℕ
target_after (Ok n) k s target = written_to k s target
target_after (Err e) k s target = target

-- the host's number: the length written, or 2,097,152 + 1,024 × number + place refused
abbrev pub packed_conversion : Conversion → ℕ
packed_conversion (Ok n) = n
packed_conversion (Err e) = packed_refusal (refusal_number (Err e)) (refusal_place (Err e))
