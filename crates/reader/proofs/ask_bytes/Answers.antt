-- `reader::ask_bytes` meets its contract: each question is asked once those before it got a yes. Assumes nothing.
use mathlib.Core.Path.{◌≡◌, sym, ap, ◌∙◌}
use mathlib.Core.Bool.{Bool, not}
use mathlib.Core.List.{List}
use Prim.Native.Nat.{ℕ, ◌*◌, ◌≤◌}
use native.Mathlib.Omega.{arith}
use borrow.Author.Tests.{not-false}
use lib.ListN.{length}
use Rattle.std.specs.Prelude.{Some, None, Err}
use Rattle.rows.specs.Lowest.{found}
use Rattle.record.specs.declared.Refusal.TheVariants.{WrongSlot, WrongPosition}
use Rattle.record.specs.Layout.{Layout, edition_of, count_in}
use Rattle.record.specs.History.{history_of}
use Rattle.record.specs.Slots.{slot_right}
use Rattle.record.specs.Questions.{Reading, slots_in, wrong_position}
use Rattle.record.specs.Answers.{FrameRight, SlotsRight, BytesRight, Tells}
use Rattle.record.specs.Encode.{blocks_for}
use Rattle.record.proofs.SearchLaws.{lowest_found, none_found}
use Rattle.record.proofs.QuestionLaws.{length-says, header-says, blocks_say}
use Rattle.reader.specs.declared.framed.Framed.{Framed}
use Rattle.reader.proofs.ask_bytes.Goals as goal

-- of a record that got a yes to 3 to 6, what was found of 7 and 8
module _ (f : Framed) (right : FrameRight (edition_of f.bytes.now) f.bytes.now) where
  abbrev s : List ℕ
  s = f.bytes.now

  abbrev L : Layout
  L = edition_of s

  abbrev is_wrong : ℕ → Bool
  is_wrong = λ e. not (slot_right L s e)

  abbrev misplaced : ℕ → Bool
  misplaced = wrong_position (history_of L s)

  room : 512 * blocks_for (edition_of f.bytes.now) f.count ≤ length f.bytes.now
  room = rw f.numbers.0 (omega (arith, length-says L s right.length, blocks_say L s right.blocks))

  few : f.count ≤ (edition_of f.bytes.now).events
  few = omega (arith, f.numbers.0, header-says L s right.header)

  seven : (e : ℕ) → Some e ≡ found (slots_in L s) is_wrong → Tells L s (Err (WrongSlot e))
  seven e q = (right.length, right.checks, right.header, right.blocks, lowest_found (slots_in L s) is_wrong e q)

  module _ (none : None ≡ found (slots_in L s) is_wrong) where
    slots : SlotsRight L s
    slots e l = not-false (slot_right L s e) (none_found (slots_in L s) is_wrong none e l)

    eight : (e : ℕ) → Some e ≡ found f.count misplaced → Tells L s (Err (WrongPosition e))
    eight e q = (right.length, right.checks, right.header, right.blocks, slots, lowest_found (count_in s) misplaced e (q ∙ ap (λ (n : ℕ). found n misplaced) f.numbers.0))

    passed : None ≡ found f.count misplaced → BytesRight L s
    passed q = record {
      length = right.length;
      checks = right.checks;
      header = right.header;
      blocks = right.blocks;
      slots = slots;
      positions = none_found (count_in s) misplaced (q ∙ ap (λ (n : ℕ). found n misplaced) f.numbers.0);
    }

-- the record that was framed is the one that was lent
framed : {s t : List ℕ} → t ≡ s → FrameRight (edition_of s) s → FrameRight (edition_of t) t
framed q x = rw (sym q) at x

told : {s t : List ℕ} (r : Reading) → t ≡ s → Tells (edition_of t) t r → Tells (edition_of s) s r
told r q x = rw q at x

all_right : {s t : List ℕ} → t ≡ s → BytesRight (edition_of t) t → BytesRight (edition_of s) s
all_right q x = rw q at x

pub returns-in-Some : goal.returns-in-Some
returns-in-Some c =
    let e = c.in_ok-framed.ensures in
    told (Err (WrongSlot c.in-Some.slot)) e.0 (seven c.in_ok-framed.framed (framed e.0 e.1) c.in-Some.slot c.in-Some.ensures)

pub wrong_position-requires : goal.wrong_position-requires
wrong_position-requires c =
    let e = c.in_ok-framed.ensures in
    record { n_in_bounds = room c.in_ok-framed.framed (framed e.0 e.1); n_bound = few c.in_ok-framed.framed (framed e.0 e.1) }

pub returns-in-Some-wrong_position : goal.returns-in-Some-wrong_position
returns-in-Some-wrong_position c =
    let e = c.in_ok-framed.ensures in
    told (Err (WrongPosition c.in-Some-wrong_position.event)) e.0
    (eight c.in_ok-framed.framed (framed e.0 e.1) c.in_default.ensures c.in-Some-wrong_position.event c.in-Some-wrong_position.ensures)

pub returns : goal.returns
returns c =
    let e = c.in_ok-framed.ensures in
    (e.0, all_right e.0 (passed c.in_ok-framed.framed (framed e.0 e.1) c.in_default.ensures c.in_default-wrong_position.ensures))
