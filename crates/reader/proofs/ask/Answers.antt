-- `reader::ask` meets its contract: the sets are asked about once questions 3 to 8 got a yes, and a no clears the words. Assumes nothing.
use mathlib.Core.Path.{◌≡◌, refl, sym, ap, ◌∙◌}
use mathlib.Core.List.{List}
use Prim.Native.Nat.{ℕ, ◌*◌, ◌≤◌}
use native.Mathlib.Omega.{arith}
use borrow.Author.Rules.{rules}
use lib.ListN.{length}
use Rattle.std.specs.Prelude.{Err}
use Rattle.record.specs.Layout.{edition_of, count_in, work_words}
use Rattle.record.specs.History.{history_of, vis}
use Rattle.record.specs.Questions.{refusal_number, set_questions, questions}
use Rattle.record.specs.Answers.{BytesRight}
use Rattle.record.specs.Encode.{blocks_for}
use Rattle.record.proofs.QuestionLaws.{length-says, header-says, blocks_say}
use Rattle.record.proofs.QuestionsAnswered.{answer-only, tells_late, to-sets}
use Rattle.record.proofs.WorkLaws.{zero-first, work-refused}
use Rattle.reader.specs.declared.framed.Framed.{Framed}
use Rattle.reader.proofs.ask.Goals as goal

-- a record that got a yes to 3 to 8
module _ (f : Framed) (s : List ℕ) (same : f.bytes.now ≡ s) (right : BytesRight (edition_of s) s) where
  counted : f.count ≡ count_in s
  counted = f.numbers.0 ∙ ap count_in same

  room : 512 * blocks_for (edition_of f.bytes.now) f.count ≤ length f.bytes.now
  room = rw (same, counted) (omega (arith, length-says (edition_of s) s right.length, blocks_say (edition_of s) s right.blocks))

  few : f.count ≤ (edition_of f.bytes.now).events
  few = rw same (omega (arith, counted, header-says (edition_of s) s right.header))

  asked : set_questions (edition_of f.bytes.now) f.count (vis (history_of (edition_of f.bytes.now) f.bytes.now)) ≡ questions (edition_of s) s
  asked = rw (same, counted) (sym (to-sets (edition_of s) s right))

pub ask_sets-requires : goal.ask_sets-requires
ask_sets-requires c =
    let e = c.in-Ok.ensures in
    record {
      n_in_bounds = room c.in-Ok.framed c.args.s.now e.0 e.1;
      n_bound = few c.in-Ok.framed c.args.s.now e.0 e.1;
      work_words_in_bounds = c.requires;
    }

pub returns-in-Ok : goal.returns-in-Ok
returns-in-Ok c =
    let e = c.in-Ok.ensures in
    record {
      value = c.ask_sets.ensures.value ∙ asked c.in-Ok.framed c.args.s.now e.0 e.1;
      work_after = rw e.0 at c.ask_sets.ensures.table_after;
    }

pub returns-in-Err : goal.returns-in-Err
returns-in-Err c =
    let s = c.args.s.now in
    let work = c.args.work.now in record {
      value = sym (answer-only (edition_of s) s (Err c.in-Err.refusal) c.in-Err.ensures);
      work_after = work-refused (edition_of s) (refusal_number c.in-Err.refusal) s work _ (tells_late (edition_of s) s c.in-Err.refusal c.in-Err.ensures)
          (zero-first work_words work work c.fill.new.self c.requires refl (search rules));
    }
