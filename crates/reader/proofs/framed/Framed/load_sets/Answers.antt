use mathlib.Core.Path.{◌≡◌, sym, ◌∙◌}
use mathlib.Core.List.{List, ◌++◌}
use Prim.Native.Nat.{ℕ, ◌+◌, ◌*◌, ◌-◌, ◌≤◌, ◌<◌}
use native.Mathlib.Nat.{add-sub_cancel_left}
use native.Mathlib.Omega.{arith}
use borrow.Author.Rules.{rules}
use lib.ListN.{length, take, drop}
use Rattle.std.proofs.lemmas.Option.{none-some}
use Rattle.rows.proofs.LowestLaws.{searched_start, searched_more}
use Rattle.rows.specs.Row.{row_at}
use Rattle.rows.proofs.TableLaws.{length-row, row-put-same}
use Rattle.record.specs.Layout.{edition_of, row_words, work_words}
use Rattle.record.specs.Words.{set_rows}
use Rattle.record.proofs.SearchLaws.{found_hit, found_end}
use Rattle.record.proofs.SoundLayout.{sound_of, slot-first}
use Rattle.record.proofs.SlotWords.{set_row_loaded, set_rows-none, set_rows-put, length-set_rows}
use Rattle.record.proofs.SetLaws.{byte_itself, loaded_outside, loaded_right}
use Rattle.record.proofs.WorkLaws.{loaded_past}
use Rattle.reader.proofs.FramedLaws.{sizes, room, step}
use Rattle.reader.proofs.framed.Framed.load_sets.Goals.{After-load_row, In-loop-e, then-not-is_subset-via-then-not-is_subset, then-not-is_subset-via-else-not-is_subset+then-test}
use Rattle.reader.proofs.framed.Framed.load_sets.Goals as goal

-- where slot e ends, and that a row of the table is there for its set
record Placed (slot bytes long e words : ℕ) : Type 0 where
  room : slot + bytes ≤ long
  wide : bytes ≡ 32 + 8 * words
  seen : e < 64 * words
  few : words ≤ row_words
  row : e * row_words + row_words ≤ work_words

placed : (c : In-loop-e) → let f = c.args.self.now in Placed c.loop-e.slot f.edition.slot (length f.bytes.now) c.loop-e.e f.edition.row
placed c =
    let f = c.args.self.now in
    record {
      room = room f c.requires.n_in_bounds c.loop-e.e c.loop-e.slot c.loop-e-test.true c.loop-e.invariant.2;
      wide = omega (arith, sizes f);
      seen = omega (arith, sizes f, c.requires.n_bound, c.loop-e-test.true);
      few = omega (arith, sizes f);
      row = omega (arith, sizes f, c.requires.n_bound, c.loop-e-test.true);
    }

row_long : (c : In-loop-e) → length (take (c.loop-e.e * row_words + row_words - c.loop-e.e * row_words) (drop (c.loop-e.e * row_words) c.loop-e.table)) ≡ row_words
row_long c = rw add-sub_cancel_left (length-row c.loop-e.table row_words c.loop-e.e (omega (arith, placed c, c.requires.work_words_in_bounds, c.loop-e.auto.table)))

-- the table with the set of event e
abbrev table : After-load_row → List ℕ
table c = take (c.loop-e.e * row_words) c.loop-e.table ++ (c.load_row.new.row ++ drop row_words (drop (c.loop-e.e * row_words) c.loop-e.table))

put : (c : After-load_row) → let s = c.args.self.now.bytes.now in table c ≡ set_rows (edition_of s) s (c.loop-e.e + 1) ++ drop ((c.loop-e.e + 1) * row_words) c.args.table.now
put c =
    let f = c.args.self.now in
    let s = f.bytes.now in
    let l = c.loop-e in
    set_rows-put (edition_of s) s (sound_of s).narrow l.e c.args.table.now l.table c.load_row.new.row l.invariant.1
    (set_row_loaded (edition_of s) s l.e l.slot _ f.edition.row c.load_row.new.row c.load_row.ensures (sizes f).row (row_long (goal.at.After-load_row c).In-loop-e) l.invariant.2)

-- of which that set is row e
row_put : (c : After-load_row) → row_at (table c) row_words c.loop-e.e ≡ c.load_row.new.row
row_put c =
    let i = (goal.at.After-load_row c).In-loop-e in
    row-put-same c.loop-e.table row_words c.loop-e.e c.load_row.new.row (search rules ∙ row_long i) (omega (arith, placed i, c.requires.work_words_in_bounds, c.loop-e.auto.table))

-- the words past the sets are as they were
past : (e : ℕ) (s d t : List ℕ) → d ≡ set_rows (edition_of s) s e ++ drop (e * row_words) t → e * row_words ≤ work_words → drop work_words d ≡ drop work_words t
past e s d t q h = loaded_past (set_rows (edition_of s) s e) t d (e * row_words) work_words q (length-set_rows (edition_of s) s (sound_of s).narrow e) h

pub fill_below-requires : goal.fill_below-requires
fill_below-requires c = omega (arith, sizes c.args.self.now, c.requires.n_bound)

pub loop-e-init : goal.loop-e-init
loop-e-init c = let s = c.args.self.now.bytes.now in (searched_start _ _, set_rows-none _ _ _, slot-first (edition_of s) (sound_of s))

pub slice_bounds-row-end : goal.slice_bounds-row-end
slice_bounds-row-end c = omega (arith, placed (goal.at.slice_bounds-row-end c).In-loop-e, c.requires.work_words_in_bounds, c.loop-e.auto.table)

pub load_row-requires : goal.load_row-requires
load_row-requires c =
    let i = (goal.at.load_row-requires c).In-loop-e in
    (omega (arith, row_long i, placed i), omega (arith, placed i))

pub test-requires : goal.test-requires
test-requires c = omega (arith, placed (goal.at.test-requires c).In-loop-e)

pub returns-then-not-is_subset : goal.returns-then-not-is_subset
returns-then-not-is_subset c =
    let d = (goal.at.returns-then-not-is_subset c).After-load_row in
    let i = (goal.at.After-load_row d).In-loop-e in
    let f = c.args.self.now in
    let s = f.bytes.now in
    let l = c.loop-e in record {
      value = found_hit l.invariant.0 c.loop-e-test.true (elim c.then-not-is_subset.branch [
        | then-not-is_subset-via-then-not-is_subset w ↦
            loaded_outside (edition_of s) s (sound_of s).narrow f.octets (l.e + 1) _ (table d) (put d) f.count l.e c.fill_below.new.row c.fill_below.ensures.row (omega arith)
            (rw (row_put d) (sym c.is_subset.ensures ∙ w.if-not-is_subset.true))
        | then-not-is_subset-via-else-not-is_subset+then-test w ↦
            byte_itself (edition_of s) s f.count l.e (omega (arith, sizes f, placed i)) (rw l.invariant.2 at (sym w.test.ensures ∙ w.if-test.true))
      ]);
      rest = rw add-sub_cancel_left (search rules, past (l.e + 1) s (table d) c.args.table.now (put d) (omega (arith, placed i)));
      loaded = λ q. absurd (none-some _ (sym q));
    }

pub loop-e-preserved : goal.loop-e-preserved
loop-e-preserved c =
    let d = (goal.at.loop-e-preserved c).After-load_row in
    let i = (goal.at.After-load_row d).In-loop-e in
    let f = c.args.self.now in
    let s = f.bytes.now in
    let l = c.loop-e in (
      searched_more l.invariant.0 c.loop-e-test.true
          (loaded_right (edition_of s) s (sound_of s).narrow f.octets (l.e + 1) _ (table d) (put d) f.count l.e c.fill_below.new.row c.fill_below.ensures.row (omega arith)
          (rw (row_put d) (sym c.is_subset.ensures ∙ c.if-not-is_subset.false)) (omega (arith, sizes f, placed i)) (rw l.invariant.2 at (sym c.test.ensures ∙ c.if-test.false))),
      rw add-sub_cancel_left (put d),
      step f l.e l.slot _ l.invariant.2 c.next_slot-slot.ensures,
    )

pub returns : goal.returns
returns c =
    let s = c.args.self.now.bytes.now in
    let l = c.loop-e in
    let f = c.args.self.now in
    let end : l.e ≡ f.count = omega (arith, c.loop-e-test.false, l.auto.e-end) in record {
      value = found_end l.invariant.0 c.loop-e-test.false;
      rest = (l.auto.table, past l.e s l.table c.args.table.now l.invariant.1 (omega (arith, l.auto.e-end, sizes f, c.requires.n_bound)));
      loaded = λ q. rw end at l.invariant.1;
    }
