-- `judge::prepared::fill_tables` meets its contract: the sweep, and what finishes it. Assumes nothing.
use mathlib.Core.Path.{◌∙◌}
use Prim.Native.Nat.{◌*◌, ◌≤◌}
use native.Mathlib.Omega.{arith}
use lib.ListN.{length}
use Rattle.record.specs.Layout.{row_words}
use Rattle.record.specs.Words.{terms_from}
use Rattle.events.specs.Given.{Given}
use Rattle.tables.specs.Sweep.{Sweeps}
use Rattle.tables.proofs.PartLaws.{same-later}
use Rattle.judge.specs.Ready.{history_in}
use Rattle.judge.proofs.TablesGiven.{swept_graph, tables-ready}
use Rattle.judge.proofs.prepared.fill_tables.Goals.{Start, After-sweep}
use Rattle.judge.proofs.prepared.fill_tables.Goals as goal

given : (c : Start) → let e = c.args.events.now in Given e.count row_words e.heads.words.now e.seen.now
given c = c.args.events.now.given

swept : (c : After-sweep) → let e = c.args.events.now in Sweeps e.count row_words (history_in e.count e.heads.words.now e.seen.now c.args.terms.now.words.now) c.sweep.new.t
swept c = c.sweep.ensures.sweeps

size : (c : After-sweep) → 6 * (c.args.events.now.count * row_words) ≤ length c.sweep.new.t
size c = omega (arith, c.requires, c.sweep.ensures.t_len_unchanged.0)

pub finish-requires : goal.finish-requires
finish-requires c =
    let e = c.args.events.now in
    let p = (goal.at.finish-requires c).After-sweep in
    let g = given (goal.at.finish-requires c).Start in
    (g.heads, g.placed, size p, swept_graph e.count e.heads.words.now e.seen.now c.sweep.new.t g (terms_from c.args.terms.now.words.now) (swept p) (size p))

pub returns : goal.returns
returns c =
    let e = c.args.events.now in
    let p = (goal.at.returns c).After-sweep in
    let f = c.finish.ensures in record {
      prepared = tables-ready e.count e.heads.words.now e.seen.now c.sweep.new.t (given (goal.at.returns c).Start) (terms_from c.args.terms.now.words.now) (swept p) (size p) f;
      t_len_unchanged = (f.size ∙ c.sweep.ensures.t_len_unchanged.0, f.rest ∙ same-later (5 * (e.count * row_words)) (6 * (e.count * row_words)) c.sweep.new.t c.args.t.now (omega arith) c.sweep.ensures.t_len_unchanged.1);
    }
