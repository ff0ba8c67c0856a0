-- `judge::prepared::fill` meets its contract: the words have the events of the record's bytes, and groups and tables are filled from them. Assumes nothing.
use mathlib.Core.Path.{ap}
use Prim.Native.Nat.{ℕ, ◌*◌, ◌≤◌}
use native.Mathlib.Omega.{arith}
use lib.ListN.{length, length-replicate}
use Rattle.rows.proofs.ByteLaws.{length-words}
use Rattle.record.specs.Layout.{most_events, row_words, terms_length}
use Rattle.record.specs.Words.{terms_words}
use Rattle.record.proofs.StoresLaws.{Bytes}
use Rattle.events.specs.Given.{group_rows}
use Rattle.judge.proofs.RecordLaws.{Told, passed-long, count_small, blocks-long, heads, words-told}
use Rattle.judge.proofs.prepared.fill.Goals.{After-count-n, After-load_terms}
use Rattle.judge.proofs.prepared.fill.Goals as goal

range : (c : After-count-n) → Bytes c.args.s.now
range c i = (c.type_inv.s i).fits

told : (c : After-load_terms) → Told c.args.s.now c.count-n.result c.load.new.out c.args.v.now c.load_terms.new.out
told c =
    let a = c.args in
    words-told a.s.now c.requires.read_into.passed (range (goal.at.After-load_terms c).After-count-n) c.count-n.result c.count-n.ensures a.heads.now c.load.new.out a.v.now c.load_terms.new.out c.load.ensures c.requires.read_into.visible c.load_terms.ensures

few : (c : After-count-n) → c.count-n.result ≤ most_events
few c = count_small c.args.s.now c.requires.read_into.passed c.count-n.result c.count-n.ensures

-- the terms are as many words as block 0 has of them
many : (c : After-load_terms) → terms_length ≤ length c.load_terms.new.out
unfolding terms_words
many c = omega (arith, ap length c.load_terms.ensures, length-words terms_length c.args.s.now 8)

pub count-n-requires : goal.count-n-requires
count-n-requires c = passed-long c.args.s.now c.requires.read_into.passed

pub load-requires : goal.load-requires
load-requires c =
    record {
      n_in_bounds = blocks-long c.args.s.now c.requires.read_into.passed c.count-n.result c.count-n.ensures;
      w_bound = omega arith;
      w_in_bounds = omega (arith, few (goal.at.load-requires c).After-count-n, c.requires.heads_len.0);
    }

pub load_terms-requires : goal.load_terms-requires
load_terms-requires c = (passed-long c.args.s.now c.requires.read_into.passed, c.requires.heads_len.1)

pub fill-requires : goal.fill-requires
fill-requires c =
    let g = (told (goal.at.fill-requires c).After-load_terms).given in record {
      n_in_bounds = (g.heads, g.rows.wide, omega arith, omega (arith, ap length c.requires.heads_len.2, length-replicate {A = ℕ} (group_rows * row_words) 0));
      g_value = c.requires.heads_len.2;
    }

pub events_of-events-requires : goal.events_of-events-requires
events_of-events-requires c = ((told (goal.at.events_of-events-requires c).After-load_terms).given, c.fill.ensures.groups)

pub fill_tables-requires : goal.fill_tables-requires
fill_tables-requires c =
    omega (arith, few (goal.at.fill_tables-requires c).After-count-n, c.events_of-events.ensures.0, c.requires.heads_len.3)

pub returns : goal.returns
returns c =
    let a = c.args in
    let q = (goal.at.returns c).After-load_terms in
    let e = c.events_of-events.ensures in
    let filled = rw (e.0, e.1, e.2) at c.fill_tables.ensures.prepared in
    let rest = rw e.0 at c.fill_tables.ensures.t_len_unchanged.1 in record {
      ready = record { given = (told q).given; terms = many q; agree = (told q).agree; grouped = c.fill.ensures.groups; tables = filled };
      count = c.count-n.ensures;
      heads_after = heads a.s.now c.requires.read_into.passed (range (goal.at.returns c).After-count-n) c.count-n.result c.count-n.ensures a.heads.now c.load.new.out a.v.now c.load_terms.new.out c.load.ensures c.requires.read_into.visible c.load_terms.ensures;
      terms_after = c.load_terms.ensures;
      tables_unchanged = rest;
    }
