use mathlib.Core.Path.{◌≡◌, refl, sym, ap, ◌∙◌}
use Prim.Native.Nat.{ℕ, ◌+◌}
use native.Mathlib.Omega.{arith}
use borrow.Author.Rules.{rules}
use Rattle.rows.specs.Octets.{little}
use Rattle.rows.proofs.LowestLaws.{searched_start, searched_more}
use Rattle.record.specs.Layout.{edition_of, row_words}
use Rattle.record.specs.History.{History, history_of}
use Rattle.record.proofs.SearchLaws.{found_hit, found_end}
use Rattle.record.proofs.SoundLayout.{sound_of, slot-first}
use Rattle.record.proofs.PositionLaws.{taken_none, position_large, position-taken, position_free, taken_more}
use Rattle.reader.proofs.FramedLaws.{sizes, room, step}
use Rattle.reader.proofs.framed.Framed.wrong_position.Goals.{After-from-position, then-self-position-via-then-self-position, then-self-position-via-else-self-position+then-test}
use Rattle.reader.proofs.framed.Framed.wrong_position.Goals as goal

abbrev h : After-from-position → History
h c = history_of (edition_of c.args.self.now.bytes.now) c.args.self.now.bytes.now

-- what was read is the position of event e
read : (c : After-from-position) → c.from-position.result ≡ (h c).position c.loop-e.e
unfolding history_of
read c = c.from-position.ensures ∙ c.u16_at.ensures ∙ ap (λ (x : ℕ). little 2 c.args.self.now.bytes.now (x + 10)) c.loop-e.invariant.3

pub loop-e-init : goal.loop-e-init
loop-e-init c =
    let s = c.args.self.now.bytes.now in
    (searched_start _ _, refl, taken_none (history_of (edition_of s) s) row_words _ refl, slot-first (edition_of s) (sound_of s))

pub u16_at-requires : goal.u16_at-requires
u16_at-requires c =
    let f = c.args.self.now in
    omega (arith, sizes f, room f c.requires.n_in_bounds c.loop-e.e c.loop-e.at c.loop-e-test.true c.loop-e.invariant.3)

pub test-requires : goal.test-requires
test-requires c = omega (arith, c.if-self-position.false, sizes c.args.self.now, c.requires.n_bound, c.loop-e.invariant.1)

pub returns-then-self-position : goal.returns-then-self-position
unfolding history_of
returns-then-self-position c =
    let a = (goal.at.returns-then-self-position c).After-from-position in
    let l = c.loop-e in
    found_hit l.invariant.0 c.loop-e-test.true (elim c.then-self-position.branch [
      | then-self-position-via-then-self-position w ↦ position_large (h a) l.e c.from-position.result l.taken l.invariant.2 (read a) (omega (arith, w.if-self-position.true, c.args.self.now.numbers.0))
      | then-self-position-via-else-self-position+then-test w ↦
          position-taken (h a) l.e c.from-position.result l.taken l.invariant.2 (read a) (sym w.test.ensures ∙ w.if-test.true)
    ])

pub set-requires : goal.set-requires
set-requires c = omega (arith, c.if-self-position.false, sizes c.args.self.now, c.requires.n_bound, c.loop-e.invariant.1)

pub next_slot-at-requires : goal.next_slot-at-requires
next_slot-at-requires c =
    let f = c.args.self.now in
    omega (arith, sizes f, room f c.requires.n_in_bounds c.loop-e.e c.loop-e.at c.loop-e-test.true c.loop-e.invariant.3)

pub loop-e-preserved : goal.loop-e-preserved
unfolding history_of
loop-e-preserved c =
    let a = (goal.at.loop-e-preserved c).After-from-position in
    let l = c.loop-e in
    let p = c.from-position.result in
    let f = c.args.self.now in (
      searched_more l.invariant.0 c.loop-e-test.true
          (position_free (h a) l.e p l.taken l.invariant.2 (read a) (omega (arith, c.if-self-position.false, f.numbers.0)) (sym c.test.ensures ∙ c.if-test.false)),
      search rules,
      taken_more (h a) l.e p l.taken l.invariant.2 (read a) c.set.new.row c.set.ensures (omega (arith, c.if-self-position.false, sizes f, c.requires.n_bound, l.invariant.1)),
      step f l.e l.at _ l.invariant.3 c.next_slot-at.ensures,
    )

pub returns : goal.returns
returns c = found_end c.loop-e.invariant.0 c.loop-e-test.false
