-- Of two passing records that differ in the difference of clocks alone: lists without predicates 3 and 4 have one answer, and what the smaller difference
-- met, the larger meets. Assumes nothing.
use mathlib.Core.Path.{◌≡◌, sym, ap, ap₂, ◌∙◌, subst}
use mathlib.Core.Bool.{false, cond, ◌&&◌}
use mathlib.Core.List.{List}
use Prim.Native.Nat.{ℕ, ◌+◌, ◌-◌, ◌*◌, ◌/◌, ◌%◌, ◌≤◌, ◌<◌}
use native.Mathlib.Omega.{arith}
use native.Mathlib.Decide.{dec_lt}
use borrow.Author.Tests.{lt-ltb, le-ltb}
use lib.Dec.{eqb, ltb}
use lib.ListN.{get_or, take, drop}
use lib.Seq.{take-take, get_or-take, get_or-drop}
use Rattle.std.specs.Prelude.{None, Ok, Err}
use Rattle.rows.specs.Octets.{little, has_byte}
use Rattle.rows.specs.Row.{bit_of}
use Rattle.record.specs.Layout.{Layout, edition_of, byte, count_in, slot_at}
use Rattle.record.specs.Terms.{Held, none, value, opening_in, difference_in}
use Rattle.record.specs.History.{history_of, SameEvents}
use Rattle.record.specs.Questions.{questions}
use Rattle.record.proofs.LayoutLaws.{same-letters}
use Rattle.record.proofs.NumberBytes.{little-same}
use Rattle.record.proofs.QuestionsAnswered.{answer-only}
use Rattle.consistency.specs.Models.{timed, Outcome, first_broken}
use Rattle.consistency.specs.declared.Predicate.TheVariants.{RVal}
use Rattle.consistency.proofs.SameVerdict.{SameFor}
use Rattle.consistency.proofs.OtherClocks.{list_steady, list_larger}
use Rattle.judge.specs.Judgments.{Judgment, Admission, admission, admit, judged_list, judged}
use Rattle.judge.specs.Clocks.{OnOtherClocks, ByClocks}

module _ (s s' : List ℕ) (c : OnOtherClocks s s') where
  -- ---- byte by byte

  front-byte : (i : ℕ) → i < 8 → byte s i ≡ byte s' i
  front-byte i h = sym (get_or-take 8 s i 0 h) ∙ ap (λ (l : List ℕ). get_or l i 0) c.front ∙ get_or-take 8 s' i 0 h

  middle-byte : (i : ℕ) → 12 ≤ i → i < 508 → byte s i ≡ byte s' i
  middle-byte i h k =
      let on : 12 + (i - 12) ≡ i = omega arith in
      subst (λ (p : ℕ). byte s p ≡ byte s' p) on
      (sym (get_or-take 496 (drop 12 s) (i - 12) 0 (omega arith) ∙ get_or-drop 12 s (i - 12) 0)
      ∙ ap (λ (l : List ℕ). get_or l (i - 12) 0) c.middle
      ∙ get_or-take 496 (drop 12 s') (i - 12) 0 (omega arith) ∙ get_or-drop 12 s' (i - 12) 0)

  rest-byte : (i : ℕ) → 512 ≤ i → byte s i ≡ byte s' i
  rest-byte i h =
      let on : 512 + (i - 512) ≡ i = omega arith in
      subst (λ (p : ℕ). byte s p ≡ byte s' p) on
      (sym (get_or-drop 512 s (i - 512) 0) ∙ ap (λ (l : List ℕ). get_or l (i - 512) 0) c.rest ∙ get_or-drop 512 s' (i - 512) 0)

  -- ---- the edition, and what the records say

  one-edition : edition_of s ≡ edition_of s'
  one-edition =
      same-letters s s'
      (sym (take-take 4 8 s (omega arith)) ∙ ap (take 4) c.front ∙ take-take 4 8 s' (omega arith))

  count_same : count_in s ≡ count_in s'
  count_same = little-same 2 s s' 4 (λ j l. front-byte (4 + j) (omega arith))

  module _ (L : Layout) where
    slot-byte : (e off : ℕ) → byte s (slot_at L e + off) ≡ byte s' (slot_at L e + off)
    slot-byte e off = rest-byte (slot_at L e + off) (omega arith)

    slot-number : (k e off : ℕ) → little k s (slot_at L e + off) ≡ little k s' (slot_at L e + off)
    slot-number k e off = little-same k s s' (slot_at L e + off) (λ j l. rest-byte (slot_at L e + off + j) (omega arith))

    same-events : SameEvents (history_of L s) (history_of L s')
    unfolding history_of has_byte
    same-events = record {
      count = count_same;
      is_write = λ e i. ap (λ (x : ℕ). eqb x 1) (rest-byte (slot_at L e) (omega arith));
      site = λ e i. slot-byte e 1;
      object = λ e i. slot-byte e 2;
      is_pending = λ e i. ap (λ (x : ℕ). eqb x 1) (slot-byte e 3);
      is_present = λ e i. ap (λ (x : ℕ). eqb x 1) (slot-byte e 8);
      value = λ e i. slot-number 4 e 4;
      position = λ e i. slot-number 2 e 10;
      start = λ e i. slot-number 8 e 16;
      return = λ e i p. slot-number 8 e 24;
      sees = λ e b i j. ap (λ (x : ℕ). ltb b (64 * L.row) && bit_of x (b % 8)) (rest-byte (slot_at L e + 32 + b / 8) (omega arith));
    }

    same_openings : SameFor RVal (history_of L s).terms (history_of L s').terms
    unfolding history_of opening_in has_byte
    same_openings o = ap (λ (x : Held). cond L.terms x none) (elim (dec_lt o 32) [
      | yes h ↦ rw (lt-ltb o 32 h) (ap₂ (λ (x y : ℕ). cond (bit_of x (o % 8)) (value y) none) (middle-byte (12 + o / 8) (omega arith) (omega arith))
          (little-same 4 s s' (12 + 4 + 4 * o) (λ j l. middle-byte (12 + 4 + 4 * o + j) (omega arith) (omega arith))))
      | no h ↦ rw (le-ltb o 32 (omega arith))
    ])

  -- ---- the answers

  abbrev L : Layout
  L = edition_of s

  passed : questions (edition_of s) s ≡ Ok tt
  passed = answer-only (edition_of s) s (Ok tt) c.passes

  passed' : questions (edition_of s) s' ≡ Ok tt
  passed' = subst (λ (K : Layout). questions K s' ≡ Ok tt) (sym one-edition) (answer-only (edition_of s') s' (Ok tt) c.passes')

  -- of a record that passes
  abbrev about : ℕ → ℕ → Outcome → Judgment
  about words number o = admit (admission words number) Err (Ok o)

  answer : (words number : ℕ) (ps : List ℕ) → judged (edition_of s) words number s ps ≡ about words number (first_broken ps (history_of (edition_of s) s))
  unfolding judged judged_list
  answer words number ps = rw passed

  answer' : (words number : ℕ) (ps : List ℕ) → judged (edition_of s') words number s' ps ≡ about words number (first_broken ps (history_of (edition_of s) s'))
  unfolding judged judged_list
  answer' words number ps = ap (λ (K : Layout). judged K words number s' ps) (sym one-edition) ∙ rw passed'

  judged-steady : (words number : ℕ) (ps : List ℕ) → timed ps ≡ false → judged (edition_of s') words number s' ps ≡ judged (edition_of s) words number s ps
  judged-steady words number ps e =
      answer' words number ps
      ∙ ap (about words number) (sym (list_steady (history_of L s) (history_of L s') (same-events L) (same_openings L) ps e))
      ∙ sym (answer words number ps)

  judged-larger : (words number : ℕ) (ps : List ℕ) → difference_in (edition_of s) s ≤ difference_in (edition_of s') s' → judged (edition_of s) words number s ps ≡ Ok None
      → judged (edition_of s') words number s' ps ≡ Ok None
  unfolding history_of
  judged-larger words number ps more met =
      answer' words number ps
      ∙ go (admission words number) (first_broken ps (history_of L s)) (first_broken ps (history_of L s'))
      (list_larger (history_of L s) (history_of L s') (same-events L) (same_openings L)
      (subst (λ (K : Layout). difference_in L s ≤ difference_in K s') (sym one-edition) more) ps)
      (sym (answer words number ps) ∙ met)
    where
      go : (x : Admission) (o o' : Outcome) → (o ≡ None → o' ≡ None) → admit x Err (Ok o) ≡ Ok None → admit x Err (Ok o') ≡ Ok None
      go (Err u) o o' f e = e
      go (Ok u) o o' f e = ap Ok (f cc)

pub by_clocks_lem : (words number : ℕ) (ps s : List ℕ) {j : Judgment} → j ≡ judged (edition_of s) words number s ps → ByClocks words number ps s j
by_clocks_lem words number ps s e = record {
  steady = λ s' c t. judged-steady s s' c words number ps t ∙ sym e;
  larger = λ s' c more met. judged-larger s s' c words number ps more (sym e ∙ met);
}
