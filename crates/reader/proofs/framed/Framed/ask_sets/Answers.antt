-- `reader::framed::Framed::ask_sets` meets its contract: rings are looked for once question 9 got a yes, and then the words that the sets do not fill are cleared.
-- Assumes nothing.
use mathlib.Core.Path.{◌≡◌, refl, sym, ap, ◌∙◌}
use mathlib.Core.Bool.{Bool, false}
use mathlib.Core.List.{List, ◌++◌}
use Prim.Native.Nat.{ℕ, ◌*◌, ◌<◌, ◌≤◌}
use native.Mathlib.Omega.{arith}
use borrow.Author.Rules.{rules}
use lib.ListN.{length, take, drop, replicate}
use lib.Seq.{length-take-le}
use Rattle.std.specs.Prelude.{Some, None, Ok, Err}
use Rattle.rows.specs.Lowest.{if_below, found}
use Rattle.rows.specs.Relation.{Rel, Graph, reaches, related}
use Rattle.record.specs.declared.Refusal.TheVariants.{WrongSet, OnRing}
use Rattle.record.specs.Layout.{Layout, edition_of, count_in, most_events, row_words, work_words}
use Rattle.record.specs.History.{history_of, vis}
use Rattle.record.specs.Questions.{wrong_set, on_ring, ask_each, set_questions}
use Rattle.record.specs.Words.{set_rows, work_after}
use Rattle.record.proofs.AskLaws.{each_yes, each_first}
use Rattle.record.proofs.SearchLaws.{lowest_found, none_found}
use Rattle.record.proofs.SoundLayout.{sound_of}
use Rattle.record.proofs.SetLaws.{loaded_graph, loaded_ring}
use Rattle.record.proofs.WorkLaws.{zero-first, visible_cleared, work-refused, work-passed}
use Rattle.reader.specs.declared.framed.Framed.{Framed}
use Rattle.reader.proofs.FramedLaws.{sizes}
use Rattle.reader.proofs.framed.Framed.ask_sets.Goals as goal

-- ---- the answers, by what was found

module _ (f : Framed) where
  abbrev s : List ℕ
  s = f.bytes.now

  abbrev L : Layout
  L = edition_of s

  abbrev sees : Rel
  sees = vis (history_of L s)

  abbrev is_wrong : ℕ → Bool
  is_wrong = wrong_set L.row f.count sees

  abbrev is_on_ring : ℕ → Bool
  is_on_ring = on_ring f.count sees

  most : f.count ≤ L.events → count_in s ≤ most_events
  most few = omega (arith, sizes f, few, f.numbers.0)

  nine : (e : ℕ) → Some e ≡ found f.count is_wrong → Err (WrongSet e) ≡ set_questions L f.count sees
  unfolding set_questions
  nine e q = sym (each_first f.count is_wrong WrongSet (ask_each f.count is_on_ring OnRing (Ok tt)) e (lowest_found f.count is_wrong e q))

  -- question 9 got a yes
  module _ (few : f.count ≤ L.events) (none : None ≡ found f.count is_wrong) (g table : List ℕ) (loaded : g ≡ set_rows L s f.count ++ drop (f.count * row_words) table) where
    right : (e : ℕ) → e < f.count → is_wrong e ≡ false
    right = none_found f.count is_wrong none

    to-rings : set_questions L f.count sees ≡ ask_each f.count is_on_ring OnRing (Ok tt)
    unfolding set_questions
    to-rings = each_yes f.count is_wrong WrongSet (ask_each f.count is_on_ring OnRing (Ok tt)) right

    graph : Graph g f.count row_words
    graph = loaded_graph L s (sound_of s).narrow f.octets f.count (drop (f.count * row_words) table) g loaded (omega (arith, sizes f, few)) right

    rings : found f.count (λ a. reaches f.count (related g row_words) a a) ≡ found f.count is_on_ring
    rings = ap (if_below f.count) (loaded_ring L s (sound_of s).narrow f.octets f.count (drop (f.count * row_words) table) g loaded (omega (arith, sizes f, few)) right)

    ten : (e : ℕ) → Some e ≡ found f.count (λ a. reaches f.count (related g row_words) a a) → Err (OnRing e) ≡ set_questions L f.count sees
    ten e q = sym (to-rings ∙ each_first f.count is_on_ring OnRing (Ok tt) e (lowest_found f.count is_on_ring e (q ∙ rings)))

    passed : None ≡ found f.count (λ a. reaches f.count (related g row_words) a a) → Ok tt ≡ set_questions L f.count sees
    passed q = sym (to-rings ∙ each_yes f.count is_on_ring OnRing (Ok tt) (none_found f.count is_on_ring (q ∙ rings)))

pub load_sets-requires : goal.load_sets-requires
load_sets-requires c = record { n_in_bounds = c.requires.n_in_bounds; n_bound = c.requires.n_bound; work_words_in_bounds = c.requires.work_words_in_bounds }

-- a no: all words cleared
cleared : (L : Layout) (s l k z : List ℕ) (number : ℕ) → 3 ≤ number → work_words ≤ length k → drop work_words k ≡ drop work_words l
    → z ≡ replicate (length (take work_words k)) 0 → z ++ drop work_words k ≡ work_after L number s l
cleared L s l k z number h m e q = work-refused L number s l (z ++ drop work_words k) h (zero-first work_words l k z m e q)

pub slice_bounds-fill-end-in-Some : goal.slice_bounds-fill-end-in-Some
slice_bounds-fill-end-in-Some c = let k = c.load_sets.new.table in omega (arith, length-take-le work_words k (omega (arith, c.in-Some.ensures.rest, c.requires.work_words_in_bounds)))

pub slice_bounds-fill-end-in-Some-lowest_on_ring-2 : goal.slice_bounds-fill-end-in-Some-lowest_on_ring-2
slice_bounds-fill-end-in-Some-lowest_on_ring-2 c =
    let k = c.load_sets.new.table in
    omega (arith, length-take-le work_words k (omega (arith, c.in_default.ensures.rest, c.requires.work_words_in_bounds)))

pub returns-in-Some : goal.returns-in-Some
returns-in-Some c =
    let f = c.args.self.now in
    let e = c.in-Some.ensures in record {
      value = nine f c.in-Some.event e.value;
      table_after = cleared (L f) (s f) c.args.table.now c.load_sets.new.table c.fill.new.self 9 (omega arith) (omega (arith, e.rest, c.requires.work_words_in_bounds)) e.rest.1 (search rules);
    }

pub invariant_of-relation : goal.invariant_of-relation
invariant_of-relation c =
    let e = c.in_default.ensures in
    record { graph = graph c.args.self.now c.requires.n_bound e.value c.load_sets.new.table c.args.table.now (e.loaded refl) }

pub returns-in-Some-lowest_on_ring : goal.returns-in-Some-lowest_on_ring
returns-in-Some-lowest_on_ring c =
    let f = c.args.self.now in
    let e = c.in_default.ensures in record {
      value = ten f c.requires.n_bound e.value c.load_sets.new.table c.args.table.now (e.loaded refl) c.in-Some-lowest_on_ring.event c.in-Some-lowest_on_ring.ensures;
      table_after = cleared (L f) (s f) c.args.table.now c.load_sets.new.table c.fill-in-Some-lowest_on_ring.new.self 10 (omega arith) (omega (arith, e.rest, c.requires.work_words_in_bounds)) e.rest.1 (search rules);
    }

pub returns : goal.returns
returns c =
    let f = c.args.self.now in
    let e = c.in_default.ensures in
    let t = c.args.table.now in
    let g = c.load_sets.new.table in
    let all = visible_cleared (L f) (s f) (sound_of (s f)).narrow (most f c.requires.n_bound) f.count t g c.fill-2.new.self f.numbers.0 (e.loaded refl)
    (omega (arith, e.rest, c.requires.work_words_in_bounds)) (search rules) in record {
      value = passed f c.requires.n_bound e.value g t (e.loaded refl) c.in_default-lowest_on_ring.ensures;
      table_after = work-passed (L f) 0 (s f) t _ refl all;
    }
