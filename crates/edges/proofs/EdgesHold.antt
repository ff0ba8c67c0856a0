-- Every case of the table is right: a test that the checker computes, part by part, or that goes by laws.
use mathlib.Core.Path.{◌≡◌, refl, ap, ◌∙◌}
use mathlib.Core.Bool.{Bool, true, false, ◌&&◌}
use mathlib.Core.List.{List, [], ◌∷◌, ◌++◌}
use Prim.Native.Nat.{ℕ, zero, suc, ◌+◌, ◌%◌, ◌≤◌, ◌<◌}
use native.Mathlib.Omega.{arith}
use borrow.Author.Tests.{le-leb, lt-ltb}
use lib.Dec.{eqb, leb, ltb}
use lib.ListN.{length, replicate, length-replicate}
use Rattle.rows.specs.Lowest.{search_from, lowest, some}
use Rattle.rows.specs.Count.{sum}
use Rattle.rows.specs.Row.{digit, bit_of}
use Rattle.rows.specs.Octets.{has_byte, little}
use Rattle.rows.specs.Relation.{via, reaches}
use Rattle.rows.specs.Shortest.{leads, distance, steps_from, shortest_chain}
use Rattle.record.specs.Layout.{zeros, same, most_events, longest_record}
use Rattle.record.specs.Terms.{opening_in, openings_right}
use Rattle.record.specs.Blocks.{sum_a, sum_b, block_right}
use Rattle.record.specs.History.{history_of, vis}
use Rattle.record.specs.Slots.{place_right, value_right, times_right, gaps_right, event_right, tail_right, slot_right}
use Rattle.record.specs.Questions.{ask, length_right, terms_right, header_right, blocks_right, wrong_position, wrong_set, on_ring, byte_questions, after_length, set_questions, questions}
use Rattle.record.specs.Encode.{little_bytes, bits, set_bytes, slot_bytes, figure_bytes, opening_bytes, terms_bytes, with_terms, with_slots, sealed, unsealed, record_bytes}
use Rattle.consistency.specs.FirstPair.{first_left, first}
use Rattle.consistency.specs.Relations.{ss, ob, rb, so, ar, step, hb, through}
use Rattle.consistency.specs.Reads.{candidate, last_below, last_write, expected, wrong_read, wrong}
use Rattle.consistency.specs.Predicates.{rule, breaks, verdict, numbered}
use Rattle.consistency.specs.Models.{first_broken}
use Rattle.consistency.specs.Explained.{middle_of, told_by}
use Rattle.judge.specs.Judgments.{admission, judged_list, judged, predicate_judgment, packed_judgments}
use Rattle.explain.specs.Explanations.{explained_record, explanation}
use Rattle.store.specs.Store.{Store, fresh}
use Rattle.store.specs.Calls.{put, get, call_at, calls_from, calls_of}
use Rattle.store.specs.Rules.{reached, refusal, copies_of, all_copies, after_copy, after_copies, copied, effect, after_call, run, total, done_answer, answer, answers}
use Rattle.store.specs.Outstanding.{outstanding, puts, told_done, told_copies}
use Rattle.store.specs.Recorded.{rank, recorded, store_record}
use Rattle.store.specs.Rehearsal.{rehearsal_refusal, terms_of, store_after, record_of}
use Rattle.record.specs.Listed.{member, history_of_events}
use Rattle.edges.specs.Cases.{Case, called_after, admitted, no_openings, puts_of, right, all_right, of_empty, of_ring, of_histories, of_breaks, of_clocks, of_largest, of_listing, of_deliveries, of_closes, of_copies, of_block0, of_zeros, of_lacking, of_counts, of_difference, of_exceeded, of_second, of_third, of_past, of_first, of_openings, of_refusals, of_models, of_room, of_scripts, edges}

also : (l m : List Case) → all_right l ≡ true → all_right m ≡ true → all_right (l ++ m) ≡ true
unfolding all_right
also [] m e f = f
also (c ∷ l) m e f = go (right c) (all_right l) (all_right (l ++ m)) e (λ g. also l m g f)
  where
    go : (x y z : Bool) → x && y ≡ true → (y ≡ true → z ≡ true) → x && z ≡ true
    go true y z e g = g e
    go false y z e g = e

-- the test of a part: to unfold it is to unfold all that the cases ask
unfoldable test : List Case → Bool
unfolding search_from lowest some sum leads distance steps_from shortest_chain digit bit_of has_byte little via reaches zeros same sum_a sum_b block_right history_of vis place_right value_right times_right gaps_right event_right tail_right slot_right length_right opening_in openings_right terms_right header_right blocks_right wrong_position wrong_set on_ring byte_questions after_length set_questions questions little_bytes bits set_bytes slot_bytes figure_bytes opening_bytes terms_bytes with_terms with_slots sealed unsealed record_bytes first_left first ss ob rb so ar step hb through candidate last_below last_write expected wrong_read wrong rule breaks verdict numbered first_broken admission judged_list judged predicate_judgment packed_judgments middle_of told_by explained_record explanation call_at calls_from calls_of reached refusal copies_of all_copies after_copy after_copies copied effect after_call run total done_answer answer answers rank recorded store_record rehearsal_refusal store_after record_of outstanding puts told_done told_copies member history_of_events right all_right
test cs = all_right cs

empty_hold : all_right of_empty ≡ true
unfolding test
empty_hold = refl

ring_hold : all_right of_ring ≡ true
unfolding test
ring_hold = refl

histories_hold : all_right of_histories ≡ true
unfolding test
histories_hold = refl

breaks_hold : all_right of_breaks ≡ true
unfolding test
breaks_hold = refl

clocks_hold : all_right of_clocks ≡ true
unfolding test
clocks_hold = refl

largest_hold : all_right of_largest ≡ true
unfolding test
largest_hold = refl

listing_hold : all_right of_listing ≡ true
unfolding test
listing_hold = refl

deliveries_hold : all_right of_deliveries ≡ true
unfolding test
deliveries_hold = refl

closes_hold : all_right of_closes ≡ true
unfolding test
closes_hold = refl

copies_hold : all_right of_copies ≡ true
unfolding test
copies_hold = refl

block0_hold : all_right of_block0 ≡ true
unfolding test
block0_hold = refl

zeros_hold : all_right of_zeros ≡ true
unfolding test
zeros_hold = refl

lacking_hold : all_right of_lacking ≡ true
unfolding test
lacking_hold = refl

counts_hold : all_right of_counts ≡ true
unfolding test
counts_hold = refl

difference_hold : all_right of_difference ≡ true
unfolding test
difference_hold = refl

exceeded_hold : all_right of_exceeded ≡ true
unfolding test
exceeded_hold = refl

second_hold : all_right of_second ≡ true
unfolding test
second_hold = refl

third_hold : all_right of_third ≡ true
unfolding test
third_hold = refl

past_hold : all_right of_past ≡ true
unfolding test
past_hold = refl

first_hold : all_right of_first ≡ true
unfolding test
first_hold = refl

openings_hold : all_right of_openings ≡ true
unfolding test
openings_hold = refl

refusals_hold : all_right of_refusals ≡ true
unfolding test
refusals_hold = refl

models_hold : all_right of_models ≡ true
unfolding test
models_hold = refl

-- ---- the parts that go by laws

none_hold : all_right [] ≡ true
unfolding all_right
none_hold = refl

one : (c : Case) → right c ≡ true → (cs : List Case) → all_right cs ≡ true → all_right (c ∷ cs) ≡ true
unfolding all_right
one c e cs f = rw (e, f) refl

-- as many puts at one site as there is room for are as many events
puts-count : (st : Store) (k : ℕ) → st.count + k ≤ most_events → (run 1 st (puts_of k)).count ≡ st.count + k
unfolding run after_call refusal effect
puts-count st zero h = omega arith
puts-count st (suc k) h =
    let room : st.count < most_events = omega arith in
    let free : refusal 1 st (put 0 0 1) ≡ 0 = rw (lt-ltb st.count most_events room) in
    let next : Store = effect 1 st (put 0 0 1) in
    let done : after_call 1 st (put 0 0 1) ≡ next = rw free in
    ap (λ (x : Store). (run 1 x (puts_of k)).count) done ∙ puts-count next k (omega arith) ∙ omega arith

module _ (k number : ℕ) (h : k ≤ most_events) (e : eqb (ask (ltb k most_events) 34 0) number ≡ true) where
  many : (run 1 (fresh (terms_of no_openings)) (puts_of k)).count ≡ k
  many = puts-count (fresh (terms_of no_openings)) k (omega arith) ∙ omega arith

  put_asked : right (called_after 1 (puts_of k) (put 0 0 1) number) ≡ true
  unfolding right refusal
  put_asked = rw many e

  get_asked : right (called_after 1 (puts_of k) (get 0 0) number) ≡ true
  unfolding right refusal
  get_asked = rw many e

room_hold : all_right of_room ≡ true
room_hold =
    one (called_after 1 (puts_of 383) (put 0 0 1) 0) (put_asked 383 0 (omega arith) refl) _
    (one (called_after 1 (puts_of 383) (get 0 0) 0) (get_asked 383 0 (omega arith) refl) _
    (one (called_after 1 (puts_of 384) (put 0 0 1) 34) (put_asked 384 34 (omega arith) refl) _
    (one (called_after 1 (puts_of 384) (get 0 0) 34) (get_asked 384 34 (omega arith) refl) [] none_hold)))

-- 21 is asked of a script's length
module _ (openings script rec ans : List ℕ) (k : ℕ) (long : length script ≡ k) (room : longest_record ≤ length rec) (answers : k ≤ length ans)
    (fine : (eqb (length openings) 132 && openings_right openings 0) ≡ true) where
  length_asked : rehearsal_refusal 1 openings script rec ans ≡ ask (eqb (k % 8) 0 && leb k 32768) 21 0
  unfolding rehearsal_refusal
  length_asked = rw (long, le-leb longest_record (length rec) room, le-leb k (length ans) answers, fine)

no_openings_lem : (eqb (length no_openings) 132 && openings_right no_openings 0) ≡ true
unfolding test
no_openings_lem = refl

script_asked : (k room number : ℕ) → longest_record ≤ room → eqb (ask (eqb (k % 8) 0 && leb k 32768) 21 0) number ≡ true → right (admitted no_openings 1 (replicate k 0) room k number) ≡ true
unfolding right
script_asked k room number h e =
    ap (λ (x : ℕ). eqb x number)
    (length_asked no_openings (replicate k 0) (replicate room 0) (replicate k 0) k (length-replicate k 0) (omega (arith, length-replicate {A = ℕ} room 0)) (omega (arith, length-replicate {A = ℕ} k 0)) no_openings_lem) ∙ e

scripts_hold : all_right of_scripts ≡ true
scripts_hold =
    one (admitted no_openings 1 (replicate 32768 0) 33280 32768 0) (script_asked 32768 33280 0 (omega arith) refl) _
    (one (admitted no_openings 1 (replicate 32776 0) 33280 32776 21) (script_asked 32776 33280 21 (omega arith) refl) [] none_hold)

pub edges_hold : all_right edges ≡ true
edges_hold =
    also of_empty _ empty_hold
    (also of_ring _ ring_hold
    (also of_histories _ histories_hold
    (also of_breaks _ breaks_hold
    (also of_clocks _ clocks_hold
    (also of_largest _ largest_hold
    (also of_listing _ listing_hold
    (also of_deliveries _ deliveries_hold
    (also of_closes _ closes_hold
    (also of_copies _ copies_hold
    (also of_block0 _ block0_hold
    (also of_zeros _ zeros_hold
    (also of_lacking _ lacking_hold
    (also of_counts _ counts_hold
    (also of_difference _ difference_hold
    (also of_exceeded _ exceeded_hold
    (also of_second _ second_hold
    (also of_third _ third_hold
    (also of_past _ past_hold
    (also of_first _ first_hold
    (also of_openings _ openings_hold
    (also of_refusals _ refusals_hold
    (also of_models _ models_hold
    (also of_room of_scripts room_hold scripts_hold)))))))))))))))))))))))
