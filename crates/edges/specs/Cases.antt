-- The table: a history, a record's bytes, or a script, with a question and its answer.
use Rattle.std.specs.Prelude.{Bool, true, false, not, cond, ◌&&◌, List, [], ◌∷◌, ◌++◌, ℕ, ◌+◌, ◌*◌, ◌-◌, eqb, drop, take, replicate, Some, None}
use Rattle.std.proofs.lemmas.List.Edits.{sets}
use Rattle.rows.specs.Octets.{little}
use Rattle.record.specs.Layout.{Layout, gcr1, gcr2, gcr3, same, work_words}
use Rattle.record.specs.History.{History, under}
use Rattle.record.specs.Encode.{opening_bytes, sealed, unsealed, record_bytes}
use Rattle.record.specs.Terms.{Held, none, value, Terms}
use Rattle.consistency.specs.Relations.{rb}
use Rattle.consistency.specs.Predicates.{numbered, verdict}
use Rattle.consistency.specs.Models.{list_of, Outcome, first_broken}
use Rattle.judge.specs.Judgments.{packed_judgment, predicate_judgment_of, packed_judgments_of}
use Rattle.judge.specs.Lists.{packed_verdict}
use Rattle.explain.specs.Explanations.{events_told, explanation_of, packed_explanation}
use Rattle.store.specs.Store.{fresh}
use Rattle.store.specs.Calls.{Call, put, get, calls_of}
use Rattle.store.specs.Rules.{refusal, run, deliveries, copies_by_closes, answers}
use Rattle.store.specs.Outstanding.{puts, outstanding, told_done, told_copies}
use Rattle.store.specs.Rehearsal.{rehearsal_refusal, terms_of, store_after, record_of}
use Rattle.record.specs.Listed.{Time, event, a_read, a_write, returned, pending, history_of_events}

-- no openings, as 132 bytes; and one opening, of one object
abbrev pub no_openings : List ℕ
no_openings = replicate 132 0

abbrev pub opening : ℕ → ℕ → ℕ → Held
opening object v o = cond (eqb o object) (value v) none

pub data Case : Type 0 where
  -- the check sums A and B of a one-block record
  checked : (s : List ℕ) (a b : ℕ) → Case
  -- whether a is rb before b
  before : (h : History) (a b : ℕ) (answer : Bool) → Case
  -- a predicate's verdict on a history, as the host's number
  decided : (h : History) (predicate answer : ℕ) → Case
  -- what a judging call answers of a record's bytes, all questions asked, as the host's number: for a predicate, and for all thirteen
  ruled : (s : List ℕ) (predicate answer : ℕ) → Case
  thirteen : (s : List ℕ) (numbers : List ℕ) → Case
  -- which predicate of a model's list is the first broken one of a history, and at which pair
  modelled : (h : History) (model predicate a b : ℕ) → Case
  -- the events that are told of a predicate's break in a history, none where it is met
  told : (h : History) (predicate : ℕ) (events : List ℕ) → Case
  -- what an explaining call with so many words and entries answers of a record's bytes, as the host's number
  explained_by : (s : List ℕ) (words entries predicate answer : ℕ) → Case
  -- the answer of call k of a script from these openings, all eight bytes
  answered_from : (openings : List ℕ) (sites : ℕ) (script : List ℕ) (k : ℕ) (answer : List ℕ) → Case
  -- the number that refuses a rehearsal, or 0; room and answers are the bytes of its record and answer buffers
  admitted : (openings : List ℕ) (sites : ℕ) (script : List ℕ) (room answers number : ℕ) → Case
  -- what refuses a call, or 0, after other calls from cells without openings
  called_after : (sites : ℕ) (calls : List Call) (c : Call) (number : ℕ) → Case
  -- after a script: its puts, done deliveries, copies delivered by closes, by the rules and by the answers, and copies outstanding
  counted : (sites : ℕ) (script : List ℕ) (made delivered closed left : ℕ) → Case

abbrev same_break : Outcome → ℕ → ℕ → ℕ → Bool
same_break None p a b = false
same_break (Some x) p a b = eqb x.predicate p && (eqb x.first a && eqb x.second b)

unfoldable pub right : Case → Bool
right (checked s a b) = eqb (little 2 s 508) a && eqb (little 2 s 510) b
right (before h a b answer) = cond answer (rb h a b) (not (rb h a b))
right (decided h p answer) = eqb (packed_verdict (verdict (numbered p) h)) answer
right (ruled s p answer) = eqb (packed_judgment (predicate_judgment_of work_words p s)) answer
right (thirteen s numbers) = same (packed_judgments_of work_words s) numbers
right (modelled h m p a b) = same_break (first_broken (list_of m) h) p a b
right (told h p events) = same (events_told (numbered p) h (verdict (numbered p) h)) events
right (explained_by s words entries p answer) = eqb (packed_explanation (explanation_of words entries p s)) answer
right (answered_from openings n script k answer) = same (take 8 (drop (8 * k) (answers n (fresh (terms_of openings)) (calls_of script)))) answer
right (admitted openings n script room answers number) = eqb (rehearsal_refusal n openings script (replicate room 0) (replicate answers 0)) number
right (called_after n calls c number) = eqb (refusal n (run n (fresh (terms_of no_openings)) calls) c) number
right (counted n script made delivered closed left) =
    same (puts (store_after n no_openings script) ∷ deliveries n (fresh (terms_of no_openings)) (calls_of script) ∷ copies_by_closes n (fresh (terms_of no_openings)) (calls_of script) ∷ []) (made ∷ delivered ∷ closed ∷ [])
    && (same (by 1 ∷ by 3 ∷ told_copies script (answers n (fresh (terms_of no_openings)) (calls_of script)) ∷ []) (made ∷ delivered ∷ closed ∷ [])
    && eqb (outstanding n (store_after n no_openings script)) left)
  where
    by : ℕ → ℕ
    by kind = told_done kind script (answers n (fresh (terms_of no_openings)) (calls_of script))

-- with no openings
abbrev answered : ℕ → List ℕ → ℕ → List ℕ → Case
answered = answered_from no_openings

unfoldable pub all_right : List Case → Bool
all_right [] = true
all_right (c ∷ cs) = right c && all_right cs

-- answers as the host's numbers
abbrev met : ℕ
met = 0

abbrev broken : ℕ → ℕ → ℕ
broken a b = 1048576 + 1024 * a + b

abbrev refused : ℕ → ℕ → ℕ
refused number place = 2097152 + 1024 * number + place

-- ---- empty record, one site

abbrev no_events : History
no_events = history_of_events []

-- ---- event 1 starts at t, at a site, and stands before event 0, at site 0, in ar: 3 and 4 are broken where 0 rb 1, else met

abbrev reversed : Time → ℕ → ℕ → History
reversed first site t =
    history_of_events
    (event a_write 0 0 (value 1) 1 first []
    ∷ event a_write site 0 (value 2) 0 (returned t t) []
    ∷ [])

-- terms that say by how much clocks may differ
abbrev differing : ℕ → Terms
differing d = record { difference = d; opening = λ o. none }

-- the largest difference that its field carries, and the largest time
abbrev most32 : ℕ
most32 = 4294967295

abbrev most64 : ℕ
most64 = 18446744073709551615

-- ---- a pending write with two later ar events, the second of which sees l

abbrev pending_write : List ℕ → History
pending_write l =
    history_of_events
    (event a_write 0 0 (value 1) 0 (pending 0) []
    ∷ event a_write 1 0 (value 2) 1 (returned 1 2) []
    ∷ event a_write 1 0 (value 3) 2 (returned 3 4) l
    ∷ [])

-- ---- two events seeing each other

abbrev ring : History
ring =
    history_of_events
    (event a_write 0 0 (value 1) 0 (returned 0 1) (1 ∷ [])
    ∷ event a_write 1 0 (value 2) 1 (returned 0 1) (0 ∷ [])
    ∷ [])

-- ---- a read with no visible write

abbrev lone_read : History
lone_read = history_of_events (event a_read 0 0 none 0 (returned 0 1) [] ∷ [])

-- event 1 holds 0 and sees no write: event 0 writes 0 there, and it is not seen
abbrev lone_read_of0 : History
lone_read_of0 =
    history_of_events
    (event a_write 0 0 (value 0) 0 (returned 0 1) []
    ∷ event a_read 1 0 (value 0) 1 (returned 0 1) []
    ∷ [])

-- ---- write 0; reads 1, 2 at another site; 1 sees 0, 2 sees only 1

abbrev forgetful : History
forgetful =
    history_of_events
    (event a_write 0 0 (value 7) 0 (returned 0 1) []
    ∷ event a_read 1 0 (value 7) 1 (returned 2 3) (0 ∷ [])
    ∷ event a_read 1 0 none 2 (returned 4 5) (1 ∷ [])
    ∷ [])

-- ---- 0 so 1 while 0 sees 1

abbrev foresight : History
foresight =
    history_of_events
    (event a_write 0 0 (value 1) 0 (returned 0 1) (1 ∷ [])
    ∷ event a_write 0 0 (value 2) 1 (returned 2 3) []
    ∷ [])

-- ---- two predicates of a model's list broken, each at a pair of its own

-- the first and the second of every list that has two
abbrev at_odds : History
at_odds =
    history_of_events
    (event a_read 1 0 none 1 (returned 0 3) (1 ∷ [])
    ∷ event a_write 0 1 (value 1) 2 (returned 0 3) []
    ∷ event a_read 0 1 none 0 (returned 4 5) []
    ∷ [])

-- the second and RVal, where vis is ar
abbrev read_first : History
read_first =
    history_of_events
    (event a_write 0 1 (value 2) 1 (returned 0 1) (1 ∷ [])
    ∷ event a_read 0 1 (value 2) 0 (returned 4 5) []
    ∷ [])

-- 11, and 3 and RVal, where 10 is met
abbrev seen_behind : History
seen_behind =
    history_of_events
    (event a_read 1 1 (value 2) 2 (returned 4 5) []
    ∷ event a_read 0 0 (value 1) 1 (returned 0 3) []
    ∷ event a_write 1 1 (value 1) 0 (returned 4 5) (0 ∷ [])
    ∷ [])

-- 3 and RVal, where 10 and 11 are met
abbrev unseen_behind : History
unseen_behind =
    history_of_events
    (event a_write 0 0 (value 2) 1 (returned 0 1) []
    ∷ event a_read 1 0 (value 2) 0 (returned 2 3) []
    ∷ [])

-- ---- breaks that are told

-- from 0 to 4 the two shortest ways go by 2 and by 3; by 1 there is a longer one
abbrev two_ways : History
two_ways =
    history_of_events
    (event a_write 0 0 (value 1) 0 (returned 0 1) []
    ∷ event a_read 1 0 (value 1) 1 (returned 0 1) (0 ∷ [])
    ∷ event a_read 2 0 (value 1) 2 (returned 0 1) (0 ∷ 1 ∷ [])
    ∷ event a_read 3 0 (value 1) 3 (returned 0 1) (0 ∷ [])
    ∷ event a_read 4 0 none 4 (returned 0 1) (2 ∷ 3 ∷ [])
    ∷ [])

-- 2 saw 0, then 3 at its site, which 1 saw
abbrev by_a_site : History
by_a_site =
    history_of_events
    (event a_write 0 0 (value 1) 0 (returned 0 1) []
    ∷ event a_read 2 0 none 3 (returned 9 9) (3 ∷ [])
    ∷ event a_read 1 0 (value 1) 1 (returned 2 3) (0 ∷ [])
    ∷ event a_read 1 0 none 2 (returned 4 5) []
    ∷ [])

-- reads 1 and 2 of site 1 see write 0, and its read 3, the latest, does not
abbrev two_middles : History
two_middles =
    history_of_events
    (event a_write 0 0 (value 7) 0 (returned 0 1) []
    ∷ event a_read 1 0 (value 7) 2 (returned 4 5) (0 ∷ [])
    ∷ event a_read 1 0 (value 7) 1 (returned 2 3) (0 ∷ [])
    ∷ event a_read 1 0 none 3 (returned 6 7) []
    ∷ [])

-- ---- calls

abbrev put_call : ℕ → ℕ → ℕ → List ℕ → List ℕ
put_call site object v rest = 1 ∷ site ∷ object ∷ 0 ∷ v ∷ 0 ∷ 0 ∷ 0 ∷ rest

abbrev get_call : ℕ → ℕ → List ℕ → List ℕ
get_call site object rest = 2 ∷ site ∷ object ∷ 0 ∷ 0 ∷ 0 ∷ 0 ∷ 0 ∷ rest

abbrev deliver_call : ℕ → ℕ → List ℕ → List ℕ
deliver_call w t rest = 3 ∷ t ∷ 0 ∷ 0 ∷ w ∷ 0 ∷ 0 ∷ 0 ∷ rest

-- a close, right only where all seven bytes are zero
abbrev close_call : (a b c d e f g : ℕ) → List ℕ → List ℕ
close_call a b c d e f g rest = 4 ∷ a ∷ b ∷ c ∷ d ∷ e ∷ f ∷ g ∷ rest

abbrev right_close : List ℕ → List ℕ
right_close = close_call 0 0 0 0 0 0 0

-- the listing, at two sites
abbrev listing : List ℕ
listing =
    put_call 0 5 100 (put_call 1 5 200 (deliver_call 0 1 (get_call 1 5 (get_call 0 5 (deliver_call 1 0 (get_call 0 5 []))))))

-- three sites: put e0 at 0, delivered to 1; put e1 at 1; e1 to 2
abbrev out_of_turn : List ℕ
out_of_turn = put_call 0 0 1 (deliver_call 0 1 (put_call 1 0 2 (deliver_call 1 2 [])))

-- one delivery made twice
abbrev twice : List ℕ
twice = put_call 0 0 1 (deliver_call 0 1 (deliver_call 0 1 []))

-- the listing's two puts, two closes, and a get at each site
abbrev closing : List ℕ
closing = put_call 0 5 100 (put_call 1 5 200 (right_close (right_close (get_call 0 5 (get_call 1 5 [])))))

-- at three sites a delivery out of turn, and then a close
abbrev in_turn : List ℕ
in_turn = put_call 0 0 1 (deliver_call 0 1 (put_call 1 0 2 (deliver_call 1 2 (right_close []))))

-- each of the seven bytes is wrong in turn
abbrev wrong_closes : List ℕ
wrong_closes =
    close_call 1 0 0 0 0 0 0 (close_call 0 1 0 0 0 0 0 (close_call 0 0 1 0 0 0 0
    (close_call 0 0 0 1 0 0 0 (close_call 0 0 0 0 1 0 0 (close_call 0 0 0 0 0 1 0 (close_call 0 0 0 0 0 0 1 []))))))

-- at three sites a put that one delivery and a close bring to the others; after the close a get, and a put that is not delivered
abbrev evening : List ℕ
evening = put_call 0 0 1 (deliver_call 0 1 (right_close (get_call 2 0 (put_call 1 0 2 []))))

-- a put, and a get that finds it
abbrev lone_put : List ℕ
lone_put = put_call 0 0 1 (get_call 0 0 [])

-- answers: refused, a done delivery, a done put, a get that found a value, as the event that it became, and a close with the copies that it delivered
abbrev no_call : ℕ → List ℕ
no_call number = number ∷ 0 ∷ 0 ∷ 0 ∷ 0 ∷ 0 ∷ 0 ∷ 0 ∷ []

abbrev delivery_done : List ℕ
delivery_done = no_call 0

abbrev put_done : ℕ → List ℕ
put_done e = 0 ∷ 0 ∷ e ∷ 0 ∷ 0 ∷ 0 ∷ 0 ∷ 0 ∷ []

-- a get that found none is answered by its event alone, as a put is
abbrev found_none : ℕ → List ℕ
found_none = put_done

abbrev found : ℕ → ℕ → List ℕ
found e v = 0 ∷ 1 ∷ e ∷ 0 ∷ v ∷ 0 ∷ 0 ∷ 0 ∷ []

abbrev close_done : ℕ → List ℕ
close_done copies = 0 ∷ 1 ∷ 0 ∷ 0 ∷ copies ∷ 0 ∷ 0 ∷ 0 ∷ []

-- ---- openings

-- terms that say an opening of one object
abbrev opened : ℕ → ℕ → Terms
opened object v = record { difference = 0; opening = opening object v }

-- a returned read of an object that holds 7, and sees no write
abbrev read_of7 : ℕ → History
read_of7 object = history_of_events (event a_read 0 object (value 7) 0 (returned 0 1) [] ∷ [])

-- a block 0 of an edition, with bytes stored over it and its check made anew
abbrev block0 : Layout → ℕ → List ℕ → List ℕ
block0 L at l = sealed 1 (sets (unsealed L 1 no_events) at l)

-- a put over an opening; a get at a site before it comes there, and after
abbrev over_opening : List ℕ
over_opening = put_call 0 3 9 (get_call 1 3 (deliver_call 0 1 (get_call 1 3 (get_call 0 4 []))))

abbrev pub of_empty : List Case
of_empty =
    checked (record_bytes gcr1 1 no_events) 29851 34610
    ∷ thirteen (record_bytes gcr1 1 no_events) (met ∷ met ∷ met ∷ met ∷ met ∷ met ∷ met ∷ met ∷ met ∷ met ∷ met ∷ met ∷ met ∷ [])
    ∷ []

abbrev pub of_ring : List Case
of_ring = ruled (record_bytes gcr1 2 ring) 1 (refused 10 0) ∷ []

abbrev pub of_histories : List Case
of_histories =
    decided (pending_write (1 ∷ [])) 2 met
    ∷ decided (pending_write (0 ∷ 1 ∷ [])) 2 (broken 0 1)
    ∷ decided lone_read 1 met
    ∷ decided lone_read_of0 1 (broken 1 1)
    ∷ decided (under (opened 0 7) (read_of7 0)) 1 met
    ∷ decided (under (opened 0 7) lone_read) 1 (broken 0 0)
    ∷ decided (under (opened 1 7) (read_of7 0)) 1 (broken 0 0)
    ∷ decided (under (opened 0 0) lone_read_of0) 1 met
    ∷ decided (under (opened 0 0) lone_read) 1 (broken 0 0)
    ∷ decided forgetful 9 met
    ∷ decided forgetful 5 (broken 0 2)
    ∷ decided foresight 10 (broken 0 0)
    ∷ []

-- a shortest chain, and of two the one with the lower event; steps of so among those of vis; a ring; the lowest middle event; the pair's second alone;
-- nothing. Then the questions, each asked where the next would get a no too
abbrev pub of_breaks : List Case
of_breaks =
    told two_ways 10 (2 ∷ 4 ∷ [])
    ∷ told by_a_site 10 (2 ∷ 3 ∷ 1 ∷ [])
    ∷ told foresight 10 (1 ∷ 0 ∷ [])
    ∷ told foresight 11 (1 ∷ 0 ∷ [])
    ∷ told two_middles 5 (1 ∷ 3 ∷ [])
    ∷ told by_a_site 9 (3 ∷ [])
    ∷ told forgetful 9 []
    ∷ explained_by [] 2303 0 0 (refused 1 0)
    ∷ explained_by [] 2304 0 0 (refused 2 0)
    ∷ explained_by [] 2304 0 14 (refused 2 0)
    ∷ explained_by [] 2304 383 13 (refused 41 0)
    ∷ explained_by [] 2304 384 13 (refused 3 0)
    ∷ explained_by (record_bytes gcr1 1 no_events) 2304 384 1 (refused 42 0)
    ∷ explained_by (record_bytes gcr1 1 no_events) 2304 383 1 (refused 41 0)
    ∷ []

-- whether event 0 is rb before event 1 on a difference of clocks, and with that 3 and 4, which are broken where it is
abbrev clocked : ℕ → Time → ℕ → ℕ → Bool → List Case → List Case
clocked d first site t answer rest =
    before (under (differing d) (reversed first site t)) 0 1 answer
    ∷ decided (under (differing d) (reversed first site t)) 3 (cond answer (broken 0 1) met)
    ∷ decided (under (differing d) (reversed first site t)) 4 (cond answer (broken 0 1) met)
    ∷ rest

abbrev other_site : ℕ → Time → ℕ → Bool → List Case → List Case
other_site d first t = clocked d first 1 t

abbrev same_site : ℕ → Time → ℕ → Bool → List Case → List Case
same_site d first t = clocked d first 0 t

-- the three cases of rb: between sites by more than the difference, or not, also where a start is less than the difference; at one site no difference
-- counts, for so neither; and a pending event is before nothing
abbrev pub of_clocks : List Case
of_clocks =
    other_site 0 (returned 0 5) 5 false
    (other_site 0 (returned 0 5) 6 true
    (other_site 4 (returned 0 5) 10 true
    (other_site 5 (returned 0 5) 10 false
    (same_site 4 (returned 0 5) 10 true
    (same_site 5 (returned 0 5) 10 true
    (same_site most32 (returned 0 5) 5 false
    (same_site most32 (returned 0 5) 6 true
    (other_site most32 (returned 0 0) most32 false
    (other_site most32 (returned 0 0) (most32 + 1) true
    (other_site most32 (returned 0 0) 1 false
    (other_site 0 (pending 0) 10 false
    (other_site 4 (pending 0) 10 false
    (same_site 4 (pending 0) 10 false
    (decided (under (differing most32) forgetful) 5 (broken 0 2)
    ∷ []))))))))))))))

-- the same where times and difference are the largest that their fields carry: pending; one less than the start, and the start itself; and, with the
-- difference added, one less than the start, the start itself, and a sum of more than 64 bits
abbrev pub of_largest : List Case
of_largest =
    other_site most32 (pending most64) most64 false
    (same_site most32 (pending most64) most64 false
    (same_site most32 (returned 0 (most64 - 1)) most64 true
    (same_site most32 (returned 0 most64) most64 false
    (other_site most32 (returned 0 (most64 - most32 - 1)) most64 true
    (other_site most32 (returned 0 (most64 - most32)) most64 false
    (other_site most32 (returned 0 (most64 - 1)) most64 false
    (other_site most32 (returned 0 most64) most64 false
    [])))))))

abbrev pub of_listing : List Case
of_listing =
    thirteen (record_of 2 no_openings listing) (met ∷ broken 0 1 ∷ broken 2 3 ∷ met ∷ met ∷ met ∷ met ∷ met ∷ met ∷ met ∷ met ∷ met ∷ broken 0 1 ∷ [])
    ∷ answered 2 listing 0 (put_done 0)
    ∷ answered 2 listing 1 (put_done 1)
    ∷ answered 2 listing 2 delivery_done
    ∷ answered 2 listing 3 (found 2 200)
    ∷ answered 2 listing 4 (found 3 100)
    ∷ answered 2 listing 5 delivery_done
    ∷ answered 2 listing 6 (found 4 200)
    ∷ []

abbrev pub of_deliveries : List Case
of_deliveries = answered 3 out_of_turn 3 (no_call 36) ∷ answered 2 twice 1 delivery_done ∷ answered 2 twice 2 (no_call 35) ∷ []

abbrev pub of_closes : List Case
of_closes =
    answered 2 closing 2 (close_done 2)
    ∷ answered 2 closing 3 (close_done 0)
    ∷ answered 2 closing 4 (found 2 200)
    ∷ answered 2 closing 5 (found 3 200)
    ∷ answered 3 in_turn 3 (no_call 36)
    ∷ answered 3 in_turn 4 (close_done 3)
    ∷ answered 2 wrong_closes 0 (no_call 31)
    ∷ answered 2 wrong_closes 1 (no_call 31)
    ∷ answered 2 wrong_closes 2 (no_call 31)
    ∷ answered 2 wrong_closes 3 (no_call 31)
    ∷ answered 2 wrong_closes 4 (no_call 31)
    ∷ answered 2 wrong_closes 5 (no_call 31)
    ∷ answered 2 wrong_closes 6 (no_call 31)
    ∷ []

abbrev pub of_copies : List Case
of_copies =
    counted 2 listing 2 2 0 0
    ∷ counted 3 out_of_turn 2 1 0 3
    ∷ counted 2 twice 1 1 0 0
    ∷ counted 2 closing 2 0 2 0
    ∷ counted 3 evening 2 1 1 2
    ∷ counted 1 lone_put 1 0 0 0
    ∷ counted 8 lone_put 1 0 0 7
    ∷ counted 3 (get_call 0 0 (get_call 1 0 [])) 0 0 0 0
    ∷ counted 2 wrong_closes 0 0 0 0
    ∷ []

abbrev pub of_block0 : List Case
of_block0 =
    ruled (block0 gcr2 12 (1 ∷ [])) 1 met
    ∷ ruled (block0 gcr2 16 (1 ∷ [])) 1 (refused 5 0)
    ∷ ruled (block0 gcr2 143 (1 ∷ [])) 1 (refused 5 0)
    ∷ []

abbrev pub of_zeros : List Case
of_zeros =
    ruled (block0 gcr2 7 (1 ∷ [])) 1 (refused 5 0)
    ∷ ruled (block0 gcr2 8 (255 ∷ 255 ∷ 255 ∷ 255 ∷ [])) 1 met
    ∷ ruled (block0 gcr2 144 (1 ∷ [])) 1 (refused 5 0)
    ∷ ruled (block0 gcr2 3 (51 ∷ [])) 1 met
    ∷ ruled (block0 gcr3 3 (52 ∷ [])) 1 (refused 5 0)
    ∷ []

-- the first edition has zeros where the second has the difference
abbrev pub of_lacking : List Case
of_lacking =
    ruled (block0 gcr1 8 (1 ∷ [])) 1 (refused 5 0)
    ∷ ruled (block0 gcr1 11 (1 ∷ [])) 1 (refused 5 0)
    ∷ []

-- n 257 in an older edition, and 384 and 385 in the third: where n is right, the next question is how many blocks there are
abbrev pub of_counts : List Case
of_counts =
    ruled (block0 gcr2 4 (1 ∷ 1 ∷ [])) 1 (refused 5 0)
    ∷ ruled (block0 gcr3 4 (128 ∷ 1 ∷ [])) 1 (refused 6 0)
    ∷ ruled (block0 gcr3 4 (129 ∷ 1 ∷ [])) 1 (refused 5 0)
    ∷ []

-- four bytes of a difference that all count: 67,305,985 is 1, 2, 3, 4, lowest first
abbrev pub of_difference : List Case
of_difference = ruled (record_bytes gcr2 2 (under (differing 67305985) (reversed (returned 0 5) 1 67305990))) 3 met ∷ []

-- and no other does: a byte behind them is that of an opening
abbrev pub of_exceeded : List Case
of_exceeded =
    ruled (record_bytes gcr2 2 (under (record { difference = 67305985; opening = opening 0 7 }) (reversed (returned 0 5) 1 67305991))) 3 (broken 0 1) ∷ []

-- one event in each edition, of which the first has no room for the opening
abbrev pub of_second : List Case
of_second = ruled (record_bytes gcr2 1 (under (opened 31 7) (read_of7 31))) 1 met ∷ []

abbrev pub of_third : List Case
of_third = ruled (record_bytes gcr3 1 (under (opened 31 7) (read_of7 31))) 1 met ∷ []

abbrev pub of_first : List Case
of_first = ruled (record_bytes gcr1 1 (under (opened 31 7) (read_of7 31))) 1 (broken 0 0) ∷ []

-- object 32 has none, whatever stands where its bit and its value would be: a set bit in the value of object 0, and zeros
abbrev pub of_past : List Case
of_past = ruled (record_bytes gcr2 1 (under (opened 0 7) (history_of_events (event a_read 0 32 none 0 (returned 0 1) [] ∷ [])))) 1 met ∷ []

abbrev pub of_openings : List Case
of_openings =
    answered_from (opening_bytes (opening 3 7)) 2 over_opening 1 (found 1 7)
    ∷ answered_from (opening_bytes (opening 3 7)) 2 over_opening 3 (found 2 9)
    ∷ answered_from (opening_bytes (opening 4 0)) 2 over_opening 4 (found 3 0)
    ∷ answered 2 over_opening 4 (found_none 3)
    ∷ []

abbrev pub of_refusals : List Case
of_refusals =
    admitted (opening_bytes (opening 31 7)) 1 lone_put 33280 16 0
    ∷ admitted (sets no_openings 131 (1 ∷ [])) 1 lone_put 33280 16 40
    ∷ admitted (replicate 131 0) 1 lone_put 33280 16 40
    ∷ admitted (replicate 133 0) 1 lone_put 33280 15 23
    ∷ admitted (replicate 133 0) 1 lone_put 33279 16 22
    ∷ admitted (replicate 133 0) 9 lone_put 33280 16 20
    ∷ []

-- the order of each model's list, by records that break two of it; and that each asks RVal, by one that breaks nothing else
abbrev pub of_models : List Case
of_models =
    modelled at_odds 1 2 0 1
    ∷ modelled at_odds 2 2 0 1
    ∷ modelled at_odds 3 2 0 1
    ∷ modelled at_odds 4 10 1 2
    ∷ modelled at_odds 5 10 1 2
    ∷ modelled at_odds 6 13 2 1
    ∷ modelled at_odds 7 13 2 1
    ∷ modelled read_first 1 3 0 1
    ∷ modelled read_first 2 4 0 1
    ∷ modelled read_first 3 9 0 1
    ∷ modelled read_first 6 9 0 1
    ∷ modelled read_first 7 12 0 1
    ∷ modelled seen_behind 4 11 0 2
    ∷ modelled seen_behind 5 11 0 2
    ∷ modelled unseen_behind 5 3 0 1
    ∷ modelled (read_of7 0) 1 1 0 0
    ∷ modelled (read_of7 0) 2 1 0 0
    ∷ modelled (read_of7 0) 3 1 0 0
    ∷ modelled (read_of7 0) 4 1 0 0
    ∷ modelled (read_of7 0) 5 1 0 0
    ∷ modelled (read_of7 0) 6 1 0 0
    ∷ modelled (read_of7 0) 7 1 0 0
    ∷ []

-- k puts at one site
abbrev pub puts_of : ℕ → List Call
puts_of k = replicate k (put 0 0 1)

-- the last event that there is room for, and the next
abbrev pub of_room : List Case
of_room =
    called_after 1 (puts_of 383) (put 0 0 1) 0
    ∷ called_after 1 (puts_of 383) (get 0 0) 0
    ∷ called_after 1 (puts_of 384) (put 0 0 1) 34
    ∷ called_after 1 (puts_of 384) (get 0 0) 34
    ∷ []

-- the longest script, and one of a call more
abbrev pub of_scripts : List Case
of_scripts =
    admitted no_openings 1 (replicate 32768 0) 33280 32768 0
    ∷ admitted no_openings 1 (replicate 32776 0) 33280 32776 21
    ∷ []

-- the table, in parts that the checker computes one by one, or by laws where parts are long
abbrev pub edges : List Case
edges = of_empty ++ (of_ring ++ (of_histories ++ (of_breaks ++ (of_clocks ++ (of_largest ++ (of_listing ++ (of_deliveries ++ (of_closes ++ (of_copies ++ (of_block0 ++ (of_zeros ++ (of_lacking ++ (of_counts ++ (of_difference ++ (of_exceeded ++ (of_second ++ (of_third ++ (of_past ++ (of_first ++ (of_openings ++ (of_refusals ++ (of_models ++ (of_room ++ of_scripts)))))))))))))))))))))))
