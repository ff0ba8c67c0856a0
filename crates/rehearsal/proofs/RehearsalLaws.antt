-- A rehearsal, refused or accepted, meets the third demand. Assumes nothing.
use mathlib.Core.Path.{◌≡◌, refl, sym, ap, ap₂, ◌∙◌}
use mathlib.Core.Bool.{Bool, true, false, not, ◌&&◌}
use mathlib.Core.List.{List, ◌++◌}
use Prim.Native.Nat.{ℕ, ◌+◌, ◌*◌, ◌-◌, ◌%◌, ◌≤◌, ◌<◌}
use native.Mathlib.Omega.{arith}
use lib.Dec.{eqb, leb}
use lib.ListN.{length, take, drop}
use lib.Seq.{take_at, drop_at}
use borrow.Author.Tests.{eq-eqb, ne_eqb, eqb-true, leb-true}
use Rattle.rows.specs.Count.{sum, how_many}
use Rattle.rows.specs.Row.{has, only_first}
use Rattle.rows.proofs.Tests.{and_left, and_right}
use Rattle.rows.proofs.CountLaws.{sum_same, many_same, many_past}
use Rattle.record.specs.Layout.{store_edition, store_layout, edition_of, byte, most_events, longest_record}
use Rattle.record.specs.Terms.{opening_in, openings_right}
use Rattle.record.specs.History.{History, under}
use Rattle.record.specs.Encode.{little_bytes, blocks_for, opening_bytes, terms_bytes, record_bytes}
use Rattle.record.proofs.StoresLaws.{stands-front, zero-at, Bytes}
use Rattle.record.proofs.SoundLayout.{store-sound}
use Rattle.record.proofs.ImageLaws.{length_record, terms_stand, openings_stand}
use Rattle.record.proofs.OpeningLaws.{length_openings}
use Rattle.record.proofs.WrittenLaws.{openings_again}
use Rattle.record.proofs.EncodedPasses.{edition-back}
use Rattle.store.specs.Store.{Site, Store, fresh}
use Rattle.store.specs.Calls.{calls_of}
use Rattle.record.specs.Questions.{ask}
use Rattle.store.specs.Rules.{answers}
use Rattle.store.specs.Recorded.{recorded, store_record}
use Rattle.store.specs.Outstanding.{lacks, outstanding, AddsUp, ToldAddsUp}
use Rattle.std.specs.Prelude.{Err}
use Rattle.store.specs.declared.Unrehearsed.{Unrehearsed}
use Rattle.store.specs.declared.Unrehearsed.TheVariants.{Sites, Script, ShortRecord, ShortAnswers, Openings}
use Rattle.store.specs.Rehearsal.{unrehearsed_number, in_numbers, rehearsal_refusal, terms_of, store_after, call_count, answer_in, record_of, record_after, answers_after, length_after, outstanding_after}
use Rattle.calls.specs.Lent.{Lent, row_in, store_in}
use Rattle.calls.proofs.LentLaws.{store-count, site-at, put-told}
use Rattle.rehearsal.specs.Runs.{Ran, Ordered}
use Rattle.rehearsal.proofs.ImageLaws.{events_worded}
use Rattle.store.specs.Demand.{Rehearses}
use Rattle.store.proofs.RunKeeps.{every-run}
use Rattle.store.proofs.Invariant.{StoreInv}
use Rattle.store.proofs.Sizes.{every_limits, sizes}
use Rattle.store.proofs.StoreIsCausal.{key_once}
use Rattle.store.proofs.WholeList.{each_answer, beyond_answers}
use Rattle.store.proofs.EveryClose.{every-close, close_at}
use Rattle.store.proofs.EveryCopy.{every_copy}
use Rattle.store.proofs.CopiesTold.{every_copy_told}
use Rattle.store.proofs.ThirdDemand.{script_formed, third_demand}

-- ---- what a run leaves is small

pub store-few : (n : ℕ) (openings script : List ℕ) → (store_after n openings script).count ≤ most_events
unfolding store_after
store-few n openings script = (every_limits n (terms_of openings) (calls_of script)).count

module _ (n : ℕ) (n≤8 : n ≤ 8) (openings script out out' : List ℕ) (z : Lent) (ran : Ran n (terms_of openings) script out out' z) where
  abbrev st : Store
  st = store_in (terms_of openings) z

  left : st ≡ store_after n openings script
  unfolding store_after
  left = ran.store

  keeps : StoreInv n (terms_of openings) st.event st
  keeps = rw ran.store (every-run n n≤8 (terms_of openings) (calls_of script))

  few : z.count ≤ most_events
  few = omega (arith, store-few n openings script, ap (λ (s : Store). s.count) left, store-count (terms_of openings) z)

  -- so its record can be written
  pub ran_ordered : Ordered z.count z.events
  ran_ordered =
      let counted : (e : ℕ) → e < z.count → e < st.count = λ e l. rw (store-count (terms_of openings) z) l in
      let words = events_worded (terms_of openings) z in
      record {
        long = ran.sized.events;
        few = few;
        order = λ e l. omega (arith, (words e l).0, (words e l).1, (sizes n n≤8 st keeps).stamp e (counted e l), store-count (terms_of openings) z);
        distinct = λ d e k l q. key_once n n≤8 st keeps d e (counted d k) (counted e l) ((words d k).0 ∙ q ∙ sym (words e l).0);
      }

  -- what site u lacks, by the rows of puts and of what it knows
  lacks-right : (u x : ℕ) → u < n → only_first z.puts (row_in z.known u) x ≡ lacks st u x
  lacks-right u x l =
      ap₂ (λ (p k : Bool). p && not k) (sym (put-told (terms_of openings) z ran.clear x)) (sym (ap (λ (a : Site). a.known x) (site-at (terms_of openings) z u (omega arith))))

  pub outstanding-right : sum n (λ u. how_many most_events (only_first z.puts (row_in z.known u))) ≡ outstanding n (store_after n openings script)
  unfolding outstanding
  outstanding-right =
      let k : ℕ = z.count in
      let room : most_events ≡ k + (most_events - k) = omega (arith, few) in
      rw (← left)
      (sum_same n (λ u. how_many most_events (only_first z.puts (row_in z.known u))) (λ u. how_many st.count (lacks st u))
      (λ u l. ap (λ (m : ℕ). how_many m (only_first z.puts (row_in z.known u))) room
      ∙ many_past k (most_events - k) (only_first z.puts (row_in z.known u))
      (λ x m. ap (λ (p : Bool). p && not (has (row_in z.known u) x)) (ran.clear.puts x m))
      ∙ many_same k (only_first z.puts (row_in z.known u)) (lacks st u) (λ x m. lacks-right u x l)
      ∙ ap (λ (m : ℕ). how_many m (lacks st u)) (sym (store-count (terms_of openings) z))))

  -- the record of the store that the arrays stand for is the script's
  pub record_right : store_record store_layout n (terms_of openings) st ≡ record_of n openings script
  unfolding record_of
  record_right = ap (store_record store_layout n (terms_of openings)) left

  pub record_long : length (record_of n openings script) ≡ 512 * blocks_for store_layout z.count
  unfolding record_of store_record recorded
  record_long =
      length_record store_layout store-sound (under (terms_of openings) (recorded (store_after n openings script))) n
      ∙ ap (λ (k : ℕ). 512 * blocks_for store_layout k) (ap (λ (s : Store). s.count) (sym left) ∙ store-count (terms_of openings) z)

-- ---- questions 20 to 23 and 40

ask-passed : (t : Bool) (number next : ℕ) → 0 < number → ask t number next ≡ 0 → (t ≡ true) × (next ≡ 0)
ask-passed true number next h e = (refl, e)
ask-passed false number next h e = absurd (omega arith)

pub record Accepted (n : ℕ) (openings script rec ans : List ℕ) : Type 0 where
  pub least : 1 ≤ n
  pub most : n ≤ 8
  pub whole : length script % 8 ≡ 0
  pub short : length script ≤ 32768
  pub room : longest_record ≤ length rec
  pub answered : length script ≤ length ans
  pub opened : length openings ≡ 132
  pub right : openings_right openings 0 ≡ true

pub accepted : (n : ℕ) (openings script rec ans : List ℕ) → rehearsal_refusal n openings script rec ans ≡ 0 → Accepted n openings script rec ans
unfolding rehearsal_refusal
accepted n openings script rec ans e =
    let q20 = ask-passed (leb 1 n && leb n 8) 20 _ (omega arith) e in
    let q21 = ask-passed (eqb (length script % 8) 0 && leb (length script) 32768) 21 _ (omega arith) q20.1 in
    let q22 = ask-passed (leb longest_record (length rec)) 22 _ (omega arith) q21.1 in
    let q23 = ask-passed (leb (length script) (length ans)) 23 _ (omega arith) q22.1 in
    let q40 = ask-passed (eqb (length openings) 132 && openings_right openings 0) 40 0 (omega arith) q23.1 in
    record {
      least = leb-true 1 n (and_left (leb 1 n) (leb n 8) q20.0);
      most = leb-true n 8 (and_right (leb 1 n) (leb n 8) q20.0);
      whole = eqb-true (length script % 8) 0 (and_left (eqb (length script % 8) 0) (leb (length script) 32768) q21.0);
      short = leb-true (length script) 32768 (and_right (eqb (length script % 8) 0) (leb (length script) 32768) q21.0);
      room = leb-true longest_record (length rec) q22.0;
      answered = leb-true (length script) (length ans) q23.0;
      opened = eqb-true (length openings) 132 (and_left (eqb (length openings) 132) (openings_right openings 0) q40.0);
      right = and_right (eqb (length openings) 132) (openings_right openings 0) q40.0;
    }

-- its record is of the edition that a store writes, by its letters
pub record_edition : (n : ℕ) (openings script rec ans : List ℕ) → rehearsal_refusal n openings script rec ans ≡ 0 → Bytes openings → Bytes script
    → edition_of (record_of n openings script) ≡ store_layout
unfolding record_of store_record
record_edition n openings script rec ans ok opens bytes =
    let right = accepted n openings script rec ans ok in
    edition-back store_edition n (under (terms_of openings) (recorded (store_after n openings script))) (script_formed n right.least right.most openings script opens bytes)

-- says that clocks don't differ
pub record_clocks : (n : ℕ) (openings script : List ℕ) (j : ℕ) → j < 4 → byte (record_of n openings script) (8 + j) ≡ 0
unfolding record_of store_record terms_bytes little_bytes
record_clocks n openings script j l =
    let h : History = under (terms_of openings) (recorded (store_after n openings script)) in
    stands-front (record_bytes store_layout n h) 8 (little_bytes 4 0) (opening_bytes (opening_in openings 0)) (terms_stand store_layout store-sound h n refl) j l
    ∙ zero-at 4 j

-- and has the openings as they were lent
pub record_opened : (n : ℕ) (openings script rec ans : List ℕ) → rehearsal_refusal n openings script rec ans ≡ 0 → Bytes openings
    → (j : ℕ) → j < 132 → byte (record_of n openings script) (12 + j) ≡ byte openings j
unfolding record_of store_record
record_opened n openings script rec ans ok opens j l =
    let right = accepted n openings script rec ans ok in
    let h : History = under (terms_of openings) (recorded (store_after n openings script)) in
    openings_stand store_layout store-sound h n refl j (omega (arith, length_openings (opening_in openings 0)))
    ∙ ap (λ (s : List ℕ). byte s j) (openings_again openings opens right.opened right.right)

-- ---- the demand

number-some : (u : Unrehearsed) → unrehearsed_number u ≡ 0 → ⊥
number-some Sites e = omega arith
number-some Script e = omega arith
number-some ShortRecord e = omega arith
number-some ShortAnswers e = omega arith
number-some Openings e = omega arith

module _ (n : ℕ) (openings script rec ans : List ℕ) where
  pub refused_rehearses : (u : Unrehearsed) → unrehearsed_number u ≡ rehearsal_refusal n openings script rec ans → Rehearses n openings script rec ans rec ans (in_numbers (Err u))
  unfolding record_after answers_after length_after outstanding_after
  refused_rehearses u e =
      let some : unrehearsed_number u ≡ 0 → ⊥ = number-some u in
      let refused : eqb (rehearsal_refusal n openings script rec ans) 0 ≡ false = ne_eqb (rehearsal_refusal n openings script rec ans) 0 (λ z. some (e ∙ z)) in
      record {
        number = e;
        length = rw refused;
        recorded = rw refused;
        answered = rw refused;
        copies = rw refused;
        kept = λ x. (refl, refl);
        front = λ z. absurd (some z);
        beyond = refl;
        edition = λ z. absurd (some z);
        clocks = λ z j l. absurd (some z);
        opened = λ z j l. absurd (some z);
        causal = λ z. absurd (some z);
        each_answer = λ z k l. absurd (some z);
        beyond_answers = λ z. absurd (some z);
        closes = λ z before after e. absurd (some z);
        closes_at = λ z k l e. absurd (some z);
        adds_up = λ z. absurd (some z);
        told_adds_up = λ z. absurd (some z);
      }

  module _ (ok : rehearsal_refusal n openings script rec ans ≡ 0) (opens : Bytes openings) (bytes : Bytes script) where
    n≤8 : n ≤ 8
    n≤8 = (accepted n openings script rec ans ok).most

    -- and what it comes to with the copies that came
    script_adds_up : AddsUp n (terms_of openings) (calls_of script) (outstanding n (store_after n openings script))
    unfolding store_after
    script_adds_up = every_copy n n≤8 (terms_of openings) (calls_of script)

    script_told : (rest : List ℕ) → ToldAddsUp n script (answers n (fresh (terms_of openings)) (calls_of script) ++ rest) (outstanding n (store_after n openings script))
    unfolding store_after
    script_told = every_copy_told n n≤8 (terms_of openings) script

    pub accepted_rehearses : (rec' ans' : List ℕ) (z : Lent) → Ran n (terms_of openings) script ans ans' z → (long copies : ℕ)
        → rec' ≡ store_record store_layout n (terms_of openings) (store_in (terms_of openings) z) ++ drop (512 * blocks_for store_layout z.count) rec
        → long ≡ 512 * blocks_for store_layout z.count
        → copies ≡ sum n (λ u. how_many most_events (only_first z.puts (row_in z.known u)))
        → Rehearses n openings script rec ans rec' ans' (record { number = 0; length = long; outstanding = copies })
    unfolding record_after answers_after length_after outstanding_after
    accepted_rehearses rec' ans' z ran long copies recorded lasts left =
        let answered = ran.answered in
        let same : store_record store_layout n (terms_of openings) (store_in (terms_of openings) z) ≡ record_of n openings script = record_right n n≤8 openings script ans ans' z ran in
        let sized : length (record_of n openings script) ≡ 512 * blocks_for store_layout z.count = record_long n n≤8 openings script ans ans' z ran in
        let yes : eqb (rehearsal_refusal n openings script rec ans) 0 ≡ true = eq-eqb (rehearsal_refusal n openings script rec ans) 0 ok in
        let right = accepted n openings script rec ans ok in
        let whole : rec' ≡ record_of n openings script ++ drop (512 * blocks_for store_layout z.count) rec =
        recorded ∙ ap (λ (s : List ℕ). s ++ drop (512 * blocks_for store_layout z.count) rec) same in
        let long-right : length (record_of n openings script) ≡ long = sized ∙ sym lasts in
        let rest : List ℕ = drop (length script) ans in
        let calls : length script ≡ 8 * call_count script = omega (arith, right.whole) in
        let counted : copies ≡ outstanding n (store_after n openings script) = left ∙ outstanding-right n n≤8 openings script ans ans' z ran in
        record {
          number = sym ok;
          length = rw yes (lasts ∙ sym sized);
          recorded = rw (yes, sized, ← same) recorded;
          answered = rw yes answered;
          copies = rw yes counted;
          kept = λ some. absurd (some refl);
          front = λ q. ap (take long) whole ∙ take_at (record_of n openings script) (drop (512 * blocks_for store_layout z.count) rec) long long-right;
          beyond =
              ap (drop long) whole ∙ drop_at (record_of n openings script) (drop (512 * blocks_for store_layout z.count) rec) long long-right
              ∙ ap (λ (i : ℕ). drop i rec) (sym lasts);
          edition = λ q. record_edition n openings script rec ans ok opens bytes;
          clocks = λ q. record_clocks n openings script;
          opened = λ q. record_opened n openings script rec ans ok opens;
          causal = λ q. third_demand n right.least n≤8 openings script opens bytes;
          each_answer = λ q k l. ap (λ (a : List ℕ). answer_in a k) answered ∙ each_answer n openings script rest k l;
          beyond_answers = λ q. ap (drop (8 * call_count script)) answered ∙ beyond_answers n openings script rest ∙ ap (λ (i : ℕ). drop i ans) calls;
          closes = λ q before after e. every-close n n≤8 (terms_of openings) before;
          closes_at = λ q k l e.
              let c = close_at n n≤8 openings script rest k l e in
              (c.0, ap (λ (a : List ℕ). answer_in a k) answered ∙ c.1);
          adds_up = λ q. rw counted script_adds_up;
          told_adds_up = λ q. rw (answered, counted) (script_told rest);
        }
