-- How large a rehearsal's result is: its parts fit a host's number, and the record is in its buffer. Assumes nothing.
use mathlib.Core.Path.{◌≡◌, refl, ap}
use mathlib.Core.Bool.{Bool, true, false, cond, ◌&&◌}
use mathlib.Core.List.{List, ◌++◌}
use Prim.Native.Nat.{ℕ, ◌-◌, ◌*◌, ◌%◌, ◌≤◌}
use native.Mathlib.Nat.{mul-le-mul}
use native.Mathlib.Omega.{arith}
use lib.Dec.{eqb, leb}
use lib.ListN.{length, drop, length-append}
use borrow.Author.Tests.{eqb-true}
use Rattle.record.specs.Layout.{store_layout, most_events, longest_record}
use Rattle.record.specs.Terms.{openings_right}
use Rattle.record.specs.History.{under}
use Rattle.record.proofs.SoundLayout.{store-sound}
use Rattle.record.proofs.ImageLaws.{length_record}
use Rattle.store.specs.Store.{Store, fresh}
use Rattle.store.specs.Calls.{calls_of}
use Rattle.store.specs.Rules.{run}
use Rattle.record.specs.Questions.{ask}
use Rattle.store.specs.Recorded.{recorded, store_record}
use Rattle.store.specs.Outstanding.{outstanding, puts}
use Rattle.store.specs.Rehearsal.{InNumbers, rehearsal_refusal, terms_of, store_after, record_of, record_after, length_after, outstanding_after}
use Rattle.store.specs.Demand.{Rehearses}
use Rattle.store.proofs.OutstandingLaws.{puts-most}
use Rattle.store.proofs.Sizes.{every_limits}
use Rattle.store.proofs.EveryCopy.{every_copy}
use Rattle.rehearsal.proofs.RehearsalLaws.{store-few, accepted}

ask-most : (t : Bool) (number next m : ℕ) → number ≤ m → next ≤ m → ask t number next ≤ m
ask-most true number next m h k = k
ask-most false number next m h k = h

cond-most : (t : Bool) (x m : ℕ) → (t ≡ true → x ≤ m) → cond t x 0 ≤ m
cond-most true x m h = h refl
cond-most false x m h = omega arith

-- every put lacks at the seven other sites
abbrev pub most_copies : ℕ
most_copies = most_events * 7

pub record SmallResult (r : InNumbers) : Type 0 where
  pub number : r.number ≤ 40
  pub length : r.length ≤ longest_record
  pub outstanding : r.outstanding ≤ most_copies

module _ (n : ℕ) (openings script rec ans : List ℕ) where
  abbrev passed : Bool
  passed = eqb (rehearsal_refusal n openings script rec ans) 0

  refusal-most : rehearsal_refusal n openings script rec ans ≤ 40
  unfolding rehearsal_refusal
  refusal-most =
      ask-most (leb 1 n && leb n 8) 20 _ 40 (omega arith)
      (ask-most (eqb (length script % 8) 0 && leb (length script) 32768) 21 _ 40 (omega arith)
      (ask-most (leb longest_record (length rec)) 22 _ 40 (omega arith)
      (ask-most (leb (length script) (length ans)) 23 _ 40 (omega arith)
      (ask-most (eqb (length openings) 132 && openings_right openings 0) 40 0 40 (omega arith) (omega arith)))))

  record_most : length (record_of n openings script) ≤ longest_record
  unfolding record_of store_record recorded
  record_most = omega (arith, length_record store_layout store-sound (under (terms_of openings) (recorded (store_after n openings script))) n, store-few n openings script)

  length_most : length_after n openings script rec ans ≤ longest_record
  unfolding length_after
  length_most = cond-most passed (length (record_of n openings script)) longest_record (λ t. record_most)

  copies-most : outstanding_after n openings script rec ans ≤ most_copies
  unfolding outstanding_after store_after
  copies-most =
      let st : Store = run n (fresh (terms_of openings)) (calls_of script) in
      let few : puts st ≤ most_events = omega (arith, puts-most st, (every_limits n (terms_of openings) (calls_of script)).count) in
      cond-most passed (outstanding n st) most_copies
      (λ t.
      let n≤8 : n ≤ 8 = (accepted n openings script rec ans (eqb-true (rehearsal_refusal n openings script rec ans) 0 t)).most in
      let sites : n - 1 ≤ 7 = omega arith in
      omega (arith, every_copy n n≤8 (terms_of openings) (calls_of script), mul-le-mul few sites))

  -- a record is in front of the buffer that it is in
  within : length_after n openings script rec ans ≤ length (record_after n openings script rec ans)
  unfolding length_after record_after
  within = go passed
    where
      s : List ℕ
      s = record_of n openings script

      go : (t : Bool) → cond t (length s) 0 ≤ length (cond t (s ++ drop (length s) rec) rec)
      go true = omega (arith, length-append s (drop (length s) rec))
      go false = omega arith

  module _ (rec' ans' : List ℕ) (r : InNumbers) (h : Rehearses n openings script rec ans rec' ans' r) where
    pub result_small : SmallResult r
    result_small = record {
      number = omega (arith, h.number, refusal-most);
      length = omega (arith, h.length, length_most);
      outstanding = omega (arith, h.copies, copies-most);
    }

    pub record_inside : r.length ≤ length rec'
    record_inside = omega (arith, h.length, ap length h.recorded, within)
