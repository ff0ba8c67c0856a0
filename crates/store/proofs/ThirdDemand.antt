-- The third demand's claim on the record, for all openings and every script of bytes: it passes every question, and predicates 10, 11 and 1 hold. Assumes nothing.
use mathlib.Core.Path.{◌≡◌, sym, ◌∙◌, subst}
use mathlib.Core.List.{List}
use Prim.Native.Nat.{ℕ, ◌≤◌}
use Rattle.record.specs.Layout.{Layout, store_edition, store_layout, edition_of, count_in}
use Rattle.record.specs.History.{History, history_of, under, vis}
use Rattle.record.specs.Answers.{Passes}
use Rattle.record.specs.Encode.{record_bytes}
use Rattle.record.specs.WellFormed.{WellFormed}
use Rattle.record.proofs.StoresLaws.{Bytes}
use Rattle.record.proofs.QuestionsAnswered.{passed-right, ring_iff_steps}
use Rattle.record.proofs.EncodedPasses.{encoded, edition-back}
use Rattle.record.proofs.SoundLayout.{store-sound}
use Rattle.consistency.specs.Holds.{Holds}
use Rattle.consistency.specs.declared.Predicate.{Predicate}
use Rattle.consistency.specs.declared.Predicate.TheVariants.{RVal, CausalVisibility, CausalArbitration}
use Rattle.consistency.proofs.MetIffHolds.{met_holds, holds-met}
use Rattle.consistency.proofs.SameVerdict.{verdict-same}
use Rattle.consistency.proofs.HappensBefore.{hb_iff_chain}
use Rattle.store.specs.Store.{fresh}
use Rattle.store.specs.Calls.{Call, calls_of}
use Rattle.store.specs.Rules.{run}
use Rattle.store.specs.Recorded.{recorded, store_record}
use Rattle.store.specs.Rehearsal.{terms_of, store_after, record_of}
use Rattle.store.specs.Demand.{CausalRecord}
use Rattle.store.proofs.Sizes.{AllFit, calls_fit}
use Rattle.store.proofs.StoreIsCausal.{store_well_formed, store-causal-visibility, store-causal-arbitration, store-r_val}
use Rattle.store.proofs.OpeningTerms.{openings_formed}

-- the record of a history of well_formed events is of that edition by its letters, passes, and has what the history has
module _ (n : ℕ) (h : History) (good : WellFormed store_layout n h) where
  abbrev s : List ℕ
  s = record_bytes store_layout n h

  back : store_layout ≡ edition_of s
  back = sym (edition-back store_edition n h good)

  record_passes : Passes (edition_of s) s
  record_passes = subst (λ (L : Layout). Passes L s) back (passed-right store_layout s (encoded store_layout store-sound n h good).passes)

  holds_in_record : (p : Predicate) → Holds p h → Holds p (history_of (edition_of s) s)
  holds_in_record p holds =
      let r : History = history_of store_layout s in
      subst (λ (L : Layout). Holds p (history_of L s)) back
      (met_holds p r (sym (verdict-same h r (encoded store_layout store-sound n h good).agrees p) ∙ holds-met p h good.distinct holds))

-- ---- every list of calls that fit

module _ (n : ℕ) (least : 1 ≤ n) (most : n ≤ 8) (openings : List ℕ) (opens : Bytes openings) (cs : List Call) (fit : AllFit cs) where
  -- the history of their store, on the terms of the openings
  abbrev left : History
  left = under (terms_of openings) (recorded (run n (fresh (terms_of openings)) cs))

  pub calls_formed : WellFormed store_layout n (under (terms_of openings) (recorded (run n (fresh (terms_of openings)) cs)))
  calls_formed = store_well_formed n least most (terms_of openings) (openings_formed openings opens) cs fit

  pub calls_demand : CausalRecord (store_record store_layout n (terms_of openings) (run n (fresh (terms_of openings)) cs))
  unfolding store_record
  calls_demand =
      let s : List ℕ = record_bytes store_layout n left in
      record {
        passes = record_passes n left calls_formed;
        visibility = holds_in_record n left calls_formed CausalVisibility (store-causal-visibility n most (terms_of openings) cs);
        arbitration = holds_in_record n left calls_formed CausalArbitration (store-causal-arbitration n most (terms_of openings) cs);
        r_val = holds_in_record n left calls_formed RVal (store-r_val n most (terms_of openings) cs);
        chains = hb_iff_chain (history_of (edition_of s) s);
        rings = ring_iff_steps (count_in s) (vis (history_of (edition_of s) s));
      }

-- ---- every script

pub script_formed : (n : ℕ) → 1 ≤ n → n ≤ 8 → (openings script : List ℕ) → Bytes openings → Bytes script
    → WellFormed store_layout n (under (terms_of openings) (recorded (store_after n openings script)))
unfolding store_after
script_formed n least most openings script opens bytes = calls_formed n least most openings opens (calls_of script) (calls_fit script bytes)

pub third_demand : (n : ℕ) → 1 ≤ n → n ≤ 8 → (openings script : List ℕ) → Bytes openings → Bytes script → CausalRecord (record_of n openings script)
unfolding record_of store_after
third_demand n least most openings script opens bytes = calls_demand n least most openings opens (calls_of script) (calls_fit script bytes)
