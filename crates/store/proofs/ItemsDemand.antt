-- The third demand with keeps and returns in the script: what the code has to show is what it writes, and the rest follows, since the calls that
-- remain are a list of calls. Assumes nothing.
use mathlib.Core.Path.{◌≡◌, sym, ap, ◌∙◌}
use mathlib.Core.List.{List, [], ◌∷◌, ◌++◌}
use Prim.Native.Nat.{ℕ, zero, suc, ◌+◌, ◌-◌, ◌*◌, ◌/◌, ◌≤◌}
use native.Mathlib.Nat.{mul-zero}
use native.Mathlib.Omega.{arith}
use lib.ListN.{length, drop}
use Rattle.record.proofs.StoresLaws.{Bytes}
use Rattle.record.specs.Terms.{Terms}
use Rattle.store.specs.Store.{Store, fresh}
use Rattle.store.specs.Calls.{Call, close}
use Rattle.store.specs.Rules.{after_call, run}
use Rattle.store.specs.Outstanding.{outstanding, puts}
use Rattle.store.specs.Named.{Item, call, items_from, items_of, Day, after_item, remaining, item_answers}
use Rattle.store.specs.Rehearsal.{terms_of}
use Rattle.store.specs.Demand.{CausalRecord}
use Rattle.store.specs.NamedDemand.{remaining_up_to, items_store, items_record, RehearsesItems}
use Rattle.store.proofs.Sizes.{Fits, AllFit, call_fits}
use Rattle.store.proofs.OutstandingLaws.{outstanding-none}
use Rattle.store.proofs.EveryClose.{every-close}
use Rattle.store.proofs.EveryCopy.{every_copy}
use Rattle.store.proofs.ThirdDemand.{calls_demand}
use Rattle.store.proofs.NamedLaws.{OfCall, OfCalls}
use Rattle.store.proofs.Remaining.{store-remaining, stores_more, remaining-keeps}
use Rattle.store.proofs.RemainingTold.{item_elim, remaining-told_adds_up}
use Rattle.store.proofs.CallsAlone.{alone-remaining}

-- ---- the calls that remain fit

fit_more : (cs : List Call) (c : Call) → Fits c → AllFit cs → AllFit (cs ++ (c ∷ []))
fit_more [] c f h = (f, tt)
fit_more (d ∷ cs) c f h = (h.0, fit_more cs c f h.1)

items_fit : (s : List ℕ) → Bytes s → (k at : ℕ) → OfCalls Fits (items_from k s at)
unfolding items_from
items_fit s h zero at = tt
items_fit s h (suc k) at = (item_elim (OfCall Fits) s at (λ q. tt) (λ q. tt) (call_fits s h at), items_fit s h k (at + 8))

pub remaining_fit : (n : ℕ) (openings script : List ℕ) → Bytes script → AllFit (remaining n (terms_of openings) (items_of script))
unfolding items_of
remaining_fit n openings script bytes =
    remaining-keeps n (terms_of openings) Fits AllFit tt (λ cs c f h r. fit_more cs c f h) (items_of script) (items_fit script bytes (length script / 8) 0)

-- ---- so their record is causal

pub items_demand : (n : ℕ) → 1 ≤ n → n ≤ 8 → (openings script : List ℕ) → Bytes openings → Bytes script → CausalRecord (items_record n openings script)
unfolding items_record items_store
items_demand n least most openings script opens bytes =
    calls_demand n least most openings opens (remaining n (terms_of openings) (items_of script)) (remaining_fit n openings script bytes)

pub rehearses_items : (n : ℕ) → 1 ≤ n → n ≤ 8 → (openings script rec ans rec' ans' : List ℕ) (left : ℕ) → Bytes openings → Bytes script
    → rec' ≡ items_record n openings script ++ drop (length (items_record n openings script)) rec
    → ans' ≡ item_answers n (terms_of openings) (items_of script) ++ drop (length script) ans
    → left ≡ outstanding n (items_store n openings script)
    → RehearsesItems n openings script rec ans rec' ans' left
unfolding items_store
rehearses_items n least most openings script rec ans rec' ans' left opens bytes recorded answered copies = record {
  recorded = recorded;
  answered = answered;
  copies = copies;
  causal = items_demand n least most openings script opens bytes;
  closes = λ k l e. every-close n most (terms_of openings) (remaining_up_to k n openings script);
  adds_up = rw copies (every_copy n most (terms_of openings) (remaining n (terms_of openings) (items_of script)));
  alone = rw answered (ap (run n (fresh (terms_of openings))) (alone-remaining n most (terms_of openings) script (drop (length script) ans)));
  told_adds_up = rw (copies, answered) (remaining-told_adds_up n most (terms_of openings) script (drop (length script) ans));
}

-- ---- what follows, of the count that a rehearsal tells

module _ (n : ℕ) (n≤8 : n ≤ 8) (openings script rec ans rec' ans' : List ℕ) (left : ℕ) (h : RehearsesItems n openings script rec ans rec' ans' left) where
  -- with one site nothing is outstanding
  pub items_one-site-none : n ≡ 1 → left ≡ 0
  items_one-site-none one =
      let none : n - 1 ≡ 0 = omega arith in
      let k : ℕ = puts (run n (fresh (terms_of openings)) (remaining n (terms_of openings) (items_of script))) in
      omega (arith, h.adds_up, ap (λ (m : ℕ). k * m) none, mul-zero k)

  -- nor after a script whose last item is a close
  pub items_none-after-close : (before : List (Item Call)) → items_of script ≡ before ++ (call close ∷ []) → left ≡ 0
  unfolding items_store after_item
  items_none-after-close before e =
      let T : Terms = terms_of openings in
      let found : Store = run n (fresh T) (remaining n T before) in
      let now : run n (fresh T) (remaining n T (items_of script)) ≡ after_call n found close =
      ap (λ (is : List (Item Call)). run n (fresh T) (remaining n T is)) e
      ∙ sym (store-remaining n T (before ++ (call close ∷ [])))
      ∙ ap (λ (d : Day Store). d.now) (stores_more n T before (call close))
      ∙ ap (λ (st : Store). after_call n st close) (store-remaining n T before) in
      h.copies ∙ rw now (outstanding-none n (after_call n found close) (every-close n n≤8 T (remaining n T before)).leaves.none_lacking)
