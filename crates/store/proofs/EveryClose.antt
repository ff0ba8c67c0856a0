-- Close of trading, on every store that a list of calls reaches: after it no site lacks a put and all cells agree; its answer has the pairs that
-- were lacking; and none of its deliveries meets an unmet need. Assumes nothing.
use mathlib.Core.Path.{◌≡◌, refl, ap, ◌∙◌}
use mathlib.Core.Bool.{false}
use mathlib.Core.List.{List, ◌∷◌, ◌++◌}
use Prim.Native.Nat.{ℕ, ◌≤◌, ◌<◌}
use native.Mathlib.Nat.{mul-le-mul}
use native.Mathlib.Omega.{arith}
use lib.ListN.{replicate}
use Rattle.record.specs.Encode.{little_bytes}
use Rattle.record.specs.Terms.{Terms}
use Rattle.store.specs.Store.{Store, fresh}
use Rattle.store.specs.Calls.{Call, close, calls_from, calls_of}
use Rattle.store.specs.Rules.{refusal, close_copies, effect, after_call, run, done_answer, answer, answers}
use Rattle.store.specs.Outstanding.{lacks}
use Rattle.store.specs.Close.{close_answer, AllAgree, Closes}
use Rattle.store.specs.Rehearsal.{terms_of, store_before, call_count, call_in, answer_in}
use Rattle.store.proofs.Invariant.{StoreInv}
use Rattle.store.proofs.RunKeeps.{copies-keep, copies_inv, every-run}
use Rattle.store.proofs.OutstandingLaws.{outstanding-most, known-put}
use Rattle.store.proofs.CloseLaws.{close-none-lacking, copied-outstanding}
use Rattle.store.proofs.Sizes.{Limits, every_limits}
use Rattle.store.proofs.NeedsMet.{needs_met}
use Rattle.store.proofs.CellsAgree.{KnowsAll, cells_agree, gets-agree}
use Rattle.store.proofs.WholeList.{each_answer}

-- where no site lacks a put, all agree
all_agree : (n : ℕ) → n ≤ 8 → {T : Terms} (st : Store) → StoreInv n T st.event st
    → ((w t : ℕ) → w < st.count → t < n → lacks st t w ≡ false) → AllAgree n st
all_agree n n≤8 st ok none = record {
  none_lacking = none;
  cells = agree;
  gets = λ s t o s<n t<n. gets-agree n st s t o s<n t<n (agree s t o s<n t<n);
}
  where
    knows_all : (t : ℕ) → t < n → KnowsAll st t
    knows_all t t<n w l = known-put (st.event w).is_put ((st.site t).known w) (none w t l t<n)

    agree : (s t o : ℕ) → s < n → t < n → (st.site s).cell o ≡ (st.site t).cell o
    agree s t o s<n t<n = cells_agree n n≤8 st ok s t (knows_all s s<n) (knows_all t t<n) o

module _ (n : ℕ) (n≤8 : n ≤ 8) {T : Terms} (st : Store) (ok : StoreInv n T st.event st) where
  -- a close adds no event
  count_stays : (effect n st close).count ≡ st.count
  unfolding effect
  count_stays = copies-keep n (λ (x : Store). x.count ≡ st.count) (λ x w t r h. h) (close_copies n st) st refl

  -- and is not refused
  leaves : AllAgree n (after_call n st close)
  unfolding after_call refusal effect
  leaves =
      all_agree n n≤8 (effect n st close) (copies_inv n n≤8 (close_copies n st) st ok)
      (λ w t l t<n. close-none-lacking n n≤8 st ok w t (omega (arith, count_stays)) t<n)

  answered : answer n st close ≡ close_answer n st
  unfolding answer refusal done_answer
  answered = ap (λ (copies : ℕ). 0 ∷ 1 ∷ (replicate 2 0 ++ little_bytes 4 copies)) (copied-outstanding n n≤8 st ok)

  store-close : Limits st → Closes n st
  store-close limits = record {
    leaves = leaves;
    answered = answered;
    few = omega (arith, outstanding-most n st, mul-le-mul n≤8 limits.count);
    needs_met = needs_met n n≤8 st ok;
  }

pub every-close : (n : ℕ) → n ≤ 8 → (T : Terms) (cs : List Call) → Closes n (run n (fresh T) cs)
every-close n n≤8 T cs = store-close n n≤8 (run n (fresh T) cs) (every-run n n≤8 T cs) (every_limits n T cs)

-- and by its place in a script: the store that it finds, and its eight bytes, whatever stands behind the answers
pub close_at : (n : ℕ) → n ≤ 8 → (openings script rest : List ℕ) (k : ℕ) → k < call_count script → call_in script k ≡ close
    → Closes n (store_before n openings script k)
    × (answer_in (answers n (fresh (terms_of openings)) (calls_of script) ++ rest) k ≡ close_answer n (store_before n openings script k))
unfolding store_before
close_at n n≤8 openings script rest k l e =
    let c : Closes n (store_before n openings script k) = every-close n n≤8 (terms_of openings) (calls_from k script 0) in
    (c, each_answer n openings script rest k l ∙ ap (answer n (store_before n openings script k)) e ∙ c.answered)
