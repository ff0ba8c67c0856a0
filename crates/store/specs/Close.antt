-- What close of trading brings about: no site lacks a put, and the cells of all sites agree.
use Rattle.std.specs.Prelude.{◌≡◌, false, List, ◌∷◌, ◌++◌, ℕ, ◌*◌, ◌≤◌, ◌<◌, replicate}
use Rattle.record.specs.Layout.{most_events}
use Rattle.record.specs.Encode.{little_bytes}
use Rattle.store.specs.Store.{Store}
use Rattle.store.specs.Calls.{get, close}
use Rattle.store.specs.Rules.{Copy, copy_refusal, after_copies, close_copies, after_call, answer}
use Rattle.store.specs.Outstanding.{lacks, outstanding}

-- no site below n lacks a put; their cells are the same, in value, stamp and site or in the opening that they still hold; so a get of one object is answered the same at any two of them
pub record AllAgree (n : ℕ) (st : Store) : Type 0 where
  pub none_lacking : (w t : ℕ) → w < st.count → t < n → lacks st t w ≡ false
  pub cells : (s t o : ℕ) → s < n → t < n → (st.site s).cell o ≡ (st.site t).cell o
  pub gets : (s t o : ℕ) → s < n → t < n → answer n st (get s o) ≡ answer n st (get t o)

-- a close's answer: 0, 1, two zeros, and in four bytes the number of pairs that were lacking
abbrev pub close_answer : ℕ → Store → List ℕ
close_answer n st = 0 ∷ 1 ∷ (replicate 2 0 ++ little_bytes 4 (outstanding n st))

-- a close at n sites of the store st: what it leaves; its answer, which has the number of pairs that were lacking, so few that four
-- bytes hold it; and that none of its deliveries meets an unmet need (36)
pub record Closes (n : ℕ) (st : Store) : Type 0 where
  pub leaves : AllAgree n (after_call n st close)
  pub answered : answer n st close ≡ close_answer n st
  pub few : outstanding n st ≤ 8 * most_events
  pub needs_met : (front rest : List Copy) (c : Copy) → close_copies n st ≡ front ++ (c ∷ rest) → copy_refusal n (after_copies n st front) c ≡ 36 → ⊥
