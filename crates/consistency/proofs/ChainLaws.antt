-- Chains of the table's pairs that compute: none needs more than four pairs; and how many pairs of models they join. Assumes nothing.
use mathlib.Core.Path.{◌≡◌, refl, ap, fun_ext}
use mathlib.Core.Bool.{Bool, true, false, not, ◌&&◌, ◌||◌}
use Prim.Native.Nat.{ℕ, zero, suc, ◌<◌, ◌≤◌}
use native.Mathlib.Omega.{arith}
use borrow.Author.Tests.{leb-true, not-false}
use lib.Dec.{leb}
use Rattle.rows.specs.Lowest.{search_from, lowest, some}
use Rattle.rows.specs.Count.{sum}
use Rattle.rows.specs.Relation.{Rel, Steps, one, more}
use Rattle.rows.proofs.LowestLaws.{some-none, some_at}
use Rattle.rows.proofs.ReachLaws.{reaches-sound, reaches_complete, reaches_step}
use Rattle.rows.proofs.Tests.{tell, never, same_test, or_elim, or_left, and_both, and_left, and_right}
use Rattle.consistency.specs.Lattice.{implications, listed, follows, pairs_of}
use Rattle.consistency.proofs.ModelsGive.{is_model, listed-models, chained_models}

-- a chain of at most k + 1 pairs
unfoldable pub chain : ℕ → Rel
chain zero i j = listed implications i j
chain (suc k) i j = listed implications i j || some 14 (λ m. listed implications i m && chain k m j)

chain_steps : (k i j : ℕ) → chain k i j ≡ true → Steps 14 (listed implications) i j
unfolding chain
chain_steps zero i j e = one e
chain_steps (suc k) i j e =
    let f : ℕ → Bool = λ m. listed implications i m && chain k m j in
    or_elim (listed implications i j) (some 14 f) e one
    (λ q.
    let at = some_at 14 f q in
    let m : ℕ = lowest 14 f in
    more (and_left (listed implications i m) (chain k m j) at.1) at.0 (chain_steps k m j (and_right (listed implications i m) (chain k m j) at.1)))

-- a pair before a chain of at most four that is no chain of at most four; there is none
abbrev longer : ℕ → ℕ → ℕ → Bool
longer i m j = (listed implications i m && chain 3 m j) && not (chain 3 i j)

no_longer : some 14 (λ i. some 14 (λ m. some 14 (longer i m))) ≡ false
unfolding search_from lowest some listed chain
no_longer = refl

pub model_small : (m : ℕ) → is_model m ≡ true → (1 ≤ m) × (m ≤ 13)
model_small m e = (leb-true 1 m (and_left (leb 1 m) (leb m 13) e), leb-true m 13 (and_right (leb 1 m) (leb m 13) e))

below_14 : (m : ℕ) → is_model m ≡ true → m < 14
below_14 m e = omega (arith, (model_small m e).1)

steps-chain : (i j : ℕ) → Steps 14 (listed implications) i j → chain 3 i j ≡ true
unfolding chain
steps-chain i j (one e) = or_left (listed implications i j) _ e
steps-chain i j (more {b = m} e k s) =
    not-false (chain 3 i j) (never (not (chain 3 i j)) (λ t.
    tell (longer i m j)
    (and_both (listed implications i m && chain 3 m j) (not (chain 3 i j)) (and_both (listed implications i m) (chain 3 m j) e (steps-chain m j s)) t)
    (some-none 14 (longer i m) (some-none 14 (λ m. some 14 (longer i m)) (some-none 14 (λ i. some 14 (λ m. some 14 (longer i m))) no_longer i
    (below_14 i (listed-models implications refl i m e).0)) m k) j (below_14 j (chained_models m j s).1))))

-- what follows, follows in at most four steps
pub follows-chain : (i j : ℕ) → follows i j ≡ chain 3 i j
unfolding follows
follows-chain i j =
    same_test (follows i j) (chain 3 i j)
    (λ e. steps-chain i j (reaches-sound 14 (listed implications) i j e))
    (λ e. reaches_complete 14 (listed implications) (chain_steps 3 i j e))

-- a pair of the table follows
pub listed-follows : (i j : ℕ) → listed implications i j ≡ true → follows i j ≡ true
unfolding follows
listed-follows = reaches_step 14 (listed implications)

-- ---- how many pairs of different models: in the table, that follow, and the others

pub eighteen : pairs_of (listed implications) ≡ 18
unfolding pairs_of sum listed
eighteen = refl

by_chain : (f : Bool → Bool) → pairs_of (λ i j. f (follows i j)) ≡ pairs_of (λ i j. f (chain 3 i j))
by_chain f = ap pairs_of (fun_ext (λ i. fun_ext (λ j. ap f (follows-chain i j))))

pub forty_three : pairs_of follows ≡ 43
unfolding pairs_of sum search_from lowest some listed chain
forty_three = by_chain (λ t. t)

pub the_others : pairs_of (λ i j. not (follows i j)) ≡ 113
unfolding pairs_of sum search_from lowest some listed chain
the_others = by_chain not
