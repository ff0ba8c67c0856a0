-- What the judge answers about the eight records, as tests, and the first record that tells two models apart. Assumes nothing.
use mathlib.Core.Path.{◌≡◌, refl, sym, ap, ap₂, ◌∙◌}
use mathlib.Core.Bool.{Bool, true, false, not, ◌&&◌}
use Prim.Native.Nat.{ℕ, ◌+◌, ◌-◌, ◌<◌, ◌≤◌}
use native.Mathlib.Omega.{arith}
use native.Mathlib.Decide.{dec_lt}
use borrow.Author.Tests.{le-leb}
use lib.Dec.{leb}
use Rattle.rows.proofs.LowestLaws.{lowest_hit, lowest-none}
use Rattle.rows.proofs.Tests.{and_both}
use Rattle.record.specs.Listed.{member}
use Rattle.std.specs.Prelude.{Some, None, Ok}
use Rattle.consistency.specs.Models.{list_of, Outcome, first_broken}
use Rattle.consistency.specs.Separating.{numbered_record, separating_history, separating_bytes, tells, separator}
use Rattle.consistency.proofs.Separated.{is_met, meets-listed}
use Rattle.lattice.specs.Answers.{met_by, broken_by}
use Rattle.judge.specs.Covers.{answer}
use Rattle.judge.proofs.CoversExactly.{answer_is}

met_is : (o : Outcome) → met_by (Ok o) ≡ is_met o
met_is None = refl
met_is (Some x) = refl

broken_is : (o : Outcome) → broken_by (Ok o) ≡ not (is_met o)
broken_is None = refl
broken_is (Some x) = refl

module _ (k m : ℕ) (i : 1 ≤ k) (j : k ≤ 8) (l : 1 ≤ m) (o : m ≤ 13) where
  known : answer (separating_bytes k) m ≡ Ok (first_broken (list_of m) (separating_history k))
  known = answer_is k i j m (and_both (leb 1 m) (leb m 13) (le-leb 1 m l) (le-leb m 13 o))

  met-told : met_by (answer (separating_bytes k) m) ≡ member (numbered_record k).meets m
  met-told = ap met_by known ∙ met_is (first_broken (list_of m) (separating_history k)) ∙ meets-listed k m i j l o

  broken-told : broken_by (answer (separating_bytes k) m) ≡ not (member (numbered_record k).meets m)
  broken-told = ap broken_by known ∙ broken_is (first_broken (list_of m) (separating_history k)) ∙ ap not (meets-listed k m i j l o)

-- two models' numbers
abbrev IsModel : ℕ → Type 0
IsModel m = (1 ≤ m) × (m ≤ 13)

tells-told : (k i j : ℕ) → 1 ≤ k → k ≤ 8 → IsModel i → IsModel j → (met_by (answer (separating_bytes k) i) && broken_by (answer (separating_bytes k) j)) ≡ tells k i j
tells-told k i j l m p q = ap₂ ◌&&◌ (met-told k i l m p.0 p.1) (broken-told k j l m q.0 q.1)

pub tells_yes : (k i j : ℕ) → 1 ≤ k → k ≤ 8 → IsModel i → IsModel j → met_by (answer (separating_bytes k) i) ≡ true → broken_by (answer (separating_bytes k) j) ≡ tells k i j
tells_yes k i j l m p q e = sym (ap (λ (t : Bool). t && broken_by (answer (separating_bytes k) j)) e) ∙ tells-told k i j l m p q

pub tells_no : (k i j : ℕ) → 1 ≤ k → k ≤ 8 → IsModel i → IsModel j → met_by (answer (separating_bytes k) i) ≡ false → false ≡ tells k i j
tells_no k i j l m p q e = sym (ap (λ (t : Bool). t && broken_by (answer (separating_bytes k) j)) e) ∙ tells-told k i j l m p q

-- no record below k tells them apart
abbrev pub NoneBelow : ℕ → ℕ → ℕ → Type 0
NoneBelow i j k = (n : ℕ) → 1 ≤ n → n < k → tells n i j ≡ false

pub none_more : (i j k : ℕ) → NoneBelow i j k → tells k i j ≡ false → NoneBelow i j (k + 1)
none_more i j k none here n l m = elim (dec_lt n k) [
  | yes h ↦ none n l h
  | no h ↦ let same : n ≡ k = omega arith in ap (λ (x : ℕ). tells x i j) same ∙ here
]

pub first-told : (i j k : ℕ) → 1 ≤ k → k ≤ 8 → NoneBelow i j k → tells k i j ≡ true → k ≡ separator i j
unfolding separator
first-told i j k l m none here =
    let on : k - 1 + 1 ≡ k = omega arith in
    sym (ap (λ (x : ℕ). x + 1) (lowest_hit 8 (λ n. tells (n + 1) i j) (k - 1) (omega arith) (λ n q. none (n + 1) (omega arith) (omega arith))
    (ap (λ (x : ℕ). tells x i j) on ∙ here)) ∙ on)

pub none_told : (i j k : ℕ) → 9 ≤ k → NoneBelow i j k → separator i j ≡ 9
unfolding separator
none_told i j k l none = ap (λ (x : ℕ). x + 1) (lowest-none 8 (λ n. tells (n + 1) i j) (λ n q. none (n + 1) (omega arith) (omega arith)))
