-- Shortest chains: the events by which steps of a relation lead from one event to another, in as few steps as there are, each next one the lowest possible.
use Rattle.std.specs.Prelude.{◌≡◌, true, ◌&&◌, List, [], ◌∷◌, ℕ, zero, suc, ◌<◌, ◌≤◌, length, get_or}
use Rattle.rows.specs.Lowest.{lowest, some}
use Rattle.rows.specs.Relation.{Rel}

-- ---- how it is found

-- k + 1 steps of r lead from a to b, over events below n
unfoldable pub leads : ℕ → Rel → ℕ → Rel
leads n r zero a b = r a b
leads n r (suc k) a b = some n (λ m. r a m && leads n r k m b)

-- one less than the fewest steps from a to b: the lowest such k below n, or n
unfoldable pub distance : ℕ → Rel → ℕ → ℕ → ℕ
distance n r a b = lowest n (λ k. leads n r k a b)

-- the lowest event to which a step leads from a, and from which k + 1 steps lead to b
abbrev pub next_of : ℕ → Rel → ℕ → ℕ → ℕ → ℕ
next_of n r b k a = lowest n (λ m. r a m && leads n r k m b)

-- the events after a, b last, of k + 1 steps from a to b, each next one the lowest from which the steps that are left lead to b
unfoldable pub steps_from : ℕ → Rel → ℕ → ℕ → ℕ → List ℕ
steps_from n r b zero a = b ∷ []
steps_from n r b (suc k) a = next_of n r b k a ∷ steps_from n r b k (next_of n r b k a)

unfoldable pub shortest_chain : ℕ → Rel → ℕ → ℕ → List ℕ
shortest_chain n r a b = steps_from n r b (distance n r a b) a

-- ---- what it means

-- the events after a of a chain of steps from a to b: to the first of them a step leads from a, to each other from the one before; b is the last, and the others are
-- below n
pub data Entries (n : ℕ) (r : Rel) : ℕ → ℕ → List ℕ → Type 0 where
  last : {a b : ℕ} → r a b ≡ true → Entries n r a b (b ∷ [])
  next : {a m b : ℕ} {l : List ℕ} → r a m ≡ true → m < n → Entries n r m b l → Entries n r a b (m ∷ l)

-- two lists are the same, or the first has the lower entry where they first differ
pub data NotLater : List ℕ → List ℕ → Type 0 where
  same : {l : List ℕ} → NotLater l l
  lower : {x y : ℕ} {l m : List ℕ} → x < y → NotLater (x ∷ l) (y ∷ m)
  then : {x : ℕ} {l m : List ℕ} → NotLater l m → NotLater (x ∷ l) (x ∷ m)

-- l has the entries of a chain from a to b; every such chain has at least as many; of those with as many it is the first, by the lowest entry where two differ; it has no
-- event twice, and at most n entries
pub record Shortest (n : ℕ) (r : Rel) (a b : ℕ) (l : List ℕ) : Type 0 where
  pub chain : Entries n r a b l
  pub fewest : (m : List ℕ) → Entries n r a b m → length l ≤ length m
  pub lowest_next : (m : List ℕ) → Entries n r a b m → length m ≡ length l → NotLater l m
  pub once : (i j : ℕ) → i < j → j < length l → get_or l i 0 ≡ get_or l j 0 → ⊥
  pub fits : length l ≤ n
