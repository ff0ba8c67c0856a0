-- Relations between numbered events, one or more steps of one, and relations held in rows.
use Rattle.std.specs.Prelude.{◌≡◌, Bool, true, ◌&&◌, ◌||◌, List, ℕ, zero, suc, ◌*◌, ◌^◌, ◌<◌, ◌≤◌, length, drop}
use Rattle.rows.specs.Row.{has, row_at, Row}

abbrev pub Rel : Type 0
Rel = ℕ → ℕ → Bool

-- one or more steps of r from a to b, with every event between them below k
unfoldable pub via : Rel → ℕ → Rel
via r zero a b = r a b
via r (suc k) a b = via r k a b || via r k a k && via r k k b

-- one or more steps of r among n events
unfoldable pub reaches : ℕ → Rel → Rel
unfolding via
reaches n r = via r n

-- the same as an inductive relation
pub data Steps (n : ℕ) (r : Rel) : ℕ → ℕ → Type 0 where
  one : {a b : ℕ} → r a b ≡ true → Steps n r a b
  more : {a b c : ℕ} → r a b ≡ true → b < n → Steps n r b c → Steps n r a c

-- the relation that a table of rows of w words holds: row b has the events a that are related to b
abbrev pub related : List ℕ → ℕ → Rel
related g w a b = has (row_at g w b) a

-- the table g holds the relation r among n events
abbrev pub Table : ℕ → ℕ → Rel → List ℕ → Type 0
Table n w r g = (b : ℕ) → b < n → Row n (λ a. r a b) (row_at g w b)

-- the n rows of a table were filled with the relation r, and the words after them stayed
pub record Filled (n w : ℕ) (r : Rel) (old new : List ℕ) : Type 0 where
  pub size : length new ≡ length old
  pub table : Table n w r new
  pub rest : drop (n * w) new ≡ drop (n * w) old

-- a table of n rows of w words, whose members are below n
pub record Graph (g : List ℕ) (n w : ℕ) : Type 0 where
  pub size : n * w ≤ length g
  pub wide : n ≤ 64 * w
  pub fits : 64 * w < 2 ^ 64
  pub inside : (b x : ℕ) → b < n → has (row_at g w b) x ≡ true → x < n

-- a table of n rows of w words, whatever they hold
pub record Rows (g : List ℕ) (n w : ℕ) : Type 0 where
  pub size : n * w ≤ length g
  pub wide : n ≤ 64 * w
  pub fits : 64 * w < 2 ^ 64

-- q is between r and one or more steps of it
pub record Between (n : ℕ) (r q : Rel) : Type 0 where
  pub kept : (a b : ℕ) → b < n → r a b ≡ true → q a b ≡ true
  pub sound : (a b : ℕ) → b < n → q a b ≡ true → reaches n r a b ≡ true
