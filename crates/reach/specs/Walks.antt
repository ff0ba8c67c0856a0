-- Tables on the way: which events are settled, and which rows closed. Only contracts of inner functions cite this.
use Rattle.std.specs.Prelude.{◌≡◌, true, false, ◌&&◌, List, ℕ, ◌<◌, length}
use Rattle.rows.specs.Lowest.{some}
use Rattle.rows.specs.Row.{has, row_at}
use Rattle.rows.specs.Relation.{Rel, reaches, related, Graph}

-- no member of l reaches itself, and the row of a member has members only
pub record Settled (g : List ℕ) (n w : ℕ) (l : List ℕ) : Type 0 where
  pub below : (b : ℕ) → has l b ≡ true → b < n
  pub closed : (b x : ℕ) → has l b ≡ true → has (row_at g w b) x ≡ true → has l x ≡ true
  pub ringless : (b : ℕ) → has l b ≡ true → reaches n (related g w) b b ≡ false

-- two steps of r from x to b, over an event below n
abbrev pub two_steps : ℕ → Rel → Rel
two_steps n r x b = some n (λ a. r a b && r x a)

-- the row of a member of l has what the rows of its own members have
pub record Nested (g : List ℕ) (n w : ℕ) (l : List ℕ) : Type 0 where
  pub below : (a : ℕ) → has l a ≡ true → a < n
  pub nested : (a c x : ℕ) → has l a ≡ true → related g w c a ≡ true → related g w x c ≡ true → related g w x a ≡ true

-- g is g₀ with the rows of the members of l closed: such a row has members only
pub record Closed (n w : ℕ) (g₀ g l : List ℕ) : Type 0 where
  pub below : (b : ℕ) → has l b ≡ true → b < n
  pub inside : (b x : ℕ) → has l b ≡ true → related g w x b ≡ true → has l x ≡ true
  pub closed : (b x : ℕ) → has l b ≡ true → related g w x b ≡ reaches n (related g₀ w) x b
  pub left : (b x : ℕ) → b < n → has l b ≡ false → related g w x b ≡ related g₀ w x b

-- g with the settled events l comes of g₀ with l₀: more are settled, and their rows closed
pub record Settles (n w : ℕ) (g₀ l₀ g l : List ℕ) : Type 0 where
  pub graph : Graph g n w
  pub size : length g ≡ length g₀
  pub closed : Closed n w g₀ g l
  pub more : (x : ℕ) → has l₀ x ≡ true → has l x ≡ true

-- what g with l comes of, h with m comes of too
pub record Onward (n w : ℕ) (g l h m : List ℕ) : Type 0 where
  pub sound : Settles n w h m h m
  pub more : (x : ℕ) → has l x ≡ true → has m x ≡ true
  pub on : (g₀ l₀ : List ℕ) → Settles n w g₀ l₀ g l → Settles n w g₀ l₀ h m

pub onward_joins : {n w : ℕ} {g l h m i k : List ℕ} → Onward n w g l h m → Onward n w h m i k → Onward n w g l i k
onward_joins s t = record { sound = t.sound; more = λ x e. t.more x (s.more x e); on = λ g₀ l₀ e. t.on g₀ l₀ (s.on g₀ l₀ e) }

pub onward_again : {n w : ℕ} {g l h m : List ℕ} → Onward n w g l h m → Onward n w h m h m
onward_again s = record { sound = s.sound; more = λ x e. e; on = λ g₀ l₀ e. e }

-- row b of g, for each b below n, has the events from which one or more steps in g₀ lead to b
abbrev pub Closure : ℕ → ℕ → List ℕ → List ℕ → Type 0
Closure n w g₀ g = (b x : ℕ) → b < n → related g w x b ≡ reaches n (related g₀ w) x b
