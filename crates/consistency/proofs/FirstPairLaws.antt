-- A verdict is met exactly if no pair holds, and broken at (a, b) exactly if that is the first pair: lowest a, and for it the lowest b. Assumes nothing.
use mathlib.Core.Path.{◌≡◌, refl, ◌∙◌, subst}
use mathlib.Core.Bool.{Bool, true, false}
use Prim.Native.Nat.{ℕ, ◌<◌}
use native.Mathlib.Omega.{arith}
use Rattle.std.specs.Prelude.{Some, None}
use Rattle.rows.specs.Lowest.{lowest, some}
use Rattle.rows.specs.Relation.{Rel}
use Rattle.rows.proofs.LowestLaws.{lowest_low, lowest_hit, some_of, some_at, some-none, none-some}
use Rattle.consistency.specs.FirstPair.{first_left, broken_if, first, Verdict}

-- (a, b) is the first pair below n at which f holds
pub record FirstPair (n : ℕ) (f : Rel) (a b : ℕ) : Type 0 where
  pub left : a < n
  pub right : b < n
  pub holds : f a b ≡ true
  pub least_a : (x y : ℕ) → x < a → y < n → f x y ≡ false
  pub least_b : (y : ℕ) → y < b → f a y ≡ false

-- f holds at no pair below n
abbrev pub NoPair : ℕ → Rel → Type 0
NoPair n f = (x y : ℕ) → x < n → y < n → f x y ≡ false

-- f and g agree on the pairs below n
abbrev pub Alike : ℕ → Rel → Rel → Type 0
Alike n f g = (a b : ℕ) → a < n → b < n → f a b ≡ g a b

-- what a verdict says of the pairs at which f holds
abbrev pub Says : ℕ → Rel → Verdict → Type 0
Says n f None = NoPair n f
Says n f (Some (a, b)) = FirstPair n f a b

module _ (n : ℕ) (f : Rel) where
  -- some b below n has f a b
  rows : ℕ → Bool
  rows a = some n (f a)

  pub first_says : Says n f (first n f)
  unfolding first first_left rows
  first_says = go (some n rows) refl
    where
      go : (t : Bool) → some n rows ≡ t → Says n f (broken_if t (lowest n rows) (lowest n (f (lowest n rows))))
      go true e =
          let w = some_at n rows e in
          let v = some_at n (f (lowest n rows)) w.1 in
          record {
            left = w.0;
            right = v.0;
            holds = v.1;
            least_a = λ x y h l. some-none n (f x) ((lowest_low n rows).below x h) y l;
            least_b = λ y h. (lowest_low n (f (lowest n rows))).below y h;
          }
      go false e = λ x y h l. some-none n (f x) (some-none n rows e x h) y l

  pub first-at : (a b : ℕ) → FirstPair n f a b → first n f ≡ Some (a, b)
  unfolding first first_left rows
  first-at a b p =
      let here : rows a ≡ true = some_of n (f a) b p.right p.holds in
      let any : some n rows ≡ true = some_of n rows a p.left here in
      let ea : lowest n rows ≡ a = lowest_hit n rows a p.left (λ x h. none-some n (f x) (λ y l. p.least_a x y h l)) here in
      let eb : lowest n (f a) ≡ b = lowest_hit n (f a) b p.right p.least_b p.holds in
      rw (any, ea, eb)

  pub first-none : NoPair n f → first n f ≡ None
  unfolding first rows
  first-none h =
      let s : some n rows ≡ false = none-some n rows (λ x l. none-some n (f x) (λ y k. h x y l k)) in
      rw s

  -- a verdict that says so is the first
  pub first_is : (v : Verdict) → Says n f v → first n f ≡ v
  first_is None s = first-none s
  first_is (Some (a, b)) s = first-at a b s

  -- and the first says so
  pub says_of : (v : Verdict) → first n f ≡ v → Says n f v
  says_of v e = subst (Says n f) e first_says

says_same : (n : ℕ) (f g : Rel) → Alike n f g → (v : Verdict) → Says n g v → Says n f v
says_same n f g e None s = λ x y l j. e x y l j ∙ s x y l j
says_same n f g e (Some (a, b)) s = record {
  left = s.left;
  right = s.right;
  holds = e a b s.left s.right ∙ s.holds;
  least_a = λ x y l j. e x y (omega (arith, s.left)) j ∙ s.least_a x y l j;
  least_b = λ y l. e a y s.left (omega (arith, s.right)) ∙ s.least_b y l;
}

-- relations that agree below n have the same first pair
pub first-same : (n : ℕ) (f g : Rel) → Alike n f g → first n f ≡ first n g
first-same n f g e = first_is n f (first n g) (says_same n f g e (first n g) (first_says n g))
