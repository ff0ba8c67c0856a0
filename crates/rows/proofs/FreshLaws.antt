-- Laws of a loop whose turns each take the lowest member of `near` that the row `done` lacks, and put it in. Assumes nothing.
use mathlib.Core.Path.{◌≡◌, ap}
use mathlib.Core.Bool.{true, false, not, ◌||◌}
use mathlib.Core.List.{List}
use Prim.Native.Nat.{ℕ, ◌-◌, ◌*◌, ◌^◌, ◌<◌}
use native.Mathlib.Omega.{arith}
use lib.Dec.{eqb}
use lib.ListN.{length, get_or}
use Rattle.rows.specs.Lowest.{lowest}
use Rattle.rows.specs.Row.{has, insert, count_row, only_first}
use Rattle.rows.proofs.Tests.{tell, never, and_both, not_of}
use Rattle.rows.proofs.RowLaws.{has-insert, has_within, length-insert, count-insert, count_le, only-lowest}

-- the event of a turn
pub record Fresh (n : ℕ) (near done : List ℕ) (x : ℕ) : Type 0 where
  pub member : has near x ≡ true
  pub new : has done x ≡ false
  pub below : x < n

pub fresh : {n w : ℕ} {near done : List ℕ} {x : ℕ} → ((x : ℕ) → has near x ≡ true → x < n) → length near ≡ w
    → x ≡ lowest (64 * length near) (only_first near done) → x < 64 * w → Fresh n near done x
fresh {near} {done} {x} small long e h =
    let p = only-lowest near done (64 * length near) x e (omega arith) in
    record { member = p.0; new = p.1; below = small x p.0 }

module _ {n : ℕ} {near done : List ℕ} {x : ℕ} (p : Fresh n near done x) where
  -- it was new from the start, as no member of `done` goes
  pub fresh-first : (done₀ : List ℕ) → ((y : ℕ) → has done₀ y ≡ true → has done y ≡ true) → only_first near done₀ x ≡ true
  fresh-first done₀ still =
      and_both (has near x) (not (has done₀ x)) p.member (not_of (has done₀ x) (never (has done₀ x) (λ t. tell (has done x) (still x t) p.new)))

  module _ {w : ℕ} (long : length near ≡ w) (deep : length done ≡ w) where
    inside : x < 64 * length done
    inside = omega (arith, has_within near x p.member)

    pub has-fresh : (y : ℕ) → has (insert done x) y ≡ eqb x y || has done y
    has-fresh y = has-insert done x y (omega (arith, inside))

    -- a row of w words has at most 64 * w members, so turns end
    pub fresh_falls : {done' : List ℕ} → ((k : ℕ) → get_or done' k 0 < 2 ^ 64) → done' ≡ insert done x → 64 * w - count_row done' < 64 * w - count_row done
    fresh_falls {done'} words q =
        omega (arith, inside, count-insert done x (omega (arith, inside)) p.new, count_le done' words, ap count_row q, ap length q, length-insert done x)
