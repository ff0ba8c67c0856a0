-- Laws of a block's two sums: words added with no remainder taken, one by one or in four lanes, and what the sums are in the end. Assumes nothing.
use mathlib.Core.Path.{◌≡◌, ap, ◌∙◌}
use mathlib.Core.List.{List}
use Prim.Native.Nat.{ℕ, ◌+◌, ◌*◌, ◌%◌, ◌≤◌, ◌<◌}
use native.Mathlib.Numerals.{add-one}
use native.Mathlib.Omega.{arith}
use Rattle.rows.specs.Octets.{little}
use Rattle.record.specs.Blocks.{sum_a, sum_b}

-- a, the first i words of block k, and b, the sum of a after each: A and B but for multiples of 65521 once the start k + 1 is added to each a
pub record Summed (s : List ℕ) (k i a b : ℕ) : Type 0 where
  pub rest_a : (k + 1 + a) % 65521 ≡ sum_a i s k % 65521
  pub rest_b : (i * (k + 1) + b) % 65521 ≡ sum_b i s k % 65521

pub summed_start : (s : List ℕ) (k : ℕ) → Summed s k 0 0 0
unfolding sum_a sum_b
summed_start s k = record { rest_a = omega arith; rest_b = omega arith }

more_a : (s : List ℕ) (k i : ℕ) → sum_a (i + 1) s k ≡ (sum_a i s k + little 2 s (512 * k + 2 * i)) % 65521
unfolding sum_a
more_a s k i = rw add-one

more_b : (s : List ℕ) (k i : ℕ) → sum_b (i + 1) s k ≡ (sum_b i s k + sum_a (i + 1) s k) % 65521
unfolding sum_b
more_b s k i = rw add-one

-- the remainder of a sum goes by those of its parts
rest-add : (a b c d : ℕ) → a % 65521 ≡ c % 65521 → b % 65521 ≡ d % 65521 → (a + b) % 65521 ≡ (c + d) % 65521
rest-add a b c d p q = omega arith

-- a word w more
summed_more : (s : List ℕ) (k i a b w : ℕ) → Summed s k i a b → w ≡ little 2 s (512 * k + 2 * i) → Summed s k (i + 1) (a + w) (b + (a + w))
summed_more s k i a b w m e = record {
  rest_a = rest;
  rest_b = omega (arith, more_b s k i, rest-add (i * (k + 1) + b) (k + 1 + (a + w)) (sum_b i s k) (sum_a (i + 1) s k) m.rest_b rest, starts);
}
  where
    word : w % 65521 ≡ little 2 s (512 * k + 2 * i) % 65521
    word = ap (λ (x : ℕ). x % 65521) e

    starts : (i + 1) * (k + 1) + (b + (a + w)) ≡ i * (k + 1) + b + (k + 1 + (a + w))
    starts = omega arith

    rest : (k + 1 + (a + w)) % 65521 ≡ sum_a (i + 1) s k % 65521
    rest = omega (arith, more_a s k i, rest-add (k + 1 + a) w (sum_a i s k) (little 2 s (512 * k + 2 * i)) m.rest_a word)

-- after one word or more the remainders are the sums
summed_end : (s : List ℕ) (k i a b : ℕ) → Summed s k (i + 1) a b
    → ((k + 1 + a) % 65521 ≡ sum_a (i + 1) s k) × (((i + 1) * (k + 1) + b) % 65521 ≡ sum_b (i + 1) s k)
summed_end s k i a b m = (omega (arith, more_a s k i, m.rest_a), omega (arith, more_b s k i, m.rest_b))

-- ---- four lanes: word 4 * r + l is of lane l

-- the sum of a lane after r rows, and the sum of what it was before each, are too small to wrap
abbrev pub Small : ℕ → ℕ → ℕ → Type 0
Small r a b = (a ≤ 65535 * r) × (b ≤ 4063170 * r)

-- in B a word counts once for each word from it on: 4 for each later row, and those of its own row
pub record Lanes (s : List ℕ) (k r a0 a1 a2 a3 b0 b1 b2 b3 : ℕ) : Type 0 where
  pub summed : Summed s k (4 * r) (a0 + a1 + a2 + a3) (4 * (b0 + b1 + b2 + b3) + (4 * a0 + 3 * a1 + 2 * a2 + a3))
  pub small0 : Small r a0 b0
  pub small1 : Small r a1 b1
  pub small2 : Small r a2 b2
  pub small3 : Small r a3 b3

pub lanes_start : (s : List ℕ) (k : ℕ) → Lanes s k 0 0 0 0 0 0 0 0 0
lanes_start s k = record {
  summed = summed_start s k;
  small0 = omega arith;
  small1 = omega arith;
  small2 = omega arith;
  small3 = omega arith;
}

summed_as : {s : List ℕ} {k i a b : ℕ} (j c d : ℕ) → Summed s k i a b → i ≡ j → a ≡ c → b ≡ d → Summed s k j c d
summed_as j c d m p q r = rw (← p, ← q, ← r) m

-- a row of words w, x, y, z more, which stands at p
pub lanes_more : {s : List ℕ} {k r a0 a1 a2 a3 b0 b1 b2 b3 : ℕ} (p w x y z : ℕ) → r < 63 → Lanes s k r a0 a1 a2 a3 b0 b1 b2 b3
    → p ≡ 512 * k + 8 * r → w ≡ little 2 s p → x ≡ little 2 s (p + 2) → y ≡ little 2 s (p + 4) → z ≡ little 2 s (p + 6)
    → (w < 65536) × (x < 65536) × (y < 65536) × (z < 65536)
    → Lanes s k (r + 1) (a0 + w) (a1 + x) (a2 + y) (a3 + z) (b0 + a0) (b1 + a1) (b2 + a2) (b3 + a3)
lanes_more {s} {k} {r} {a0} {a1} {a2} {a3} {b0} {b1} {b2} {b3} p w x y z h m at e0 e1 e2 e3 small =
    let one = summed_more s k (4 * r) _ _ w m.summed (there (4 * r) p w (omega arith) e0) in
    let two = summed_more s k (4 * r + 1) _ _ x one (there (4 * r + 1) (p + 2) x (omega arith) e1) in
    let three = summed_more s k (4 * r + 1 + 1) _ _ y two (there (4 * r + 1 + 1) (p + 4) y (omega arith) e2) in
    let four = summed_more s k (4 * r + 1 + 1 + 1) _ _ z three (there (4 * r + 1 + 1 + 1) (p + 6) z (omega arith) e3) in
    record {
      summed = summed_as _ _ _ four (omega arith) (omega arith) (omega arith);
      small0 = omega (arith, m.small0);
      small1 = omega (arith, m.small1);
      small2 = omega (arith, m.small2);
      small3 = omega (arith, m.small3);
    }
  where
    there : (i q v : ℕ) → q ≡ 512 * k + 2 * i → v ≡ little 2 s q → v ≡ little 2 s (512 * k + 2 * i)
    there i q v f e = e ∙ ap (λ (t : ℕ). little 2 s t) f

-- two words y, z after 63 rows
pub lanes_end : {s : List ℕ} {k a0 a1 a2 a3 b0 b1 b2 b3 : ℕ} (y z : ℕ) → Lanes s k 63 a0 a1 a2 a3 b0 b1 b2 b3
    → y ≡ little 2 s (512 * k + 504) → z ≡ little 2 s (512 * k + 506)
    → ((k + 1 + (a0 + a1 + a2 + a3) + y + z) % 65521 ≡ sum_a 254 s k)
    × ((252 * (k + 1) + 4 * (b0 + b1 + b2 + b3) + (4 * a0 + 3 * a1 + 2 * a2 + a3) + (k + 1 + (a0 + a1 + a2 + a3) + y) + (k + 1 + (a0 + a1 + a2 + a3) + y + z)) % 65521
    ≡ sum_b 254 s k)
lanes_end {s} {k} {a0} {a1} {a2} {a3} {b0} {b1} {b2} {b3} y z m e f =
    let one = summed_more s k 252 _ _ y m.summed e in
    let two = summed_more s k 253 _ _ z one f in
    let ends = summed_end s k 253 _ _ two in
    (omega (arith, ends.0), omega (arith, ends.1))
