-- Laws of the last event in a row, by position: a member that another row lacks is picked, which leads from event to later event, and the last
-- of the writes that a read sees is its last write. Assumes nothing.
use mathlib.Core.Path.{◌≡◌, refl, sym, ap, ap₂, ◌∙◌}
use mathlib.Core.Logic.{◌≢◌}
use mathlib.Core.Bool.{Bool, true, false, not, ◌&&◌, and_assoc}
use mathlib.Core.List.{List}
use Prim.Native.Nat.{ℕ, ◌+◌, ◌-◌, ◌*◌, ◌^◌, ◌≤◌, ◌<◌}
use native.Mathlib.Nat.{pow-succ'}
use native.Mathlib.Omega.{arith}
use borrow.Author.Tests.{ltb-true, ltb-false, eqb-true, eq-eqb}
use lib.Dec.{eqb, ltb}
use lib.Count.{count_leading_zeros, leading_top}
use lib.ListN.{length, get_or}
use Rattle.std.specs.Prelude.{Some, None}
use Rattle.rows.specs.Lowest.{lowest, highest, found, found_last}
use Rattle.rows.specs.Row.{digit, bit_of, has, erase, and_row, only_first, row_at, Row}
use Rattle.rows.specs.Relation.{Table}
use Rattle.rows.proofs.Tests.{split, tell, and_right}
use Rattle.rows.proofs.Digits.{digit-zero, digit_high, bit-one, bit_of-zero}
use Rattle.rows.proofs.FoundLaws.{below-some, below-none}
use Rattle.rows.proofs.LowestLaws.{lowest_low, highest-at, highest_past}
use Rattle.rows.proofs.RowLaws.{lacking, only_word, only_none, only-some, has_past, none_within, has-erase, length-erase, length-and, row_has, row_in, row_same, row-and}
use Rattle.rows.proofs.TableLaws.{row_room, length-row}
use Rattle.record.specs.History.{History, vis}
use Rattle.record.specs.Words.{is_write_in, object_in, position_in, history_from}
use Rattle.consistency.specs.Relations.{ob, ar}
use Rattle.consistency.specs.Reads.{Last, candidate, last_write}
use Rattle.consistency.specs.Holds.{DistinctPositions}
use Rattle.events.specs.Given.{Given, Groups, fields_of, Placed, writes_row}
use Rattle.pairs.specs.Searches.{Picked, Latest, FoundBelow}
use Rattle.events.proofs.GivenLaws.{seen-table}
use Rattle.consistency.proofs.LastWriteLaws.{LastSays, write-says}

-- ---- a member of a that b lacks, sought from the last word down

-- the highest bit of a word that is not 0
pub leading_bit : (x : ℕ) → x < 2 ^ 64 → x ≢ 0 → (count_leading_zeros 64 x < 64) × (bit_of x (63 - count_leading_zeros 64 x) ≡ true)
leading_bit x h ne =
    let t = leading_top 64 x (omega arith) h in
    let j : ℕ = t.0 in
    let place : 63 - count_leading_zeros 64 x ≡ j + 0 = omega (arith, t.1) in
    let parts : x ≡ 1 * 2 ^ j + (x - 2 ^ j) = omega (arith, t.2) in
    let rest : x - 2 ^ j < 2 ^ j = omega (arith, t.2, t.3, pow-succ' 2 j) in
    (omega (arith, t.1), bit-one x (63 - count_leading_zeros 64 x) (ap₂ digit parts place ∙ digit_high j 0 (x - 2 ^ j) 1 rest ∙ digit-zero 1))

module _ (a b : List ℕ) where
  pub pick_none : (y : ℕ) → 64 * length a ≤ y → only_first a b y ≡ false
  pick_none y h = ap (λ (t : Bool). t && not (has b y)) (has_past a y h)

  -- word i has none
  pub pick_more : (i : ℕ) → get_or b i 0 < 2 ^ 64 → ((y : ℕ) → 64 * (i + 1) ≤ y → only_first a b y ≡ false) → lacking a b i ≡ 0 → (y : ℕ) → 64 * i ≤ y → only_first a b y ≡ false
  pick_more i fits f z y h = split (ltb y (64 * (i + 1))) here (λ t. f y (ltb-false y (64 * (i + 1)) t))
    where
      here : ltb y (64 * (i + 1)) ≡ true → only_first a b y ≡ false
      here t =
          let l : y < 64 * (i + 1) = ltb-true y (64 * (i + 1)) t in
          let place : y ≡ i * 64 + (y - i * 64) = omega arith in
          ap (only_first a b) place ∙ only_word a b i fits (y - i * 64) (omega arith) ∙ ap (λ (x : ℕ). bit_of x (y - i * 64)) z ∙ bit_of-zero (y - i * 64)

  -- x, its word, has one
  pub pick_found : (i x : ℕ) → get_or b i 0 < 2 ^ 64 → x < 2 ^ 64 → x ≡ lacking a b i → x ≢ 0 → only_first a b (i * 64 + (63 - count_leading_zeros 64 x)) ≡ true
  pick_found i x fits small e ne =
      let t = leading_bit x small ne in
      only_word a b i fits (63 - count_leading_zeros 64 x) (omega arith) ∙ ap (λ (y : ℕ). bit_of y (63 - count_leading_zeros 64 x)) (sym e) ∙ t.1

-- ---- from event to later event: s are the events left of s₀, and those taken out are not later than x

pub record Following (w : ℕ) (position : ℕ → ℕ) (s₀ s : List ℕ) (x : ℕ) : Type 0 where
  pub wide : length s ≡ w
  pub member : has s₀ x ≡ true
  pub left : (y : ℕ) → has s y ≡ true → has s₀ y ≡ true
  pub passed : (y : ℕ) → has s₀ y ≡ true → has s y ≡ false → position y ≤ position x

-- the lowest and the highest member of a row
module _ (s : List ℕ) where
  pub lowest-member : {x : ℕ} → found (64 * length s) (has s) ≡ Some x → has s x ≡ true
  lowest-member e =
      let k = below-some (64 * length s) (lowest (64 * length s) (has s)) _ e in
      ap (has s) k.0 ∙ (lowest_low (64 * length s) (has s)).at k.1

  pub lowest_none : found (64 * length s) (has s) ≡ None → (y : ℕ) → has s y ≡ false
  lowest_none e = none_within s (λ y h.
      let k = below-none (64 * length s) (lowest (64 * length s) (has s)) e in
      (lowest_low (64 * length s) (has s)).below y (omega arith))

  pub highest-member : {x : ℕ} → found_last (64 * length s) (has s) ≡ Some x → has s x ≡ true
  highest-member e =
      let k = below-some (64 * length s) (highest (64 * length s) (has s)) _ e in
      ap (has s) k.0 ∙ highest-at (64 * length s) (has s) (highest (64 * length s) (has s)) refl k.1

  pub highest_none : found_last (64 * length s) (has s) ≡ None → (y : ℕ) → has s y ≡ false
  highest_none e = none_within s (λ y h.
      highest_past (64 * length s) (has s) (highest (64 * length s) (has s)) refl (below-none (64 * length s) (highest (64 * length s) (has s)) e) y h)

-- the search starts at a member
pub following_start : (w : ℕ) (position : ℕ → ℕ) (s : List ℕ) (x : ℕ) → length s ≡ w → has s x ≡ true → Following w position s s x
following_start w position s x size m = record {
  wide = size;
  member = m;
  left = λ y e. e;
  passed = λ y e f. absurd (tell (has s y) e f);
}

-- x is taken out of s, which gives s', and the next is picked of those of s' that are not before x
module _ (n w : ℕ) (l ars s₀ s s' : List ℕ) (x : ℕ) (places : Placed n l) (table : Table n w (ar (fields_of l)) ars) (wide : n ≤ 64 * w)
    (inside : (z : ℕ) → has s₀ z ≡ true → z < n) (i : Following w (position_in l) s₀ s x) (gone : s' ≡ erase s x) where
  below : x < n
  below = inside x i.member

  size : length s' ≡ w
  size = ap length gone ∙ length-erase s x ∙ i.wide

  erased : (z : ℕ) → has s' z ≡ not (eqb x z) && has s z
  erased z = ap (λ (r : List ℕ). has r z) gone ∙ has-erase s x z (omega (arith, i.wide, below))

  kept : (z : ℕ) → has s' z ≡ true → has s₀ z ≡ true
  kept z e = i.left z (and_right (not (eqb x z)) (has s z) (sym (erased z) ∙ e))

  other : (z : ℕ) → has s₀ z ≡ true → has s' z ≡ false → position_in l z ≤ position_in l x
  other z e f = split (eqb x z)
      (λ t. let q : position_in l x ≡ position_in l z = ap (position_in l) (eqb-true x z t) in omega arith)
      (λ t. i.passed z e (sym (ap (λ (u : Bool). not u && has s z) t) ∙ sym (erased z) ∙ f))

  before : (z : ℕ) → z < n → has (row_at ars w x) z ≡ ltb (position_in l z) (position_in l x)
  unfolding ar history_from
  before z h = row_has n (λ a. ltb (position_in l a) (position_in l x)) (row_at ars w x) (table x below) z h

  -- none was picked, so x is the last
  pub latest_found : Picked s' (row_at ars w x) None → Latest (position_in l) s₀ (Some x)
  latest_found pick = (i.member, λ z e. split (has s' z) (λ t. earlier z t) (λ t. other z e t))
    where
      earlier : (z : ℕ) → has s' z ≡ true → position_in l z ≤ position_in l x
      earlier z t =
          let b : has (row_at ars w x) z ≡ true = only_none s' (row_at ars w x) z (pick z) t in
          omega (arith, ltb-true (position_in l z) (position_in l x) (sym (before z (inside z (kept z t))) ∙ b))

  -- y was picked, and is later
  pub following_more : {y : ℕ} → Picked s' (row_at ars w x) (Some y) → (position_in l x < position_in l y) × (position_in l y < n) × Following w (position_in l) s₀ s' y
  following_more {y} pick = (
    later,
    places.below y small,
    record {
      wide = size;
      member = kept y told.0;
      left = kept;
      passed = λ z e f. omega (arith, other z e f, later);
    },
  )
    where
      told : (has s' y ≡ true) × (has (row_at ars w x) y ≡ false)
      told = only-some s' (row_at ars w x) y pick

      small : y < n
      small = inside y (kept y told.0)

      apart : position_in l x ≢ position_in l y
      apart q =
          let same : x ≡ y = places.distinct x y below small q in
          tell (has s' y) told.0 (erased y ∙ ap (λ (t : Bool). not t && has s y) (eq-eqb x y same))

      later : position_in l x < position_in l y
      later = omega (arith, apart, ltb-false (position_in l y) (position_in l x) (sym (before y small) ∙ told.1))

-- ---- the writes that a read sees

-- c has what row e of v, the writes and the row of object k, e's, all have
module _ (n w : ℕ) (l v groups c : List ℕ) (e k : ℕ) (given : Given n w l v) (grouped : Groups n w l groups) (h : e < n) (own : k ≡ object_in l e)
    (meet : c ≡ and_row (and_row (row_at v w e) (row_at groups w writes_row)) (row_at groups w k)) where
  small : k < 256
  small = omega arith

  wide : length (row_at v w e) ≡ w
  wide = length-row v w e (row_room n w e (length v) h given.rows.size)

  wide_group : (i : ℕ) → i < 259 → length (row_at groups w i) ≡ w
  wide_group i q = length-row groups w i (row_room 259 w i (length groups) q grouped.size)

  pub row_candidates : Row n (candidate (history_from n w l v) e) c
  unfolding candidate vis ob history_from
  row_candidates =
      rw meet (row_same n (λ x. (has (row_at v w e) x && is_write_in l x) && eqb (object_in l x) k) (and_row (and_row (row_at v w e) (row_at groups w 256)) (row_at groups w k))
      (row-and n (λ x. has (row_at v w e) x && is_write_in l x) (and_row (row_at v w e) (row_at groups w 256))
      (row-and n (λ x. has (row_at v w e) x) (row_at v w e) (seen-table n w l v given e h) (is_write_in l) (row_at groups w 256) grouped.writes (omega (arith, wide, wide_group 256 (omega arith))))
      (λ x. eqb (object_in l x) k) (row_at groups w k) (grouped.objects k small)
      (omega (arith, length-and (row_at v w e) (row_at groups w 256), wide, wide_group k (omega arith))))
      (λ x. has (row_at v w e) x && (is_write_in l x && eqb (object_in l x) (object_in l e)))
      (λ x j. and_assoc (has (row_at v w e) x) (is_write_in l x) (eqb (object_in l x) k) ∙ ap (λ (o : ℕ). has (row_at v w e) x && (is_write_in l x && eqb (object_in l x) o)) own))

-- ---- the last of them is the last write, where no two events have one position

module _ (h : History) (e : ℕ) (s : List ℕ) (r : Row h.count (candidate h e) s) where
  pub latest_write : DistinctPositions h → (x : Last) → Latest h.position s x → x ≡ last_write h e
  latest_write d x t = go x (last_write h e) t (write-says h e)
    where
      go : (x y : Last) → Latest h.position s x → LastSays h e h.count y → x ≡ y
      go None None f g = refl
      go None (Some u) f g = absurd (tell (has s u) (row_has h.count (candidate h e) s r u g.below ∙ g.seen) (f u))
      go (Some w) None f g = let p = row_in h.count (candidate h e) s r w f.0 in absurd (tell (candidate h e w) p.1 (g w p.0))
      go (Some w) (Some u) f g =
          let p = row_in h.count (candidate h e) s r w f.0 in
          let q : has s u ≡ true = row_has h.count (candidate h e) s r u g.below ∙ g.seen in
          ap Some (d w u p.0 g.below (omega (arith, f.1 u q, g.last w p.0 p.1)))

  pub latest_below : (x : Last) → Latest h.position s x → FoundBelow h.count x
  latest_below None f = tt
  latest_below (Some w) f = (row_in h.count (candidate h e) s r w f.0).0
