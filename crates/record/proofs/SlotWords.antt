-- Laws of the slots as words: rows of w words, one event's after the other's; and of the visible sets as rows. Assumes nothing.
use mathlib.Core.Path.{◌≡◌, refl, sym, ap, ap₂, ◌∙◌}
use mathlib.Core.Bool.{Bool, true, false, ◌&&◌}
use mathlib.Core.List.{List, ◌++◌, append_assoc}
use Prim.Native.Nat.{ℕ, zero, suc, ◌+◌, ◌*◌, ◌-◌, ◌/◌, ◌%◌, ◌<◌, ◌≤◌}
use native.Mathlib.Numerals.{add-one}
use native.Mathlib.Omega.{arith}
use native.Mathlib.Decide.{ℕ_discrete, dec_lt}
use borrow.Author.Tests.{lt-ltb, le-ltb, ltb-true}
use lib.Dec.{ltb}
use lib.ListN.{length, get_or, take, drop, replicate, length-append, length-replicate, get_or-append}
use lib.Seq.{take_at, drop_at, drop-drop, get_or-append-add}
use Rattle.rows.specs.Octets.{words, has_byte}
use Rattle.rows.specs.Row.{bit_of, has, row_at}
use Rattle.rows.specs.Relation.{related}
use Rattle.rows.proofs.Tests.{and_left}
use Rattle.rows.proofs.Digits.{bit_of-zero}
use Rattle.rows.proofs.ByteLaws.{length-words, has_words}
use Rattle.record.specs.Layout.{Layout, slot_at, row_words}
use Rattle.record.specs.History.{history_of, vis}
use Rattle.record.specs.Words.{rows_of, slot_words, set_row, set_rows}
use Rattle.record.proofs.StoresLaws.{Bytes, zero-at}

-- a list d whose first i numbers are p, and the rest l's: m put after p
part-more : (p l d m : List ℕ) (i w : ℕ) → d ≡ p ++ drop i l → length p ≡ i → take i d ++ (m ++ drop w (drop i d)) ≡ (p ++ m) ++ drop (i + w) l
part-more p l d m i w e h =
    let front : take i d ≡ p = ap (take i) e ∙ take_at p (drop i l) i h in
    let back : drop w (drop i d) ≡ drop (i + w) l = ap (λ (r : List ℕ). drop w (drop i r)) e ∙ ap (drop w) (drop_at p (drop i l) i h) ∙ drop-drop w i l in
    ap₂ (λ (a b : List ℕ). a ++ (m ++ b)) front back ∙ sym (append_assoc p m (drop (i + w) l))

-- ---- rows of w words, one after the other

module _ (w : ℕ) (row : ℕ → List ℕ) (sized : (e : ℕ) → length (row e) ≡ w) where
  pub length-rows : (n : ℕ) → length (rows_of row n) ≡ n * w
  unfolding rows_of
  length-rows zero = omega arith
  length-rows (suc n) = omega (arith, length-append (rows_of row n) (row n), length-rows n, sized n)

  rows_more : (e : ℕ) → rows_of row (e + 1) ≡ rows_of row e ++ row e
  unfolding rows_of
  rows_more e = rw add-one

  -- a loop over the events: one more
  pub rows-put : (e : ℕ) (l d m : List ℕ) → d ≡ rows_of row e ++ drop (e * w) l → m ≡ row e → take (e * w) d ++ (m ++ drop w (drop (e * w) d)) ≡ rows_of row (e + 1) ++ drop ((e + 1) * w) l
  rows-put e l d m q r =
      let next : e * w + w ≡ (e + 1) * w = omega arith in
      part-more (rows_of row e) l d m (e * w) w q (length-rows e)
      ∙ ap₂ (λ (p : List ℕ) (k : ℕ). p ++ drop k l) (ap (λ (x : List ℕ). rows_of row e ++ x) r ∙ sym (rows_more e)) next

  -- the words of event b, whatever follows those of the first n events
  pub row_in_rows : (n b : ℕ) (rest : List ℕ) → b < n → row_at (rows_of row n ++ rest) w b ≡ row b
  unfolding rows_of
  row_in_rows zero b rest h = absurd (omega arith)
  row_in_rows (suc n) b rest h =
      let all : List ℕ = rows_of row n in
      rw (append_assoc all (row n) rest) (elim (ℕ_discrete b n) [
        | yes q ↦ rw q (ap (take w) (drop_at all (row n ++ rest) (n * w) (length-rows n)) ∙ take_at (row n) rest w (sized n))
        | no k ↦ row_in_rows n b (row n ++ rest) (omega arith)
      ])

-- ---- w words of each slot

module _ (L : Layout) (off w : ℕ) (s : List ℕ) where
  abbrev slot_row : ℕ → List ℕ
  slot_row e = words w s (slot_at L e + off)

  slot-row-sized : (e : ℕ) → length (slot_row e) ≡ w
  slot-row-sized e = length-words w s (slot_at L e + off)

  pub length-slot_words : (n : ℕ) → length (slot_words L off w s n) ≡ n * w
  unfolding slot_words
  length-slot_words = length-rows w slot_row slot-row-sized

  pub slot_words-none : (l : List ℕ) → l ≡ slot_words L off w s 0 ++ drop (0 * w) l
  unfolding slot_words rows_of
  slot_words-none l = let z : 0 * w ≡ 0 = omega arith in rw z

  pub slot_words-put : (e : ℕ) (l d m : List ℕ) → d ≡ slot_words L off w s e ++ drop (e * w) l → m ≡ words w s (slot_at L e + off)
      → take (e * w) d ++ (m ++ drop w (drop (e * w) d)) ≡ slot_words L off w s (e + 1) ++ drop ((e + 1) * w) l
  unfolding slot_words
  slot_words-put = rows-put w slot_row slot-row-sized

  pub row-slot_words : (n b : ℕ) (rest : List ℕ) → b < n → row_at (slot_words L off w s n ++ rest) w b ≡ words w s (slot_at L b + off)
  unfolding slot_words
  row-slot_words = row_in_rows w slot_row slot-row-sized

-- ---- the visible sets, in rows of the work slice

-- a member is one bit in the bytes
pub vis-byte : (L : Layout) (s : List ℕ) (a b : ℕ) → a < 64 * L.row → vis (history_of L s) a b ≡ has_byte s (slot_at L b + 32) a
unfolding vis history_of
vis-byte L s a b h = ap (λ (t : Bool). t && has_byte s (slot_at L b + 32) a) (lt-ltb a (64 * L.row) h)

-- and none is past the set's bytes
pub vis_past : (L : Layout) (s : List ℕ) (a b : ℕ) → 64 * L.row ≤ a → vis (history_of L s) a b ≡ false
unfolding vis history_of
vis_past L s a b h = ap (λ (t : Bool). t && has_byte s (slot_at L b + 32) a) (le-ltb a (64 * L.row) h)

-- a visible set holds no event past its bytes
pub vis-within : (L : Layout) (s : List ℕ) (a b : ℕ) → vis (history_of L s) a b ≡ true → a < 64 * L.row
unfolding vis history_of
vis-within L s a b t = ltb-true a (64 * L.row) (and_left (ltb a (64 * L.row)) (has_byte s (slot_at L b + 32) a) t)

module _ (L : Layout) (s : List ℕ) where
  -- a row has the set's members, and none in the zeros behind them
  pub has-set_row : Bytes s → (e a : ℕ) → has (set_row L s e) a ≡ vis (history_of L s) a e
  unfolding has
  has-set_row bytes e a =
      let set : List ℕ = words L.row s (slot_at L e + 32) in
      let zeros : List ℕ = replicate (row_words - L.row) 0 in
      let long : length set ≡ L.row = length-words L.row s (slot_at L e + 32) in
      elim (dec_lt a (64 * L.row)) [
        | yes l ↦
            ap (λ (x : ℕ). bit_of x (a % 64)) (get_or-append set zeros 0 (a / 64) (omega arith))
            ∙ has_words s bytes L.row (slot_at L e + 32) a l ∙ sym (vis-byte L s a e l)
        | no g ↦
            let place : a / 64 ≡ length set + (a / 64 - L.row) = omega arith in
            ap (λ (x : ℕ). bit_of x (a % 64)) (ap (λ (i : ℕ). get_or (set ++ zeros) i 0) place ∙ get_or-append-add set zeros (a / 64 - L.row) 0 ∙ zero-at (row_words - L.row) (a / 64 - L.row))
            ∙ bit_of-zero (a % 64) ∙ sym (vis_past L s a e (omega arith))
      ]

  pub set_rows-none : (l : List ℕ) → l ≡ set_rows L s 0 ++ drop (0 * row_words) l
  unfolding set_rows rows_of
  set_rows-none l = refl

  -- a row of w words, of which k were loaded from the slot at `at`
  pub set_row_loaded : (e at w k : ℕ) (m : List ℕ) → m ≡ words k s (at + 32) ++ replicate (w - k) 0 → k ≡ L.row → w ≡ row_words → at ≡ slot_at L e → m ≡ set_row L s e
  set_row_loaded e at w k m q set wide here = q ∙ rw (set, wide, here)

  module _ (narrow : L.row ≤ row_words) where
    pub set_row-sized : (e : ℕ) → length (set_row L s e) ≡ row_words
    set_row-sized e =
        omega (arith, length-append (words L.row s (slot_at L e + 32)) (replicate (row_words - L.row) 0), length-words L.row s (slot_at L e + 32), length-replicate {A = ℕ} (row_words - L.row) 0)

    pub length-set_rows : (n : ℕ) → length (set_rows L s n) ≡ n * row_words
    unfolding set_rows
    length-set_rows = length-rows row_words (set_row L s) set_row-sized

    pub set_rows-put : (e : ℕ) (l d m : List ℕ) → d ≡ set_rows L s e ++ drop (e * row_words) l → m ≡ set_row L s e
        → take (e * row_words) d ++ (m ++ drop row_words (drop (e * row_words) d)) ≡ set_rows L s (e + 1) ++ drop ((e + 1) * row_words) l
    unfolding set_rows
    set_rows-put = rows-put row_words (set_row L s) set_row-sized

    -- the rows hold the bytes' relation
    pub related-vis : Bytes s → (n : ℕ) (rest : List ℕ) (a b : ℕ) → b < n → related (set_rows L s n ++ rest) row_words a b ≡ vis (history_of L s) a b
    unfolding set_rows
    related-vis bytes n rest a b k =
        ap (λ (r : List ℕ). has r a) (row_in_rows row_words (set_row L s) set_row-sized n b rest k) ∙ has-set_row bytes b a
