-- Laws of tables: rows of w words, one after the other in one list. Assumes nothing.
use mathlib.Core.Path.{◌≡◌, refl, sym, ap, ap₂, ◌∙◌}
use mathlib.Core.Logic.{◌≢◌}
use mathlib.Core.Bool.{Bool, true, false, ◌&&◌, ◌||◌, or_comm}
use mathlib.Core.List.{List, [], ◌∷◌, ◌++◌}
use Prim.Native.Nat.{ℕ, zero, suc, ◌+◌, ◌-◌, ◌*◌, ◌/◌, ◌%◌, ◌^◌, ◌≤◌, ◌<◌}
use native.Mathlib.Nat.{mul-le-mul_right, add-sub_cancel_left}
use native.Mathlib.Omega.{arith}
use native.Mathlib.Decide.{ℕ_discrete, dec_lt}
use borrow.Author.Tests.{eq-eqb, ne_eqb}
use lib.Dec.{eqb}
use lib.Bits.{bit_or}
use lib.ListN.{length, get_or, set, take, drop, replicate, length-take, length-drop, length-append, length-replicate, get_or-append, get_or-eq_default}
use lib.Seq.{length-take-le, take-append-le, drop-append-le, get_or-take, get_or-drop, get_or-set_other, get_or-append-add, take-set-lt, drop-set-add, take_at, drop_at, ext_get_or}
use Rattle.rows.specs.Row.{bit_of, has, insert, or_row, or_part, row_at, put_row}
use Rattle.rows.proofs.Tests.{tell, never}
use Rattle.rows.proofs.FrontLaws.{front_all}
use Rattle.rows.proofs.RowLaws.{has-insert, has-or, has_within, has_cleared, length-insert, length-or}

-- ---- a row of a table

-- row b of n rows lies within the table
pub row_room : (n w b m : ℕ) → b < n → n * w ≤ m → b * w + w ≤ m
row_room n w b m h k = omega (arith, mul-le-mul_right w h)

-- places in two rows are apart
pub rows_apart : (w b c i j : ℕ) → c ≢ b → i < w → j < w → c * w + i ≢ b * w + j
rows_apart w b c i j ne h k e = elim (dec_lt b c) [
  | yes l ↦ omega (arith, mul-le-mul_right w l)
  | no g ↦ let l : c < b = omega arith in omega (arith, mul-le-mul_right w l)
]

-- a scratch row of k words is cut to the width
pub length_cut : (k w : ℕ) → w ≤ k → length (take {A = ℕ} w (replicate k 0)) ≡ w
length_cut k w h = length-take-le w (replicate k 0) (omega (arith, length-replicate {A = ℕ} k 0))

module _ (g : List ℕ) (w b : ℕ) where
  pub length-row_le : length (row_at g w b) ≤ w
  length-row_le = omega (arith, length-take w (drop (b * w) g))

  pub length-row : b * w + w ≤ length g → length (row_at g w b) ≡ w
  length-row h = omega (arith, length-take w (drop (b * w) g), length-drop (b * w) g)

  pub get_d_row : (i : ℕ) → i < w → get_or (row_at g w b) i 0 ≡ get_or g (b * w + i) 0
  get_d_row i h = get_or-take w (drop (b * w) g) i 0 h ∙ get_or-drop (b * w) g i 0

  -- words of 64 bits
  pub row_words_lem : ((i : ℕ) → get_or g i 0 < 2 ^ 64) → (i : ℕ) → get_or (row_at g w b) i 0 < 2 ^ 64
  row_words_lem words i = elim (dec_lt i w) [
    | yes h ↦ omega (arith, get_d_row i h, words (b * w + i))
    | no n ↦ let z : get_or (row_at g w b) i 0 ≡ 0 = get_or-eq_default (row_at g w b) 0 (omega (arith, length-row_le)) in omega arith
  ]

  pub has-row : (x : ℕ) → x < 64 * w → has (row_at g w b) x ≡ has g (64 * (b * w) + x)
  unfolding has
  has-row x h =
      let word : b * w + x / 64 ≡ (64 * (b * w) + x) / 64 = omega arith in
      let bit : x % 64 ≡ (64 * (b * w) + x) % 64 = omega arith in
      ap (λ (y : ℕ). bit_of y (x % 64)) (get_d_row (x / 64) (omega arith)) ∙ ap₂ (λ (i k : ℕ). bit_of (get_or g i 0) k) word bit

  pub row_within : (x : ℕ) → has (row_at g w b) x ≡ true → x < 64 * w
  row_within x e = omega (arith, has_within (row_at g w b) x e, length-row_le)

  -- as code copies it, over a row l of w words
  pub row_copied : (l d : List ℕ) → length l ≡ w → b * w + w ≤ length g
      → d ≡ take (b * w + w - b * w) (drop (b * w) g) ++ drop (length (take (b * w + w - b * w) (drop (b * w) g))) l → d ≡ row_at g w b
  row_copied l d wide room e =
      let f : d ≡ row_at g w b ++ drop (length (row_at g w b)) l = rw add-sub_cancel_left at e in
      front_all (row_at g w b) l (length (row_at g w b)) f (omega (arith, length-row room))

-- of two tables one after the other, a row of the first
pub row-front : (p q : List ℕ) (w b : ℕ) → b * w + w ≤ length p → row_at (p ++ q) w b ≡ row_at p w b
row-front p q w b h =
    ap (take w) (drop-append-le (b * w) p q (omega arith))
    ∙ take-append-le w (drop (b * w) p) q (omega (arith, length-drop (b * w) p))

-- of two tables that are joined word by word, a row is the two rows joined
or-none : (l : List ℕ) → or_row l [] ≡ l
or-none [] = refl
or-none (x ∷ l) = refl

take-or : (k : ℕ) (l m : List ℕ) → take k (or_row l m) ≡ or_row (take k l) (take k m)
take-or zero l m = refl
take-or (suc k) [] m = refl
take-or (suc k) (x ∷ l) [] = refl
take-or (suc k) (x ∷ l) (y ∷ m) = ap (λ (t : List ℕ). bit_or x y ∷ t) (take-or k l m)

drop-or : (k : ℕ) (l m : List ℕ) → drop k (or_row l m) ≡ or_row (drop k l) (drop k m)
drop-or zero l m = refl
drop-or (suc k) [] m = refl
drop-or (suc k) (x ∷ l) [] = sym (or-none (drop k l))
drop-or (suc k) (x ∷ l) (y ∷ m) = drop-or k l m

pub row_joined : (g h : List ℕ) (w b : ℕ) → row_at (or_row g h) w b ≡ or_row (row_at g w b) (row_at h w b)
row_joined g h w b = ap (take w) (drop-or (b * w) g h) ∙ take-or w (drop (b * w) g) (drop (b * w) h)

-- two tables with the same words in row b
pub same_row : (g h : List ℕ) (w b : ℕ) → length g ≡ length h → ((i : ℕ) → i < w → get_or g (b * w + i) 0 ≡ get_or h (b * w + i) 0) → row_at g w b ≡ row_at h w b
same_row g h w b e f = ext_get_or 0 (row_at g w b) (row_at h w b)
    (omega (arith, length-take w (drop (b * w) g), length-drop (b * w) g, length-take w (drop (b * w) h), length-drop (b * w) h))
    (λ i l. let k : i < w = omega (arith, length-row_le g w b) in get_d_row g w b i k ∙ f i k ∙ sym (get_d_row h w b i k))

-- a member y more in row b, where t holds, and every other row as it was: what any row has
any_row : (g h : List ℕ) (w b y : ℕ) (t : Bool) → has (row_at h w b) y ≡ t || has (row_at g w b) y → ((c : ℕ) → c ≢ b → row_at h w c ≡ row_at g w c)
    → (c : ℕ) → has (row_at h w c) y ≡ eqb b c && t || has (row_at g w c) y
any_row g h w b y t same other c = elim (ℕ_discrete c b) [
  | yes e ↦ rw (e, eq-eqb b b refl) same
  | no n ↦ rw (ne_eqb b c (λ e. n (sym e))) (ap (λ (r : List ℕ). has r y) (other c n))
]

pub has-row_cleared : (m w b x : ℕ) → has (row_at (replicate m 0) w b) x ≡ false
has-row_cleared m w b x = never (has (row_at (replicate m 0) w b) x) (λ e.
    tell (has (replicate m 0) (64 * (b * w) + x)) (sym (has-row (replicate m 0) w b x (row_within (replicate m 0) w b x e)) ∙ e) (has_cleared m (64 * (b * w) + x)))

-- ---- a member is put into row b

module _ (g : List ℕ) (w b x : ℕ) (inside : x < 64 * w) where
  row_word : (64 * (b * w) + x) / 64 ≡ b * w + x / 64
  row_word = omega arith

  row-bit : (64 * (b * w) + x) % 64 ≡ x % 64
  row-bit = omega arith

  pub row-insert-same : row_at (insert g (64 * (b * w) + x)) w b ≡ insert (row_at g w b) x
  unfolding insert
  row-insert-same =
      let low : x / 64 < w = omega arith in
      let new : ℕ = bit_or (get_or g (b * w + x / 64) 0) (2 ^ (x % 64)) in
      ap₂ (λ (i k : ℕ). take w (drop (b * w) (set g i (bit_or (get_or g i 0) (2 ^ k))))) row_word row-bit
      ∙ ap (take w) (drop-set-add (b * w) g (x / 64) new)
      ∙ take-set-lt w (drop (b * w) g) (x / 64) new low
      ∙ ap (λ (y : ℕ). set (row_at g w b) (x / 64) (bit_or y (2 ^ (x % 64)))) (sym (get_d_row g w b (x / 64) low))

  pub row-insert-other : (c : ℕ) → c ≢ b → row_at (insert g (64 * (b * w) + x)) w c ≡ row_at g w c
  unfolding insert
  row-insert-other c ne = same_row (insert g (64 * (b * w) + x)) g w c (length-insert g (64 * (b * w) + x)) other
    where
      other : (i : ℕ) → i < w → get_or (insert g (64 * (b * w) + x)) (c * w + i) 0 ≡ get_or g (c * w + i) 0
      other i h = get_or-set_other g ((64 * (b * w) + x) / 64) (c * w + i) (bit_or (get_or g ((64 * (b * w) + x) / 64) 0) (2 ^ ((64 * (b * w) + x) % 64))) 0
          (λ e. rows_apart w b c i (x / 64) ne h (omega arith) (e ∙ row_word))

  pub has-row-insert : b * w + w ≤ length g → (c y : ℕ) → has (row_at (insert g (64 * (b * w) + x)) w c) y ≡ eqb b c && eqb x y || has (row_at g w c) y
  has-row-insert room c y = any_row g (insert g (64 * (b * w) + x)) w b y (eqb x y)
      (ap (λ (r : List ℕ). has r y) row-insert-same ∙ has-insert (row_at g w b) x y (omega (arith, length-row g w b room)))
      row-insert-other c

-- ---- row b is replaced by m, or joined with it

module _ (g : List ℕ) (w b : ℕ) (m : List ℕ) (wide : length m ≡ w) (room : b * w + w ≤ length g) where
  front : length (take (b * w) g) ≡ b * w
  front = length-take-le (b * w) g (omega arith)

  pub length-put : length (put_row g w b m) ≡ length g
  length-put =
      omega (arith, length-append (take (b * w) g) (m ++ drop w (drop (b * w) g)), length-append m (drop w (drop (b * w) g)), length-drop w (drop (b * w) g), length-drop (b * w) g, front)

  pub row-put-same : row_at (put_row g w b m) w b ≡ m
  row-put-same = ap (take w) (drop_at (take (b * w) g) (m ++ drop w (drop (b * w) g)) (b * w) front) ∙ take_at m (drop w (drop (b * w) g)) w wide

  get_d_put-before : (i : ℕ) → i < b * w → get_or (put_row g w b m) i 0 ≡ get_or g i 0
  get_d_put-before i h = get_or-append (take (b * w) g) (m ++ drop w (drop (b * w) g)) 0 i (omega (arith, front)) ∙ get_or-take (b * w) g i 0 h

  get_d_put-after : (i : ℕ) → b * w + w ≤ i → get_or (put_row g w b m) i 0 ≡ get_or g i 0
  get_d_put-after i h =
      let past : i ≡ length (take (b * w) g) + (length m + (i - (b * w + w))) = omega (arith, front) in
      let back : b * w + (w + (i - (b * w + w))) ≡ i = omega arith in
      ap (λ (j : ℕ). get_or (put_row g w b m) j 0) past
      ∙ get_or-append-add (take (b * w) g) (m ++ drop w (drop (b * w) g)) (length m + (i - (b * w + w))) 0
      ∙ get_or-append-add m (drop w (drop (b * w) g)) (i - (b * w + w)) 0
      ∙ get_or-drop w (drop (b * w) g) (i - (b * w + w)) 0
      ∙ get_or-drop (b * w) g (w + (i - (b * w + w))) 0
      ∙ ap (λ (j : ℕ). get_or g j 0) back

  pub row-put-other : (c : ℕ) → c ≢ b → row_at (put_row g w b m) w c ≡ row_at g w c
  row-put-other c ne = same_row (put_row g w b m) g w c length-put (λ i h. elim (dec_lt b c) [
    | yes l ↦ get_d_put-after (c * w + i) (omega (arith, mul-le-mul_right w l))
    | no n ↦ get_d_put-before (c * w + i) (let l : c < b = omega arith in omega (arith, mul-le-mul_right w l))
  ])

module _ (g : List ℕ) (w b : ℕ) (m : List ℕ) (wide : length m ≡ w) (room : b * w + w ≤ length g) where
  or_put : or_part g (b * w) m ≡ put_row g w b (or_row (row_at g w b) m)
  or_put = ap (λ (k : ℕ). take (b * w) g ++ (or_row (take k (drop (b * w) g)) m ++ drop k (drop (b * w) g))) wide

  joined : length (or_row (row_at g w b) m) ≡ w
  joined = length-or (row_at g w b) m ∙ length-row g w b room

  pub length-or_part : length (or_part g (b * w) m) ≡ length g
  length-or_part = ap length or_put ∙ length-put g w b (or_row (row_at g w b) m) joined room

  pub row-or-same : row_at (or_part g (b * w) m) w b ≡ or_row (row_at g w b) m
  row-or-same = ap (λ (r : List ℕ). row_at r w b) or_put ∙ row-put-same g w b (or_row (row_at g w b) m) joined room

  pub row-or-other : (c : ℕ) → c ≢ b → row_at (or_part g (b * w) m) w c ≡ row_at g w c
  row-or-other c ne = ap (λ (r : List ℕ). row_at r w c) or_put ∙ row-put-other g w b (or_row (row_at g w b) m) joined room c ne

  pub has-row-or : (c y : ℕ) → has (row_at (or_part g (b * w) m) w c) y ≡ eqb b c && has m y || has (row_at g w c) y
  has-row-or c y = any_row g (or_part g (b * w) m) w b y (has m y)
      (ap (λ (r : List ℕ). has r y) row-or-same ∙ has-or (row_at g w b) m y (omega (arith, length-row g w b room)) ∙ or_comm (has (row_at g w b) y) (has m y))
      row-or-other c
