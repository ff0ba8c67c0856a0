-- Row b of a table as code cuts it out, from word b * w up to b * w + w. Assumes nothing.
use mathlib.Core.Path.{◌≡◌, ap, ◌∙◌}
use mathlib.Core.List.{List, ◌++◌, append-nil}
use Prim.Native.Nat.{ℕ, ◌+◌, ◌-◌, ◌*◌, ◌≤◌}
use native.Mathlib.Omega.{arith}
use native.Mathlib.Nat.{add-sub_cancel_left}
use lib.ListN.{length, take, drop, drop_of_length-le}
use Rattle.rows.specs.Row.{row_at, put_row, RowPut}
use Rattle.rows.proofs.TableLaws.{length-row, row_copied, length-put, row-put-same, row-put-other}

abbrev pub slice_at : List ℕ → ℕ → ℕ → List ℕ
slice_at g w b = take (b * w + w - b * w) (drop (b * w) g)

pub slice_row : (g : List ℕ) (w b : ℕ) → slice_at g w b ≡ row_at g w b
slice_row g w b = ap (λ (k : ℕ). take k (drop (b * w) g)) (add-sub_cancel_left (b * w) w)

pub length_slice : (g : List ℕ) (w b : ℕ) → b * w + w ≤ length g → length (slice_at g w b) ≡ w
length_slice g w b h = ap length (slice_row g w b) ∙ length-row g w b h

-- a row is copied over one of the same width
pub copy_over : (m l : List ℕ) → length m ≡ length l → m ++ drop (length m) l ≡ m
copy_over m l e = let h : length l ≤ length m = omega arith in ap (λ (t : List ℕ). m ++ t) (drop_of_length-le l {i = length m} h) ∙ append-nil m

-- the table with m given back in the place of row b
abbrev pub give_back : List ℕ → ℕ → ℕ → List ℕ → List ℕ
give_back g w b m = take (b * w) g ++ (m ++ drop (b * w + w - b * w) (drop (b * w) g))

-- row c of g is lent, and m given back for it
pub given_back : (w c : ℕ) (g : List ℕ) {m m' : List ℕ} → c * w + w ≤ length g → m ≡ m' → length m' ≡ w → RowPut w c m' g (give_back g w c m)
given_back w c g {m} {m'} room q long =
    let wide : length m ≡ w = ap length q ∙ long in
    let given : give_back g w c m ≡ put_row g w c m = rw add-sub_cancel_left in
    record {
      whole = given ∙ ap (put_row g w c) q;
      size = ap length given ∙ length-put g w c m wide room;
      same = ap (λ (x : List ℕ). row_at x w c) given ∙ row-put-same g w c m wide room ∙ q;
      other = λ d ne. ap (λ (x : List ℕ). row_at x w d) given ∙ row-put-other g w c m wide room d ne;
    }

-- row s of h is copied over it
pub row_put : (w c : ℕ) (g h : List ℕ) (s : ℕ) (m : List ℕ) → c * w + w ≤ length g → s * w + w ≤ length h → m ≡ slice_at h w s ++ drop (length (slice_at h w s)) (slice_at g w c)
    → RowPut w c (row_at h w s) g (give_back g w c m)
row_put w c g h s m room from e = given_back w c g room (row_copied h w s (slice_at g w c) m (length_slice g w c room) from e) (length-row h w s from)

-- it is lent with a row r to an operation on rows
pub row_changed : (f : List ℕ → List ℕ → List ℕ) → ((x y : List ℕ) → length (f x y) ≡ length x) → (w c : ℕ) (g r m : List ℕ) → c * w + w ≤ length g → m ≡ f (slice_at g w c) r
    → RowPut w c (f (row_at g w c) r) g (give_back g w c m)
row_changed f same w c g r m room e = given_back w c g room (e ∙ ap (λ x. f x r) (slice_row g w c)) (same (row_at g w c) r ∙ length-row g w c room)
