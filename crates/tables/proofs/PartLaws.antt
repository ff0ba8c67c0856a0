-- Laws of tables that stand one after the other in one slice, and of rows that are changed there. Assumes nothing.
use mathlib.Core.Path.{◌≡◌, sym, ap, ◌∙◌}
use mathlib.Core.Logic.{◌≢◌}
use mathlib.Core.List.{List, ◌++◌}
use Prim.Native.Nat.{ℕ, ◌+◌, ◌-◌, ◌*◌, ◌≤◌, ◌<◌}
use native.Mathlib.Nat.{mul-le-mul_right, add-mul, mul_assoc}
use native.Mathlib.Omega.{arith}
use native.Mathlib.Decide.{dec_lt}
use lib.ListN.{length, get_or, take, drop, length-append, length-take, length-drop}
use lib.Seq.{length-take-le, drop_at, drop-drop, get_or-take, get_or-drop, ext_get_or, take-append-le, drop-append-le}
use Rattle.rows.specs.Row.{row_at, RowPut, RowChanged}
use Rattle.rows.proofs.TableLaws.{length-row_le, get_d_row}
use Rattle.tables.specs.Tables.{part}

-- ---- table k of tables of n rows

-- row b of it
pub part-row : (n w k : ℕ) (t : List ℕ) (b : ℕ) → b < n → row_at (part n w k t) w b ≡ row_at t w (k * n + b)
part-row n w k t b h = ext_get_or 0 (row_at (part n w k t) w b) (row_at t w (k * n + b))
    (omega (
      arith,
      end,
      place,
      length-take w (drop (b * w) p),
      length-drop (b * w) p,
      length-take (n * w) (drop (k * (n * w)) t),
      length-drop (k * (n * w)) t,
      length-take w (drop ((k * n + b) * w) t),
      length-drop ((k * n + b) * w) t,
    ))
    (λ i l.
    let low : i < w = omega (arith, length-row_le p w b) in
    let there : k * (n * w) + (b * w + i) ≡ (k * n + b) * w + i = omega (arith, place) in
    get_d_row p w b i low ∙ get_or-take (n * w) (drop (k * (n * w)) t) (b * w + i) 0 (omega (arith, end)) ∙ get_or-drop (k * (n * w)) t (b * w + i) 0 ∙ ap (λ (j : ℕ). get_or t j 0) there
    ∙ sym (get_d_row t w (k * n + b) i low))
  where
    p : List ℕ
    p = part n w k t

    end : b * w + w ≤ n * w
    end = omega (arith, mul-le-mul_right w h)

    place : (k * n + b) * w ≡ k * (n * w) + b * w
    place = add-mul (k * n) b w ∙ ap (λ (x : ℕ). x + b * w) (mul_assoc k n w)

-- it does not change with what stands after
pub part-front : (n w k : ℕ) (t r : List ℕ) → k * (n * w) + n * w ≤ length t → part n w k (t ++ r) ≡ part n w k t
part-front n w k t r h =
    ap (take (n * w)) (drop-append-le (k * (n * w)) t r (omega arith))
    ∙ take-append-le (n * w) (drop (k * (n * w)) t) r (omega (arith, length-drop (k * (n * w)) t))

-- the first m words of t are lent, and t' given back
pub front-given : (m : ℕ) (t t' : List ℕ) → m ≤ length t → length t' ≡ length (take m t)
    → (length t' ≡ m) × (length (t' ++ drop m t) ≡ length t) × (drop m (t' ++ drop m t) ≡ drop m t)
front-given m t t' h e =
    let size : length t' ≡ m = e ∙ length-take-le m t h in
    (size, omega (arith, size, length-append t' (drop m t), length-drop m t), drop_at t' (drop m t) m size)

-- lists that are the same from j on are so from k on
pub same-later : (j k : ℕ) (x y : List ℕ) → j ≤ k → drop j x ≡ drop j y → drop k x ≡ drop k y
same-later j k x y h e =
    let on : k ≡ j + (k - j) = omega arith in
    ap (λ (i : ℕ). drop i x) on ∙ sym (drop-drop (k - j) j x) ∙ ap (drop (k - j)) e ∙ drop-drop (k - j) j y ∙ ap (λ (i : ℕ). drop i y) (sym on)

-- rows of two events, in whatever tables, are apart
pub places-apart : (n k j b c : ℕ) → b < n → c < n → b ≢ c → k * n + b ≢ j * n + c
places-apart n k j b c p q ne e = elim (dec_lt k j) [
  | yes l ↦ omega (arith, mul-le-mul_right n l)
  | no g ↦ elim (dec_lt j k) [
    | yes l ↦ omega (arith, mul-le-mul_right n l)
    | no i ↦ let z : k ≡ j = omega arith in ne (omega (arith, ap (λ (x : ℕ). x * n) z))
  ]
]

-- ---- a row that is changed where it stands

-- it was changed twice
pub put_again : (w c : ℕ) (m m' g g' g'' : List ℕ) → RowPut w c m g g' → RowPut w c m' g' g'' → RowChanged w c m' g g''
put_again w c m m' g g' g'' p q = record { size = q.size ∙ p.size; same = q.same; other = λ d ne. q.other d ne ∙ p.other d ne }
