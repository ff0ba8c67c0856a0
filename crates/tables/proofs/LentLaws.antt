-- Laws of a slice whose part is lent, filled and given back. Assumes nothing.
use mathlib.Core.Path.{◌≡◌, refl, sym, ap, ◌∙◌}
use mathlib.Core.Bool.{Bool, ◌&&◌}
use mathlib.Core.List.{List, ◌++◌}
use Prim.Native.Nat.{ℕ, ◌+◌, ◌*◌, ◌≤◌}
use native.Mathlib.Nat.{zero-mul, add-mul}
use native.Mathlib.Omega.{arith}
use native.Mathlib.Decide.{dec_lt}
use borrow.Author.Tests.{le-ltb}
use lib.ListN.{length, take, drop}
use lib.Seq.{length-take-le, length_front, drop_at, drop-drop}
use Rattle.std.proofs.lemmas.List.{take_all}
use Rattle.rows.specs.Row.{has, row_at, Row}
use Rattle.rows.specs.Relation.{Rel, Table, Filled}
use Rattle.rows.proofs.RowLaws.{has_past}
use Rattle.rows.proofs.TableLaws.{row_room, row-front, length-row_le, has-row}

pub row_first : (g : List ℕ) (w : ℕ) → row_at g w 0 ≡ take w g
row_first g w = ap (λ (k : ℕ). take w (drop k g)) (zero-mul w)

-- a lent row is its own first row
pub row_whole : (g : List ℕ) (w : ℕ) → length g ≡ w → row_at g w 0 ≡ g
row_whole g w e = row_first g w ∙ take_all w g (omega arith)

-- a row of n events is in its first w words
pub row_cut : (n w : ℕ) (f : ℕ → Bool) (l : List ℕ) → n ≤ 64 * w → Row n f l → Row n f (row_at l w 0)
row_cut n w f l wide r x = elim (dec_lt x (64 * w)) [
  | yes h ↦ let here : 64 * (0 * w) + x ≡ x = omega arith in has-row l w 0 x h ∙ ap (has l) here ∙ r x
  | no h ↦ has_past (row_at l w 0) x (omega (arith, length-row_le l w 0)) ∙ sym (ap (λ (t : Bool). t && f x) (le-ltb x n (omega arith)))
]

-- of two tables one after the other, a row of the second, whose rows follow the first's k
pub row_back : (p q : List ℕ) (w k b : ℕ) → length p ≡ k * w → row_at (p ++ q) w (k + b) ≡ row_at q w b
row_back p q w k b e =
    let at : (k + b) * w ≡ length p + b * w = omega (arith, add-mul k b w, e) in
    ap (λ (i : ℕ). take w (drop i (p ++ q))) at
    ∙ ap (take w) (sym (drop-drop (b * w) (length p) (p ++ q)) ∙ ap (drop (b * w)) (drop_at p q (length p) refl))

-- the front, with room for n rows, is given back as a table m
pub front_filled : (n w : ℕ) (r : Rel) (m g : List ℕ) → n * w ≤ length g → length m ≡ length (take (n * w) g) → Table n w r m → Filled n w r g (m ++ drop (n * w) g)
front_filled n w r m g room e t =
    let full : length m ≡ n * w = e ∙ length-take-le (n * w) g room in
    record {
      size = length_front g m (n * w) e;
      table = λ b h. rw (row-front m (drop (n * w) g) w b (row_room n w b (length m) h (omega arith))) (t b h);
      rest = drop_at m (drop (n * w) g) (n * w) full;
    }
