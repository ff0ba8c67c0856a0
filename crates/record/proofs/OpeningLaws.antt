-- Laws of openings, and of terms: as bytes, and read back. Assumes nothing.
use mathlib.Core.Path.{◌≡◌, refl, sym, ap, ap₂, ◌∙◌}
use mathlib.Core.Bool.{Bool, true, false, not, cond, ◌&&◌, true≢false}
use mathlib.Core.List.{List, ◌++◌}
use Prim.Native.Nat.{ℕ, zero, suc, ◌+◌, ◌*◌, ◌^◌, ◌<◌, ◌≤◌}
use native.Mathlib.Omega.{arith}
use native.Mathlib.Decide.{dec_lt}
use borrow.Author.Tests.{eq-eqb, eqb-true, lt-ltb, le-ltb, not-true}
use lib.Dec.{eqb, ltb}
use lib.ListN.{length, length-append}
use Rattle.rows.specs.Lowest.{some}
use Rattle.rows.specs.Octets.{little, has_byte}
use Rattle.rows.proofs.Tests.{split, tell, never, and_left, and_right}
use Rattle.rows.proofs.ByteLaws.{little_lt}
use Rattle.rows.proofs.LowestLaws.{some-none, none-some}
use Rattle.record.specs.Terms.{Held, none, value, is_value, value_or0, Terms, opening_in, stray, openings_right}
use Rattle.record.specs.Encode.{little_bytes, set_bytes, figure_bytes, opening_bytes, terms_bytes}
use Rattle.record.proofs.StoresLaws.{Stands, stands-front, stands-back, stands-append, Bytes, bytes_nil, bytes_append}
use Rattle.record.proofs.NumberBytes.{length-little, bytes_little, little-stands, length-set_bytes, bytes_set_bytes, set-stands}
use Rattle.record.proofs.WordBytes.{set_bytes-same, little-read, set-read}

-- ---- 132 bytes

length_figures : (k : ℕ) (f : ℕ → Held) → length (figure_bytes k f) ≡ 4 * k
unfolding figure_bytes
length_figures zero f = refl
length_figures (suc k) f =
    omega (
      arith,
      length-append (little_bytes 4 (value_or0 (f 0))) (figure_bytes k (λ o. f (suc o))),
      length-little 4 (value_or0 (f 0)),
      length_figures k (λ o. f (suc o)),
    )

figures_same : (k : ℕ) (f g : ℕ → Held) → ((o : ℕ) → f o ≡ g o) → figure_bytes k f ≡ figure_bytes k g
unfolding figure_bytes
figures_same zero f g h = refl
figures_same (suc k) f g h =
    ap₂ (λ (x : Held) (l : List ℕ). little_bytes 4 (value_or0 x) ++ l) (h 0) (figures_same k (λ o. f (suc o)) (λ o. g (suc o)) (λ o. h (suc o)))

pub length_openings : (f : ℕ → Held) → length (opening_bytes f) ≡ 132
unfolding opening_bytes
length_openings f =
    omega (
      arith,
      length-append (set_bytes 4 (λ o. is_value (f o))) (figure_bytes 32 f),
      length-set_bytes 4 (λ o. is_value (f o)),
      length_figures 32 f,
    )

bytes_figures : (k : ℕ) (f : ℕ → Held) → Bytes (figure_bytes k f)
unfolding figure_bytes
bytes_figures zero f = bytes_nil
bytes_figures (suc k) f =
    bytes_append (little_bytes 4 (value_or0 (f 0))) (figure_bytes k (λ o. f (suc o))) (bytes_little 4 (value_or0 (f 0))) (bytes_figures k (λ o. f (suc o)))

pub bytes_openings : (f : ℕ → Held) → Bytes (opening_bytes f)
unfolding opening_bytes
bytes_openings f =
    bytes_append (set_bytes 4 (λ o. is_value (f o))) (figure_bytes 32 f) (bytes_set_bytes 4 (λ o. is_value (f o))) (bytes_figures 32 f)

-- ---- behind the difference of clocks

module _ (t : Terms) where
  pub length-terms_bytes : length (terms_bytes t) ≡ 136
  unfolding terms_bytes
  length-terms_bytes =
      omega (
        arith,
        length-append (little_bytes 4 t.difference) (opening_bytes t.opening),
        length-little 4 t.difference,
        length_openings t.opening,
      )

  pub bytes_terms_bytes : Bytes (terms_bytes t)
  unfolding terms_bytes
  bytes_terms_bytes = bytes_append (little_bytes 4 t.difference) (opening_bytes t.opening) (bytes_little 4 t.difference) (bytes_openings t.opening)

  module _ (s : List ℕ) (st : Stands s 8 (terms_bytes t)) where
    pub difference-back : t.difference < 2 ^ 32 → little 4 s 8 ≡ t.difference
    unfolding terms_bytes
    difference-back small =
        little-stands 4 t.difference s 8 (omega arith) (stands-front s 8 (little_bytes 4 t.difference) (opening_bytes t.opening) st)

    pub openings_behind : Stands s 12 (opening_bytes t.opening)
    unfolding terms_bytes
    openings_behind = stands-back s 8 (little_bytes 4 t.difference) (opening_bytes t.opening) 4 (length-little 4 t.difference) st

-- ---- read back

figure_back : (k : ℕ) (f : ℕ → Held) (s : List ℕ) (at o : ℕ) → o < k → value_or0 (f o) < 2 ^ 32 → Stands s at (figure_bytes k f)
    → little 4 s (at + 4 * o) ≡ value_or0 (f o)
unfolding figure_bytes
figure_back zero f s at o h small st = absurd (omega arith)
figure_back (suc k) f s at zero h small st =
    let here : at + 4 * zero ≡ at = omega arith in
    rw here
    (little-stands 4 (value_or0 (f 0)) s at (omega arith) (stands-front s at (little_bytes 4 (value_or0 (f 0))) (figure_bytes k (λ o. f (suc o))) st))
figure_back (suc k) f s at (suc o) h small st =
    let next : at + 4 * suc o ≡ at + 4 + 4 * o = omega arith in
    rw next
    (figure_back k (λ o. f (suc o)) s (at + 4) o (omega arith) small
    (stands-back s at (little_bytes 4 (value_or0 (f 0))) (figure_bytes k (λ o. f (suc o))) 4 (length-little 4 (value_or0 (f 0))) st))

-- a value that is one, or none
pub held_again : (x : Held) → cond (is_value x) (value (value_or0 x)) none ≡ x
held_again none = refl
held_again (value v) = refl

pub none-zero : (x : Held) → is_value x ≡ false → value_or0 x ≡ 0
none-zero none h = refl
none-zero (value v) h = absurd (true≢false h)

module _ (f : ℕ → Held) (s : List ℕ) (at : ℕ) (small : (o : ℕ) → value_or0 (f o) < 2 ^ 32) (st : Stands s at (opening_bytes f)) where
  bit-back : (o : ℕ) → o < 32 → has_byte s at o ≡ is_value (f o)
  unfolding opening_bytes
  bit-back o h = set-stands 4 (λ o. is_value (f o)) s at o h (stands-front s at (set_bytes 4 (λ o. is_value (f o))) (figure_bytes 32 f) st)

  value-back : (o : ℕ) → o < 32 → little 4 s (at + 4 + 4 * o) ≡ value_or0 (f o)
  unfolding opening_bytes
  value-back o h =
      figure_back 32 f s (at + 4) o h (small o)
      (stands-back s at (set_bytes 4 (λ o. is_value (f o))) (figure_bytes 32 f) 4 (length-set_bytes 4 (λ o. is_value (f o))) st)

  pub opening-back : ((o : ℕ) → 32 ≤ o → f o ≡ none) → (o : ℕ) → opening_in s at o ≡ f o
  unfolding opening_in
  opening-back above o = elim (dec_lt o 32) [
    | yes l ↦ rw (lt-ltb o 32 l, bit-back o l, value-back o l) (held_again (f o))
    | no g ↦ rw (le-ltb o 32 (omega arith)) (sym (above o (omega arith)))
  ]

  pub openings_pass : openings_right s at ≡ true
  unfolding openings_right
  openings_pass =
      ap not
      (none-some 32 (stray s at)
      (λ o l. never (stray s at o) (λ t.
      let clear : is_value (f o) ≡ false =
      sym (bit-back o l) ∙ not-true (has_byte s at o) (and_left (not (has_byte s at o)) (not (eqb (little 4 s (at + 4 + 4 * o)) 0)) t) in
      tell (eqb (little 4 s (at + 4 + 4 * o)) 0) (eq-eqb (little 4 s (at + 4 + 4 * o)) 0 (value-back o l ∙ none-zero (f o) clear))
      (not-true (eqb (little 4 s (at + 4 + 4 * o)) 0) (and_right (not (has_byte s at o)) (not (eqb (little 4 s (at + 4 + 4 * o)) 0)) t)))))

-- ---- what is read of any bytes: no opening above object 31, and values of four bytes

pub opening-above : (s : List ℕ) (at o : ℕ) → 32 ≤ o → opening_in s at o ≡ none
unfolding opening_in
opening-above s at o l = rw (le-ltb o 32 l) refl

pub opening-small : (s : List ℕ) → Bytes s → (at o : ℕ) → value_or0 (opening_in s at o) < 2 ^ 32
unfolding opening_in
opening-small s bytes at o = go (ltb o 32 && has_byte s at o)
  where
    go : (t : Bool) → value_or0 (cond t (value (little 4 s (at + 4 + 4 * o))) none) < 2 ^ 32
    go true = omega (arith, little_lt s bytes 4 (at + 4 + 4 * o))
    go false = omega arith

-- ---- and what was read, as bytes again

module _ (s : List ℕ) (bytes : Bytes s) (at : ℕ) (right : openings_right s at ≡ true) where
  clear_zero : (o : ℕ) → o < 32 → has_byte s at o ≡ false → little 4 s (at + 4 + 4 * o) ≡ 0
  unfolding openings_right
  clear_zero o l h = eqb-true (little 4 s (at + 4 + 4 * o)) 0 (go (eqb (little 4 s (at + 4 + 4 * o)) 0) refl)
    where
      go : (t : Bool) → eqb (little 4 s (at + 4 + 4 * o)) 0 ≡ t → t ≡ true
      go true q = refl
      go false q =
          let here : stray s at o ≡ true = rw (h, q) in
          absurd (tell (stray s at o) here (some-none 32 (stray s at) (never (some 32 (stray s at)) (λ x. true≢false (sym right ∙ ap not x))) o l))

  bit-read : (o : ℕ) → o < 32 → is_value (opening_in s at o) ≡ has_byte s at o
  unfolding opening_in
  bit-read o l = rw (lt-ltb o 32 l) (split (has_byte s at o) (λ e. rw e) (λ e. rw e))

  value_read : (o : ℕ) → o < 32 → value_or0 (opening_in s at o) ≡ little 4 s (at + 4 + 4 * o)
  unfolding opening_in
  value_read o l = rw (lt-ltb o 32 l) (split (has_byte s at o) (λ e. rw e) (λ e. rw e (sym (clear_zero o l e))))

  figures_read : (k i : ℕ) → i + k ≡ 32 → Stands s (at + 4 + 4 * i) (figure_bytes k (λ o. opening_in s at (i + o)))
  unfolding figure_bytes
  figures_read zero i h = λ j l. absurd (omega arith)
  figures_read (suc k) i h =
      let f : ℕ → Held = λ o. opening_in s at (i + o) in
      let first : i + 0 ≡ i = omega arith in
      let next : at + 4 + 4 * i + 4 ≡ at + 4 + 4 * suc i = omega arith in
      let figure : little 4 s (at + 4 + 4 * i) ≡ value_or0 (f 0) = rw first (sym (value_read i (omega arith))) in
      stands-append s (at + 4 + 4 * i) (little_bytes 4 (value_or0 (f 0))) (figure_bytes k (λ o. f (suc o))) 4 (length-little 4 (value_or0 (f 0)))
      (rw (← figure) (little-read s bytes 4 (at + 4 + 4 * i)))
      (rw next (rw (← later) (figures_read k (suc i) (omega arith))))
    where
      later : figure_bytes k (λ o. opening_in s at (suc i + o)) ≡ figure_bytes k (λ o. opening_in s at (i + suc o))
      later =
          figures_same k (λ o. opening_in s at (suc i + o)) (λ o. opening_in s at (i + suc o))
          (λ o. let q : suc i + o ≡ i + suc o = omega arith in ap (opening_in s at) q)

  pub openings_stand : Stands s at (opening_bytes (opening_in s at))
  unfolding opening_bytes
  openings_stand =
      let set : set_bytes 4 (λ o. is_value (opening_in s at o)) ≡ set_bytes 4 (has_byte s at) =
      set_bytes-same 4 (λ o. is_value (opening_in s at o)) (has_byte s at) (λ o l. bit-read o l) in
      stands-append s at (set_bytes 4 (λ o. is_value (opening_in s at o))) (figure_bytes 32 (opening_in s at)) 4 (length-set_bytes 4 (λ o. is_value (opening_in s at o)))
      (rw set (set-read s bytes 4 at))
      figures
    where
      figures : Stands s (at + 4) (figure_bytes 32 (opening_in s at))
      figures =
          let here : at + 4 ≡ at + 4 + 4 * 0 = omega arith in
          let all : figure_bytes 32 (opening_in s at) ≡ figure_bytes 32 (λ o. opening_in s at (0 + o)) =
          figures_same 32 (opening_in s at) (λ o. opening_in s at (0 + o)) (λ o. let q : o ≡ 0 + o = omega arith in ap (opening_in s at) q) in
          rw (here, all) (figures_read 32 0 refl)
