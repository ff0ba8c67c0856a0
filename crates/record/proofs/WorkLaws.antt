-- Laws of the work slice: zero after a refusal, else the visible sets, and the words past those asked for as they were. Assumes nothing.
use mathlib.Core.Path.{◌≡◌, sym, ap, ap₂, ◌∙◌}
use mathlib.Core.List.{List, ◌++◌, append_assoc}
use Prim.Native.Nat.{ℕ, ◌+◌, ◌*◌, ◌-◌, ◌≤◌, ◌<◌}
use native.Mathlib.Omega.{arith}
use borrow.Author.Tests.{eq-eqb, ne_eqb, le-ltb}
use lib.ListN.{length, get_or, take, drop, replicate, length-append, length-drop, length-replicate, get_or-replicate, get_or-append}
use lib.Seq.{length-take-le, take_at, drop_at, drop-drop, get_or-append-add}
use Rattle.rows.specs.Octets.{little, words}
use Rattle.rows.proofs.ByteLaws.{length-words, get_d_words}
use Rattle.record.specs.Layout.{Layout, count_in, most_events, row_words, work_words}
use Rattle.record.specs.Words.{set_rows, visible_words, work_after}
use Rattle.record.proofs.SlotWords.{length-set_rows}

-- the first m words are zero, and the rest l's
abbrev pub ZeroFirst : ℕ → List ℕ → List ℕ → Type 0
ZeroFirst m l d = d ≡ replicate m 0 ++ drop m l

-- the first m words cleared, with the rest of a list that agrees with l there
pub zero-first : (m : ℕ) (l k z : List ℕ) → m ≤ length k → drop m k ≡ drop m l → z ≡ replicate (length (take m k)) 0 → ZeroFirst m l (z ++ drop m k)
zero-first m l k z h e q = ap₂ ◌++◌ (q ∙ ap (λ (i : ℕ). replicate i 0) (length-take-le m k h)) e

-- sets loaded over the first words: a list d whose first words are p, and the rest l's
pub loaded_past : (p l d : List ℕ) (i k : ℕ) → d ≡ p ++ drop i l → length p ≡ i → i ≤ k → drop k d ≡ drop k l
loaded_past p l d i k q h most =
    let whole : i + (k - i) ≡ k = omega arith in
    let past : (e : List ℕ) → drop k e ≡ drop (k - i) (drop i e) = λ e. ap (λ (j : ℕ). drop j e) (sym whole) ∙ sym (drop-drop (k - i) i e) in
    past d ∙ ap (drop (k - i)) (ap (drop i) q ∙ drop_at p (drop i l) i h) ∙ sym (past l)

-- a row of which the first k words are a set's, and r more are zero, word by word
module _ (k r i : ℕ) (s : List ℕ) (at : ℕ) where
  pub row_word : i < k → get_or (words k s at ++ replicate r 0) i 0 ≡ little 8 s (at + 8 * i)
  row_word h = get_or-append (words k s at) (replicate r 0) 0 i (omega (arith, length-words k s at)) ∙ get_d_words k s at i h

  pub row-rest : k ≤ i → i < k + r → get_or (words k s at ++ replicate r 0) i 0 ≡ 0
  row-rest h m =
      let past : i ≡ length (words k s at) + (i - k) = omega (arith, length-words k s at) in
      ap (λ (j : ℕ). get_or (words k s at ++ replicate r 0) j 0) past ∙ get_or-append-add (words k s at) (replicate r 0) (i - k) 0 ∙ get_or-replicate r (i - k) 0 0 (omega arith)

rest-zeros : (n : ℕ) → n ≤ most_events → work_words - n * row_words ≡ row_words * (most_events - n)
rest-zeros n few = omega arith

module _ (L : Layout) (s : List ℕ) (narrow : L.row ≤ row_words) (few : count_in s ≤ most_events) where
  pub length-visible : length (visible_words L s) ≡ work_words
  unfolding visible_words
  length-visible =
      let n : ℕ = count_in s in
      omega (arith, length-append (set_rows L s n) (replicate (row_words * (most_events - n)) 0), length-set_rows L s narrow n, length-replicate {A = ℕ} (row_words * (most_events - n)) 0)

  -- the sets loaded, and the words behind them cleared
  pub visible_cleared : (n : ℕ) (l d z : List ℕ) → n ≡ count_in s → d ≡ set_rows L s n ++ drop (n * row_words) l → work_words ≤ length d
      → z ≡ replicate (length (take (work_words - n * row_words) (drop (n * row_words) d))) 0
      → take (n * row_words) d ++ (z ++ drop (work_words - n * row_words) (drop (n * row_words) d)) ≡ visible_words L s ++ drop work_words l
  unfolding visible_words
  visible_cleared n l d z same q long zeros =
      let sets : List ℕ = set_rows L s n in
      let i : ℕ = n * row_words in
      let size : length sets ≡ i = length-set_rows L s narrow n in
      let most : n ≤ most_events = omega arith in
      let room : i ≤ work_words = omega arith in
      let whole : i + (work_words - i) ≡ work_words = omega arith in
      let front : take i d ≡ sets = ap (take i) q ∙ take_at sets (drop i l) i size in
      let many : length (take (work_words - i) (drop i d)) ≡ row_words * (most_events - n) =
      length-take-le (work_words - i) (drop i d) (omega (arith, length-drop i d)) ∙ rest-zeros n most in
      let back : drop (work_words - i) (drop i d) ≡ drop work_words l =
      drop-drop (work_words - i) i d ∙ ap (λ (k : ℕ). drop k d) whole ∙ loaded_past sets l d i work_words q size room in
      rw (front, zeros, many, back, ← same) (sym (append_assoc sets (replicate (row_words * (most_events - n)) 0) (drop work_words l)))

-- ---- what is left, by the answer's number

pub work-refused : (L : Layout) (number : ℕ) (s l d : List ℕ) → 3 ≤ number → ZeroFirst work_words l d → d ≡ work_after L number s l
unfolding work_after
work-refused L number s l d h q = rw (ne_eqb number 0 (λ e. omega arith), le-ltb number 3 h) q

pub work-passed : (L : Layout) (number : ℕ) (s l d : List ℕ) → number ≡ 0 → d ≡ visible_words L s ++ drop work_words l → d ≡ work_after L number s l
unfolding work_after
work-passed L number s l d e q = rw (eq-eqb number 0 e) q
