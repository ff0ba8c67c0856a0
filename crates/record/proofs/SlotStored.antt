-- A slot as words: two of its small fields, two of its times, and those of its visible set. Assumes nothing.
use mathlib.Core.Path.{◌≡◌, refl, ap, ◌∙◌}
use mathlib.Core.List.{List, ◌∷◌, ◌++◌, append_assoc}
use Prim.Native.Nat.{ℕ, ◌+◌, ◌*◌, ◌^◌, ◌<◌}
use native.Mathlib.Omega.{arith}
use lib.ListN.{length, replicate}
use lib.Seq.{sets}
use Rattle.rows.specs.Row.{has}
use Rattle.record.specs.declared.Slot.{Slot}
use Rattle.record.specs.Layout.{Layout}
use Rattle.record.specs.History.{History}
use Rattle.record.specs.Encode.{little_bytes, bit, set_bytes, slot_bytes, slot_from, SlotOf}
use Rattle.record.proofs.WordBytes.{little_bytes_join, little_bytes_cons, little-then, set_bytes-same}

-- four bytes and a number of four bytes
pub first_word_bytes : (a b c d x : ℕ) → a < 256 → b < 256 → c < 256 → d < 256
    → little_bytes 8 (a + 256 * b + 65536 * c + 16777216 * d + 4294967296 * x) ≡ a ∷ b ∷ c ∷ d ∷ little_bytes 4 x
first_word_bytes a b c d x p q r s =
    let nested : a + 256 * b + 65536 * c + 16777216 * d + 4294967296 * x ≡ a + 256 * (b + 256 * (c + 256 * (d + 256 * x))) = omega arith in
    ap (little_bytes 8) nested
    ∙ little_bytes_cons 7 a (b + 256 * (c + 256 * (d + 256 * x))) p
    ∙ ap (λ (l : List ℕ). a ∷ l) (little_bytes_cons 6 b (c + 256 * (d + 256 * x)) q)
    ∙ ap (λ (l : List ℕ). a ∷ b ∷ l) (little_bytes_cons 5 c (d + 256 * x) r)
    ∙ ap (λ (l : List ℕ). a ∷ b ∷ c ∷ l) (little_bytes_cons 4 d x s)

-- a byte, a zero byte, and a number of two bytes with zero bytes after it
pub second_word_bytes : (a x : ℕ) → a < 256 → x < 65536 → little_bytes 8 (a + 65536 * x) ≡ a ∷ 0 ∷ (little_bytes 2 x ++ replicate 4 0)
unfolding little_bytes
second_word_bytes a x p q =
    let nested : a + 65536 * x ≡ a + 256 * (0 + 256 * x) = omega arith in
    let padded : x ≡ x + 256 ^ 2 * 0 = omega arith in
    ap (little_bytes 8) nested
    ∙ little_bytes_cons 7 a (0 + 256 * x) p
    ∙ ap (λ (l : List ℕ). a ∷ l) (little_bytes_cons 6 0 x (omega arith))
    ∙ ap (λ (y : ℕ). a ∷ 0 ∷ little_bytes 6 y) padded
    ∙ ap (λ (l : List ℕ). a ∷ 0 ∷ l) (little_bytes_join 2 4 x 0 (omega arith))

-- the slot of an event, in an edition whose sets are as wide as the row
pub slot_said : (L : Layout) (h : History) (e : ℕ) (x : Slot) (row : List ℕ) → SlotOf h e x row → length row ≡ L.row → slot_from x row ≡ slot_bytes L h e
unfolding slot_from slot_bytes
slot_said L h e x row of wide =
    rw (
      of.is_write,
      of.site,
      of.object,
      of.is_pending,
      of.value,
      of.is_present,
      of.position,
      of.start,
      of.return,
      ← wide,
      set_bytes-same (8 * length row) (h.sees e) (has row) (λ b l. of.sees b (omega arith)),
    )

module _ (x : Slot) (row : List ℕ) (v w : ℕ)
    (first : little_bytes 8 v ≡ bit x.write ∷ x.site ∷ x.object ∷ bit x.pending ∷ little_bytes 4 x.value)
    (second : little_bytes 8 w ≡ bit x.present ∷ 0 ∷ (little_bytes 2 x.position ++ replicate 4 0)) where
  abbrev set : List ℕ
  set = set_bytes (8 * length row) (has row)

  slot_words_lem : little_bytes 8 v ++ (little_bytes 8 w ++ (little_bytes 8 x.start ++ (little_bytes 8 x.returned ++ set))) ≡ slot_from x row
  unfolding slot_from
  slot_words_lem = rw (first, second, append_assoc)

  -- stored one after the other
  pub slot_stored : (s s₁ s₂ s₃ s₄ s₅ : List ℕ) (at : ℕ) → s₁ ≡ sets s at (little_bytes 8 v) → s₂ ≡ sets s₁ (at + 8) (little_bytes 8 w)
      → s₃ ≡ sets s₂ (at + 16) (little_bytes 8 x.start) → s₄ ≡ sets s₃ (at + 24) (little_bytes 8 x.returned)
      → s₅ ≡ sets s₄ (at + 32) (set_bytes (8 * length row) (has row)) → s₅ ≡ sets s at (slot_from x row)
  slot_stored s s₁ s₂ s₃ s₄ s₅ at e₁ e₂ e₃ e₄ e₅ =
      let d : List ℕ = little_bytes 8 x.returned ++ set in
      let c : List ℕ = little_bytes 8 x.start ++ d in
      let b : List ℕ = little_bytes 8 w ++ c in
      little-then 8 v b s s₁ s₅ at (at + 8) e₁
      (little-then 8 w c s₁ s₂ s₅ (at + 8) (at + 16) e₂
      (little-then 8 x.start d s₂ s₃ s₅ (at + 16) (at + 24) e₃
      (little-then 8 x.returned set s₃ s₄ s₅ (at + 24) (at + 32) e₄ e₅ (omega arith))
      (omega arith))
      (omega arith))
      refl
      ∙ ap (sets s at) slot_words_lem
