-- A record with other positions written in place, and then its checks, is the record of its events at these positions. Assumes nothing.
use mathlib.Core.Path.{◌≡◌, refl, sym, ap, ◌∙◌}
use mathlib.Core.List.{List, ◌++◌}
use Prim.Native.Nat.{ℕ, zero, suc, ◌+◌, ◌*◌, ◌%◌, ◌<◌, ◌≤◌}
use native.Mathlib.Omega.{arith}
use native.Mathlib.Decide.{dec_lt, ℕ_discrete}
use lib.ListN.{length, get_or, take, drop}
use lib.Seq.{length-sets, ext_get_or}
use Rattle.record.specs.Layout.{Layout, count_in, sites_in, slot_at}
use Rattle.record.specs.History.{History, history_of, vis}
use Rattle.record.specs.Answers.{SetsRight, RingsRight}
use Rattle.record.specs.LaidOut.{LaidOut}
use Rattle.record.specs.Positioned.{Arbitration, positioned, with_positions}
use Rattle.record.specs.Encode.{little_bytes, slot_bytes, blocks_for, sealed, unsealed, record_bytes}
use Rattle.record.proofs.StoresLaws.{Stands, Outside, get_d_sets-outside, get_d_sets-inside, stands-front, stands-back, Bytes}
use Rattle.record.proofs.NumberBytes.{length-little}
use Rattle.record.proofs.SealLaws.{sealed-outside, sealed-same, length-sealed}
use Rattle.record.proofs.SoundLayout.{Sound, slots_apart, slot-inside}
use Rattle.record.proofs.PlaceLaws.{by-event}
use Rattle.record.proofs.SlotSays.{then}
use Rattle.record.proofs.ImageLaws.{slot-size, length-unsealed, length_record, slot-stands}
use Rattle.record.proofs.EncodedPasses.{Encoded, encoded}
use Rattle.record.proofs.PassedWellFormed.{well_formed_in}
use Rattle.record.proofs.SaidAgain.{laid_length, outside-byte, slot_said}

module _ (L : Layout) (ok : Sound L) (f : ℕ → ℕ) where
  -- ---- the first k positions written

  pub length-positions : (k : ℕ) (s : List ℕ) → length (with_positions L f k s) ≡ length s
  unfolding with_positions
  length-positions zero s = refl
  length-positions (suc k) s = length-sets (with_positions L f k s) (slot_at L k + 10) (little_bytes 2 (f k)) ∙ length-positions k s

  pub positions-outside : (k : ℕ) (s : List ℕ) (p : ℕ) → ((e : ℕ) → e < k → Outside p (slot_at L e + 10) 2) → get_or (with_positions L f k s) p 0 ≡ get_or s p 0
  unfolding with_positions
  positions-outside zero s p out = refl
  positions-outside (suc k) s p out =
      get_d_sets-outside (little_bytes 2 (f k)) (with_positions L f k s) (slot_at L k + 10) p (rw length-little (out k (omega arith)))
      ∙ positions-outside k s p (λ e l. out e (omega arith))

  -- a place of slot e is of no other's position
  apart : (e d j : ℕ) → j < L.slot → (e ≡ d → ⊥) → Outside (slot_at L e + j) (slot_at L d + 10) 2
  apart e d j l ne x y = slots_apart L ok e d j l ne (omega arith) (omega (arith, ok.slot))

  positions-inside : (k : ℕ) (s : List ℕ) → ((e : ℕ) → e < k → slot_at L e + L.slot ≤ length s)
      → (e : ℕ) → e < k → Stands (with_positions L f k s) (slot_at L e + 10) (little_bytes 2 (f e))
  unfolding with_positions
  positions-inside zero s fits e l = absurd (omega arith)
  positions-inside (suc k) s fits e l = elim (dec_lt e k) [
    | yes below ↦
        λ j q.
        let off : slot_at L e + 10 + j ≡ slot_at L e + (10 + j) = omega arith in
        get_d_sets-outside (little_bytes 2 (f k)) (with_positions L f k s) (slot_at L k + 10) (slot_at L e + 10 + j)
        (rw (length-little, off) (apart e k (10 + j) (omega (arith, length-little 2 (f e), ok.slot)) (λ x. omega arith)))
        ∙ positions-inside k s (λ d m. fits d (omega arith)) e below j q
    | no last ↦
        let here : e ≡ k = omega arith in
        rw here
        (get_d_sets-inside (little_bytes 2 (f k)) (with_positions L f k s) (slot_at L k + 10)
        (omega (arith, length-little 2 (f k), length-positions k s, fits k (omega arith), ok.slot)))
  ]

  -- ---- over a record's own

  module _ (s : List ℕ) (bytes : Bytes s) (right : LaidOut L s) where
    abbrev h : History
    h = history_of L s

    abbrev n : ℕ
    n = count_in s

    abbrev filled : List ℕ
    filled = with_positions L f n s

    -- the other bytes of a slot are as they were
    kept : (e j : ℕ) → j < L.slot → Outside j 10 2 → get_or (with_positions L f (count_in s) s) (slot_at L e + j) 0 ≡ get_or s (slot_at L e + j) 0
    kept e j l out = positions-outside n s (slot_at L e + j) (λ d m x y. elim (ℕ_discrete e d) [
      | yes q ↦ let here : slot_at L e ≡ slot_at L d = ap (slot_at L) q in out (omega arith) (omega arith)
      | no ne ↦ apart e d j l ne x y
    ])

    slot_filled : (e : ℕ) → e < count_in s → Stands (with_positions L f (count_in s) s) (slot_at L e) (slot_bytes L (positioned f (history_of L s)) e)
    unfolding slot_bytes little_bytes
    slot_filled e l =
        let at : ℕ = slot_at L e in
        let b : List ℕ = slot_bytes L h e in
        let st : Stands s at b = slot_said L ok s bytes right e l in
        let size : length (drop 12 b) + 12 ≡ L.slot = omega (arith, slot-size L ok h e) in
        then filled at (at + 10) (take 10 b) (little_bytes 2 (f e) ++ drop 12 b)
        (λ j q. kept e j (omega (arith, ok.slot)) (λ x y. omega arith) ∙ stands-front s at (take 10 b) (drop 10 b) st j q)
        refl
        (then filled (at + 10) (at + 12) (little_bytes 2 (f e)) (drop 12 b)
        (positions-inside n s (λ d m. omega (arith, laid_length L s right, slot-inside L ok n d m)) e l)
        (omega arith)
        (λ j q.
        let off : at + 12 + j ≡ at + (12 + j) = omega arith in
        ap (λ (p : ℕ). get_or filled p 0) off
        ∙ kept e (12 + j) (omega arith) (λ x y. omega arith)
        ∙ ap (λ (p : ℕ). get_or s p 0) (sym off)
        ∙ stands-back s at (take 12 b) (drop 12 b) 12 refl st j q))

    pub positions_filled : sealed (blocks_for L (count_in s)) (with_positions L f (count_in s) s) ≡ record_bytes L (sites_in s) (positioned f (history_of L s))
    unfolding record_bytes history_of
    positions_filled =
        let k : History = positioned f h in
        let m : ℕ = blocks_for L n in
        let u : List ℕ = unsealed L (sites_in s) k in
        let long : length filled ≡ 512 * m = length-positions n s ∙ laid_length L s right in
        let same : (p : ℕ) → p < 512 * m → p % 512 < 508 → get_or filled p 0 ≡ get_or u p 0 = λ p l free.
        by-event L ok n p l free
        (λ e j i q here.
        let r : j < length (slot_bytes L k e) = omega (arith, slot-size L ok k e) in
        rw here (slot_filled e i j r ∙ sym (slot-stands L ok k (sites_in s) e i j r)))
        (λ out.
        positions-outside n s p (λ e i x y. out e i (omega arith) (omega (arith, ok.slot)))
        ∙ sym (outside-byte L ok s bytes right k refl refl p (omega (arith, laid_length L s right)) free out))
        ∙ sealed-outside m u p free in
        ext_get_or 0 (sealed m filled) (sealed m u) (length-sealed m filled ∙ long ∙ sym (length_record L ok k (sites_in s)))
        (λ p l. sealed-same m filled u (omega arith) (omega (arith, length-unsealed L ok k (sites_in s))) same p (omega (arith, length-sealed m filled)))

    -- where 9 and 10 get a yes and the positions are an arbitration, it passes, and says the same but for positions
    pub filled_encoded : SetsRight L (count_in s) (vis (history_of L s)) → RingsRight (count_in s) (vis (history_of L s)) → Arbitration (count_in s) f
        → Encoded L (sites_in s) (positioned f (history_of L s))
    filled_encoded sets rings places = encoded L ok (sites_in s) (positioned f h) (well_formed_in L ok s bytes right sets rings f places)
