-- The bytes of a record, found by place: block 0, the slots, and zero everywhere else but in the checks. Assumes nothing.
use mathlib.Core.Path.{◌≡◌, refl, sym, ◌∙◌}
use mathlib.Core.Bool.{true}
use mathlib.Core.List.{List, [], ◌∷◌, ◌++◌}
use Prim.Native.Nat.{ℕ, zero, suc, ◌+◌, ◌*◌, ◌-◌, ◌%◌, ◌<◌, ◌≤◌}
use native.Mathlib.Omega.{arith}
use native.Mathlib.Decide.{dec_lt}
use lib.ListN.{length, get_or, replicate, length-append, length-replicate}
use lib.Seq.{sets, length-sets}
use Rattle.rows.proofs.Tests.{split}
use Rattle.record.specs.Layout.{Layout, byte, slot_at, tail_at}
use Rattle.record.specs.Blocks.{block_right}
use Rattle.record.specs.Terms.{Terms}
use Rattle.record.specs.History.{History}
use Rattle.record.specs.WellFormed.{WellFormed}
use Rattle.record.specs.Encode.{little_bytes, slot_bytes, blocks_for, header_bytes, opening_bytes, terms_bytes, with_terms, with_slots, unsealed, record_bytes}
use Rattle.record.proofs.StoresLaws.{Stands, Outside, get_d_sets-outside, get_d_sets-inside, zero-at, Bytes, bytes_nil, bytes_cons, bytes_append, bytes_zero, bytes_sets}
use Rattle.record.proofs.NumberBytes.{length-little, bytes_little}
use Rattle.record.proofs.OpeningLaws.{length-terms_bytes, bytes_terms_bytes, openings_behind}
use Rattle.record.proofs.SealLaws.{length-sealed, sealed-outside, sealed-right, bytes_sealed}
use Rattle.record.proofs.SoundLayout.{Sound, slot_unchecked, slots_apart, tail_apart, slot-inside}
use Rattle.record.proofs.SlotImage.{length-slot, bytes_slot}

-- ---- the terms written

module _ (L : Layout) (t : Terms) (s : List ℕ) where
  length-terms : length (with_terms L t s) ≡ length s
  unfolding with_terms
  length-terms = split L.terms (λ e. rw e (length-sets s 8 (terms_bytes t))) (λ e. rw e)

  pub terms-outside : (p : ℕ) → (L.terms ≡ true → Outside p 8 136) → get_or (with_terms L t s) p 0 ≡ get_or s p 0
  unfolding with_terms
  terms-outside p out =
      split L.terms
      (λ e. rw e (get_d_sets-outside (terms_bytes t) s 8 p (rw length-terms_bytes (out e))))
      (λ e. rw e)

  terms-inside : L.terms ≡ true → 144 ≤ length s → Stands (with_terms L t s) 8 (terms_bytes t)
  unfolding with_terms
  terms-inside e long = rw e (get_d_sets-inside (terms_bytes t) s 8 (omega (arith, length-terms_bytes t)))

  bytes_terms : Bytes s → Bytes (with_terms L t s)
  unfolding with_terms
  bytes_terms b = split L.terms (λ e. rw e (bytes_sets (terms_bytes t) s 8 b (bytes_terms_bytes t))) (λ e. rw e b)

module _ (L : Layout) (ok : Sound L) (h : History) where
  pub slot-size : (e : ℕ) → length (slot_bytes L h e) ≡ L.slot
  slot-size e = length-slot L h e ∙ sym ok.slot

  -- ---- the first k slots written

  pub length-slots : (k : ℕ) (s : List ℕ) → length (with_slots L h k s) ≡ length s
  unfolding with_slots
  length-slots zero s = refl
  length-slots (suc k) s = length-sets (with_slots L h k s) (slot_at L k) (slot_bytes L h k) ∙ length-slots k s

  pub slots-outside : (k : ℕ) (s : List ℕ) (p : ℕ) → ((e : ℕ) → e < k → Outside p (slot_at L e) L.slot) → get_or (with_slots L h k s) p 0 ≡ get_or s p 0
  unfolding with_slots
  slots-outside zero s p out = refl
  slots-outside (suc k) s p out =
      get_d_sets-outside (slot_bytes L h k) (with_slots L h k s) (slot_at L k) p (rw (slot-size k) (out k (omega arith)))
      ∙ slots-outside k s p (λ e l. out e (omega arith))

  slots-inside : (k : ℕ) (s : List ℕ) → ((e : ℕ) → e < k → slot_at L e + L.slot ≤ length s)
      → (e : ℕ) → e < k → Stands (with_slots L h k s) (slot_at L e) (slot_bytes L h e)
  unfolding with_slots
  slots-inside zero s fits e l = absurd (omega arith)
  slots-inside (suc k) s fits e l = elim (dec_lt e k) [
    | yes below ↦
        λ j q.
        get_d_sets-outside (slot_bytes L h k) (with_slots L h k s) (slot_at L k) (slot_at L e + j)
        (rw (slot-size k) (slots_apart L ok e k j (omega (arith, slot-size e)) (λ x. omega arith)))
        ∙ slots-inside k s (λ d m. fits d (omega arith)) e below j q
    | no last ↦
        let here : e ≡ k = omega arith in
        rw here
        (get_d_sets-inside (slot_bytes L h k) (with_slots L h k s) (slot_at L k)
        (omega (arith, slot-size k, length-slots k s, fits k (omega arith))))
  ]

  bytes_slots : (k : ℕ) (s : List ℕ) → Bytes s → ((e : ℕ) → e < k → Bytes (slot_bytes L h e)) → Bytes (with_slots L h k s)
  unfolding with_slots
  bytes_slots zero s b slots = b
  bytes_slots (suc k) s b slots =
      bytes_sets (slot_bytes L h k) (with_slots L h k s) (slot_at L k) (bytes_slots k s b (λ e l. slots e (omega arith))) (slots k (omega arith))

  -- ---- the whole

  module _ (sites : ℕ) where
    abbrev n : ℕ
    n = h.count

    abbrev header : List ℕ
    header = header_bytes L n sites

    abbrev blank : List ℕ
    blank = replicate (512 * blocks_for L n) 0

    pub length-header : length (header_bytes L h.count sites) ≡ 7
    length-header =
        omega (
          arith,
          length-append L.letters (little_bytes 2 n ++ (sites ∷ [])),
          length-append (little_bytes 2 n) (sites ∷ []),
          length-little 2 n,
          ok.letters,
        )

    pub length_blank : length (sets blank 0 header) ≡ 512 * blocks_for L n
    length_blank = length-sets blank 0 header ∙ length-replicate {A = ℕ} (512 * blocks_for L n) 0

    -- block 0
    abbrev begun : List ℕ
    begun = with_terms L h.terms (sets blank 0 header)

    pub length-begun : length begun ≡ 512 * blocks_for L n
    length-begun = length-terms L h.terms (sets blank 0 header) ∙ length_blank

    pub length-unsealed : length (unsealed L sites h) ≡ 512 * blocks_for L n
    unfolding unsealed
    length-unsealed = length-slots n begun ∙ length-begun

    pub length_record : length (record_bytes L sites h) ≡ 512 * blocks_for L h.count
    unfolding record_bytes
    length_record = length-sealed (blocks_for L n) (unsealed L sites h) ∙ length-unsealed

    pub record_right : (k : ℕ) → k < blocks_for L h.count → block_right (record_bytes L sites h) k ≡ true
    unfolding record_bytes
    record_right k l = sealed-right (blocks_for L n) (unsealed L sites h) (omega (arith, length-unsealed)) k l

    -- a byte that is no check's and no slot's
    begun-at : (p : ℕ) → p % 512 < 508 → ((e : ℕ) → e < n → Outside p (slot_at L e) L.slot)
        → byte (record_bytes L sites h) p ≡ byte (with_terms L h.terms (sets (replicate (512 * blocks_for L h.count) 0) 0 (header_bytes L h.count sites))) p
    unfolding record_bytes unsealed
    begun-at p free out = sealed-outside (blocks_for L n) (unsealed L sites h) p free ∙ slots-outside n begun p out

    pub header-stands : Stands (record_bytes L sites h) 0 (header_bytes L h.count sites)
    header-stands j l =
        begun-at (0 + j) (omega (arith, length-header)) (λ e m x y. omega (arith, length-header))
        ∙ terms-outside L h.terms (sets blank 0 header) (0 + j) (λ o x y. omega (arith, length-header))
        ∙ get_d_sets-inside header blank 0 (omega (arith, length-header, length-replicate {A = ℕ} (512 * blocks_for L n) 0)) j l

    pub terms_stand : L.terms ≡ true → Stands (record_bytes L sites h) 8 (terms_bytes h.terms)
    terms_stand o j l =
        begun-at (8 + j) (omega (arith, length-terms_bytes h.terms)) (λ e m x y. omega (arith, length-terms_bytes h.terms))
        ∙ terms-inside L h.terms (sets blank 0 header) o (omega (arith, length_blank)) j l

    pub openings_stand : L.terms ≡ true → Stands (record_bytes L sites h) 12 (opening_bytes h.terms.opening)
    openings_stand o = openings_behind h.terms (record_bytes L sites h) (terms_stand o)

    -- nor of block 0's first seven, nor the terms'
    pub zero_elsewhere : (p : ℕ) → 7 ≤ p → (L.terms ≡ true → Outside p 8 136) → p % 512 < 508
        → ((e : ℕ) → e < h.count → Outside p (slot_at L e) L.slot) → byte (record_bytes L sites h) p ≡ 0
    zero_elsewhere p past apart free out =
        begun-at p free out
        ∙ terms-outside L h.terms (sets blank 0 header) p apart
        ∙ get_d_sets-outside header blank 0 p (λ x y. omega (arith, length-header))
        ∙ zero-at (512 * blocks_for L n) p

    pub slot-stands : (e : ℕ) → e < h.count → Stands (record_bytes L sites h) (slot_at L e) (slot_bytes L h e)
    unfolding record_bytes unsealed
    slot-stands e l j q =
        sealed-outside (blocks_for L n) (unsealed L sites h) (slot_at L e + j) (slot_unchecked L ok e j (omega (arith, slot-size e)))
        ∙ slots-inside n begun (λ d m. omega (arith, length-begun, slot-inside L ok n d m)) e l j q

    -- the bytes of block 0 behind the sites
    pub header-rest : (p : ℕ) → 7 ≤ p → p < 508 → (L.terms ≡ true → Outside p 8 136) → byte (record_bytes L sites h) p ≡ 0
    header-rest p past l apart = zero_elsewhere p past apart (omega arith) (λ e m x y. omega arith)

    pub slot_empty : (e j : ℕ) → h.count ≤ e → j < L.slot → byte (record_bytes L sites h) (slot_at L e + j) ≡ 0
    slot_empty e j past l =
        zero_elsewhere (slot_at L e + j) (omega arith) (λ o x y. omega arith) (slot_unchecked L ok e j l) (λ d m. slots_apart L ok e d j l (λ x. omega arith))

    pub tail_empty : (e j : ℕ) → j < 508 - L.slot * L.per_block → byte (record_bytes L sites h) (tail_at L e + j) ≡ 0
    tail_empty e j l = zero_elsewhere (tail_at L e + j) (omega arith) (λ o x y. omega arith) (omega (arith, ok.room)) (λ d m. tail_apart L ok d e j l)

    pub bytes_record : WellFormed L sites h → Bytes (record_bytes L sites h)
    unfolding record_bytes unsealed
    bytes_record good =
        bytes_sealed (blocks_for L n) (unsealed L sites h)
        (bytes_slots n begun
        (bytes_terms L h.terms (sets blank 0 header)
        (bytes_sets header blank 0 (bytes_zero (512 * blocks_for L n))
        (bytes_append L.letters (little_bytes 2 n ++ (sites ∷ [])) ok.letter_bytes
        (bytes_append (little_bytes 2 n) (sites ∷ []) (bytes_little 2 n) (bytes_cons sites [] (omega (arith, good.most)) bytes_nil)))))
        (λ e l. bytes_slot L sites h e (omega (arith, good.most)) (good.event e l)))
