-- The bytes of a record that says what a history says: zero bytes, block 0, each slot at its place, and then each block's check.
use Rattle.std.specs.Prelude.{◌≡◌, Bool, true, false, cond, List, [], ◌∷◌, ◌++◌, ℕ, zero, suc, ◌+◌, ◌*◌, ◌-◌, ◌/◌, ◌%◌, ◌<◌, length, replicate}
use Rattle.std.proofs.lemmas.List.Edits.{sets}
use Rattle.rows.specs.Row.{has}
use Rattle.record.specs.declared.Slot.{Slot}
use Rattle.record.specs.Layout.{Layout, slot_at}
use Rattle.record.specs.Terms.{Held, is_value, value_or0, Terms}
use Rattle.record.specs.Blocks.{sum_a, sum_b}
use Rattle.record.specs.History.{History}

-- the k bytes of x, lowest first
unfoldable pub little_bytes : ℕ → ℕ → List ℕ
little_bytes zero x = []
little_bytes (suc k) x = x % 256 ∷ little_bytes k (x / 256)

abbrev pub bit : Bool → ℕ
bit true = 1
bit false = 0

-- the number whose k lowest bits are f 0, f 1, ..
unfoldable pub bits : ℕ → (ℕ → Bool) → ℕ
bits zero f = 0
bits (suc k) f = bit (f 0) + 2 * bits k (λ j. f (suc j))

-- k bytes of a set: number b is bit b % 8 of byte b / 8
unfoldable pub set_bytes : ℕ → (ℕ → Bool) → List ℕ
set_bytes zero f = []
set_bytes (suc k) f = bits 8 f ∷ set_bytes k (λ b. f (8 + b))

-- the slot of event e
unfoldable pub slot_bytes : Layout → History → ℕ → List ℕ
slot_bytes L h e =
    bit (h.is_write e) ∷ h.site e ∷ h.object e ∷ bit (h.is_pending e) ∷
    (little_bytes 4 (h.value e) ++ (bit (h.is_present e) ∷ 0 ∷
    (little_bytes 2 (h.position e) ++ (replicate 4 0 ++ (little_bytes 8 (h.start e) ++ (little_bytes 8 (h.return e)
    ++ set_bytes (8 * L.row) (h.sees e)))))))

-- 1 + (n/7 rounded up) blocks where a block has seven slots, n/6 where it has six
abbrev pub blocks_for : Layout → ℕ → ℕ
blocks_for L n = 1 + (n + (L.per_block - 1)) / L.per_block

-- what every edition has in block 0: letters, n events, and the sites
abbrev pub header_bytes : Layout → ℕ → ℕ → List ℕ
header_bytes L n sites = L.letters ++ (little_bytes 2 n ++ (sites ∷ []))

-- the values of k objects, 0 where there is none
unfoldable pub figure_bytes : ℕ → (ℕ → Held) → List ℕ
figure_bytes zero f = []
figure_bytes (suc k) f = little_bytes 4 (value_or0 (f 0)) ++ figure_bytes k (λ o. f (suc o))

-- 132 bytes of openings
unfoldable pub opening_bytes : (ℕ → Held) → List ℕ
opening_bytes f = set_bytes 4 (λ o. is_value (f o)) ++ figure_bytes 32 f

-- 136 bytes of terms: the difference and the openings
unfoldable pub terms_bytes : Terms → List ℕ
terms_bytes t = little_bytes 4 t.difference ++ opening_bytes t.opening

-- the terms written to block 0, where the edition has them
unfoldable pub with_terms : Layout → Terms → List ℕ → List ℕ
with_terms L t s = cond L.terms (sets s 8 (terms_bytes t)) s

-- the first k slots written
unfoldable pub with_slots : Layout → History → ℕ → List ℕ → List ℕ
with_slots L h zero s = s
with_slots L h (suc e) s = sets (with_slots L h e s) (slot_at L e) (slot_bytes L h e)

-- the check of block k written, and those of the first k blocks
abbrev pub seal : List ℕ → ℕ → List ℕ
seal s k = sets s (512 * k + 508) (little_bytes 2 (sum_a 254 s k) ++ little_bytes 2 (sum_b 254 s k))

unfoldable pub sealed : ℕ → List ℕ → List ℕ
sealed zero s = s
sealed (suc k) s = seal (sealed k s) k

unfoldable pub unsealed : Layout → ℕ → History → List ℕ
unsealed L sites h =
    with_slots L h h.count (with_terms L h.terms (sets (replicate (512 * blocks_for L h.count) 0) 0 (header_bytes L h.count sites)))

unfoldable pub record_bytes : Layout → ℕ → History → List ℕ
record_bytes L sites h = sealed (blocks_for L h.count) (unsealed L sites h)

-- ---- a slot from its fields and a row of words

-- the slot with the fields x, and in its visible set the members of a row
unfoldable pub slot_from : Slot → List ℕ → List ℕ
slot_from x row =
    bit x.write ∷ x.site ∷ x.object ∷ bit x.pending ∷
    (little_bytes 4 x.value ++ (bit x.present ∷ 0 ∷
    (little_bytes 2 x.position ++ (replicate 4 0 ++ (little_bytes 8 x.start ++ (little_bytes 8 x.returned
    ++ set_bytes (8 * length row) (has row)))))))

-- these are event e's of h
pub record SlotOf (h : History) (e : ℕ) (x : Slot) (row : List ℕ) : Type 0 where
  pub is_write : h.is_write e ≡ x.write
  pub site : h.site e ≡ x.site
  pub object : h.object e ≡ x.object
  pub is_pending : h.is_pending e ≡ x.pending
  pub is_present : h.is_present e ≡ x.present
  pub value : h.value e ≡ x.value
  pub position : h.position e ≡ x.position
  pub start : h.start e ≡ x.start
  pub return : h.return e ≡ x.returned
  pub sees : (b : ℕ) → b < 64 * length row → h.sees e b ≡ has row b
