-- The events of a history in another arbitration.
use Rattle.std.specs.Prelude.{◌≡◌, List, ℕ, zero, suc, ◌+◌, ◌<◌}
use Rattle.std.proofs.lemmas.List.Edits.{sets}
use Rattle.record.specs.Layout.{Layout, slot_at}
use Rattle.record.specs.History.{History}
use Rattle.record.specs.Encode.{little_bytes}

-- f gives each of n events a position of its own below n
pub record Arbitration (n : ℕ) (f : ℕ → ℕ) : Type 0 where
  pub below : (e : ℕ) → e < n → f e < n
  pub distinct : (d e : ℕ) → d < n → e < n → f d ≡ f e → d ≡ e

-- the events of h, at other positions
abbrev pub positioned : (ℕ → ℕ) → History → History
positioned f h = record {
  count = h.count;
  is_write = h.is_write;
  site = h.site;
  object = h.object;
  is_pending = h.is_pending;
  is_present = h.is_present;
  value = h.value;
  position = f;
  start = h.start;
  return = h.return;
  sees = h.sees;
  terms = h.terms;
}

-- positions written over those of the first k slots
unfoldable pub with_positions : Layout → (ℕ → ℕ) → ℕ → List ℕ → List ℕ
with_positions L f zero s = s
with_positions L f (suc e) s = sets (with_positions L f e s) (slot_at L e + 10) (little_bytes 2 (f e))
