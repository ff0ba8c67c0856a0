-- What rb comes to for two events, in each of its three cases, in numbers and not in tests.
use Rattle.std.specs.Prelude.{◌≡◌, ◌↔◌, true, false, ℕ, ◌+◌, ◌<◌}
use Rattle.record.specs.History.{History}
use Rattle.consistency.specs.Relations.{rb}

pub record ByCases (h : History) (a b : ℕ) : Type 0 where
  -- a pending event is before nothing
  pub pending : h.is_pending a ≡ true → rb h a b ≡ false
  -- a returned one is before an event of its own site exactly where return < start
  pub same_site_lem : h.is_pending a ≡ false → h.site a ≡ h.site b → (rb h a b ≡ true) ↔ (h.return a < h.start b)
  -- and before one of another site exactly where return + difference < start, as whole numbers
  pub other_site_lem : h.is_pending a ≡ false → (h.site a ≡ h.site b → ⊥) → (rb h a b ≡ true) ↔ (h.return a + h.terms.difference < h.start b)
