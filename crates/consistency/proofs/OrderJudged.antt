-- How code may find the order: place by what is seen and by what reads' values put before what, and judge the record with the positions found. Assumes nothing.
use mathlib.Core.Path.{◌≡◌, sym, ap, ◌∙◌}
use mathlib.Core.Logic.{◌↔◌}
use mathlib.Core.Bool.{Bool, true, ◌||◌}
use Prim.Native.Nat.{ℕ, ◌<◌}
use native.Mathlib.Omega.{arith}
use borrow.Author.Tests.{eqb-true, eq-eqb}
use lib.Dec.{eqb}
use Rattle.std.specs.Prelude.{None}
use Rattle.rows.specs.Lowest.{lowest}
use Rattle.rows.specs.Placing.{all_placed, positions}
use Rattle.rows.proofs.Tests.{same_test, or_right}
use Rattle.rows.proofs.LowestLaws.{lowest_low, some_at, some_of}
use Rattle.rows.proofs.ReachLaws.{reaches_step}
use Rattle.rows.proofs.PlacingLaws.{ringless-placed, placed_orders, placed_same, positions-same}
use Rattle.record.specs.History.{History, vis}
use Rattle.record.specs.Positioned.{positioned}
use Rattle.consistency.specs.Relations.{so, step, hb}
use Rattle.consistency.specs.Predicates.{rule}
use Rattle.consistency.specs.Holds.{Obeys, Holds}
use Rattle.consistency.specs.Models.{list_of, first_broken, Outcome}
use Rattle.consistency.specs.Lattice.{causal}
use Rattle.consistency.specs.FoundOrder.{holds_of, value_puts, puts, seen_puts, has_order, found_positions, Unambiguous, MakesCausal}
use Rattle.consistency.specs.declared.Predicate.TheVariants.{CausalVisibility}
use Rattle.consistency.proofs.FirstPairLaws.{Alike}
use Rattle.consistency.proofs.BrokenIff.{list_met_iff}
use Rattle.consistency.proofs.FoundOrderLaws.{holds-seen, holds-value, seen_one, has_orderable, orderable_has, found-causal, causal_orderable}

-- ---- the write whose value a read holds is the lowest such

pub holds-lowest : (h : History) → Unambiguous h → (e w : ℕ) → w < h.count → holds_of h e w ≡ eqb w (lowest h.count (holds_of h e))
holds-lowest h u e w j =
    let x : ℕ = lowest h.count (holds_of h e) in
    same_test (holds_of h e w) (eqb w x)
    (λ t.
    let at = some_at h.count (holds_of h e) (some_of h.count (holds_of h e) w j t) in
    eq-eqb w x (seen_one h u e w x j at.0 (holds-seen h e w t) (holds-seen h e x at.1) (holds-value h e w t) (holds-value h e x at.1)))
    (λ t.
    let z : x ≡ w = sym (eqb-true w x t) in
    rw z at ((lowest_low h.count (holds_of h e)).at (omega (arith, z))))

-- ---- where 10 is met, hb is vis, so that nothing is left to close

pub puts_seen : (h : History) → Holds CausalVisibility h → Alike h.count (puts h) (seen_puts h)
unfolding puts seen_puts Holds Obeys rule hb step
puts_seen h seen a b i j = ap (λ (t : Bool). t || value_puts h a b) (same_test (hb h a b) (vis h a b) (seen a b i j)
    (λ t. reaches_step h.count (step h) a b (or_right (so h a b) (vis h a b) t)))

-- ---- placed so, and judged

module _ (h : History) where
  -- the positions that code finds, and the record with them
  abbrev pub seen_positions : ℕ → ℕ
  seen_positions = positions h.count (seen_puts h)

  abbrev pub judged : Outcome
  judged = first_broken (list_of causal) (positioned seen_positions h)

  -- where there is an order, all are placed by what is seen too, at the same positions
  pub found-placed : has_order h ≡ true → all_placed h.count (seen_puts h) ≡ true
  found-placed t =
      let o = has_orderable h t in
      sym (placed_same h.count (puts h) (seen_puts h) (puts_seen h o.visibility)) ∙ ringless-placed h.count (puts h) o.ringless

  pub found-seen : has_order h ≡ true → found_positions h ≡ seen_positions
  unfolding found_positions
  found-seen t = positions-same h.count (puts h) (seen_puts h) (puts_seen h (has_orderable h t).visibility)

  causal-judged : has_order h ≡ true → judged ≡ None
  causal-judged t =
      let m : MakesCausal h seen_positions = rw (found-seen t) at (found-causal h t) in
      (list_met_iff (positioned seen_positions h) m.arbitration.distinct (list_of causal)).1 m.holds

  module _ (u : Unambiguous h) where
    judged-causal : all_placed h.count (seen_puts h) ≡ true → judged ≡ None → MakesCausal h seen_positions
    judged-causal t e =
        let o = placed_orders h.count (seen_puts h) t in
        record { arbitration = record { below = o.below; distinct = o.distinct }; holds = (list_met_iff (positioned seen_positions h) o.distinct (list_of causal)).0 e }

    -- there is an order exactly if all are placed, and the record judged with their positions is causal
    pub has_iff_judged : (has_order h ≡ true) ↔ ((all_placed h.count (seen_puts h) ≡ true) × (judged ≡ None))
    has_iff_judged = (λ t. (found-placed t, causal-judged t), λ c. orderable_has h (causal_orderable h u (judged-causal c.0 c.1)))
