-- hb is one or more steps, each so or vis; so 10 and 11 say that the ends of every such chain are in vis, or in ar. Assumes nothing.
use mathlib.Core.Path.{◌≡◌}
use mathlib.Core.Logic.{◌↔◌}
use mathlib.Core.Bool.{true}
use Prim.Native.Nat.{ℕ, ◌<◌}
use Rattle.rows.specs.Relation.{Rel}
use Rattle.rows.proofs.ReachLaws.{reaches-sound, reaches_complete}
use Rattle.record.specs.History.{History, vis}
use Rattle.consistency.specs.Relations.{ar, step, hb, Chain}
use Rattle.consistency.specs.Predicates.{rule}
use Rattle.consistency.specs.Holds.{Within, Obeys, Holds}
use Rattle.consistency.specs.declared.Predicate.TheVariants.{CausalVisibility, CausalArbitration}

-- the ends of every chain are in r
abbrev pub Chained : History → Rel → Type 0
Chained h r = (a b : ℕ) → a < h.count → b < h.count → Chain h a b → r a b ≡ true

module _ (h : History) where
  pub hb-chain : (a b : ℕ) → hb h a b ≡ true → Chain h a b
  unfolding hb
  hb-chain a b e = reaches-sound h.count (step h) a b e

  pub chain-hb : (a b : ℕ) → Chain h a b → hb h a b ≡ true
  unfolding hb
  chain-hb a b s = reaches_complete h.count (step h) s

  pub hb_iff_chain : (a b : ℕ) → (hb h a b ≡ true) ↔ Chain h a b
  hb_iff_chain a b = (hb-chain a b, chain-hb a b)

  pub within_chained : (r : Rel) → Within h.count (hb h) r → Chained h r
  within_chained r w a b i j s = w a b i j (chain-hb a b s)

  pub chained_within : (r : Rel) → Chained h r → Within h.count (hb h) r
  chained_within r c a b i j e = c a b i j (hb-chain a b e)

  pub visibility_iff : Holds CausalVisibility h ↔ Chained h (vis h)
  unfolding Holds Obeys rule
  visibility_iff = (within_chained (vis h), chained_within (vis h))

  pub arbitration_iff : Holds CausalArbitration h ↔ Chained h (ar h)
  unfolding Holds Obeys rule
  arbitration_iff = (within_chained (ar h), chained_within (ar h))
