-- Histories that agree have the same record in every edition. Assumes nothing.
use mathlib.Core.Path.{◌≡◌, sym, ap, ap₂, ◌∙◌, fun_ext}
use mathlib.Core.Bool.{true}
use mathlib.Core.List.{List}
use Prim.Native.Nat.{ℕ, ◌*◌, ◌<◌}
use native.Mathlib.Omega.{arith}
use native.Mathlib.Decide.{dec_lt}
use lib.ListN.{replicate}
use lib.Seq.{sets}
use Rattle.rows.proofs.Tests.{never}
use Rattle.record.specs.Layout.{Layout}
use Rattle.record.specs.Terms.{Held, Terms, SameTerms}
use Rattle.record.specs.History.{History, Agree}
use Rattle.record.specs.Encode.{slot_bytes, blocks_for, header_bytes, with_terms, with_slots, sealed, unsealed, record_bytes}
use Rattle.record.proofs.WordBytes.{set_bytes-same}
use Rattle.record.proofs.WrittenLaws.{slots_same}

abbrev terms : ℕ → (ℕ → Held) → Terms
terms d f = record { difference = d; opening = f }

-- terms that say the same are the same
pub terms-one : (t u : Terms) → SameTerms t u → t ≡ u
terms-one t u same = ap₂ terms same.difference (fun_ext same.opening)

-- visible sets hold events of the history only
abbrev pub Inside : History → Type 0
Inside h = (e b : ℕ) → e < h.count → h.sees e b ≡ true → b < h.count

module _ (h k : History) (agree : Agree h k) (in-h : Inside h) (in-k : Inside k) where
  sees-same : (e b : ℕ) → e < h.count → h.sees e b ≡ k.sees e b
  sees-same e b l = elim (dec_lt b h.count) [
    | yes m ↦ agree.events.sees e b l m
    | no g ↦
        never (h.sees e b) (λ t. g (in-h e b l t))
        ∙ sym (never (k.sees e b) (λ t. g (omega (arith, in-k e b (omega (arith, agree.events.count)) t, agree.events.count))))
  ]

  slot_bytes-same : (L : Layout) (e : ℕ) → e < h.count → slot_bytes L h e ≡ slot_bytes L k e
  unfolding slot_bytes
  slot_bytes-same L e l =
      let a = agree.events in
      rw (
        a.is_write e l,
        a.site e l,
        a.object e l,
        a.is_pending e l,
        a.value e l,
        a.is_present e l,
        a.position e l,
        a.start e l,
        agree.return e l,
        set_bytes-same (8 * L.row) (h.sees e) (k.sees e) (λ b m. sees-same e b l),
      )

  pub record_same : (L : Layout) (sites : ℕ) → record_bytes L sites h ≡ record_bytes L sites k
  unfolding record_bytes unsealed
  record_same L sites =
      let begun : ℕ → List ℕ = λ n. sets (replicate (512 * blocks_for L n) 0) 0 (header_bytes L n sites) in
      let n : ℕ = h.count in
      ap (sealed (blocks_for L n)) (slots_same L h k n (slot_bytes-same L) (with_terms L h.terms (begun n)))
      ∙ ap (λ (t : Terms). sealed (blocks_for L n) (with_slots L k n (with_terms L t (begun n)))) (terms-one h.terms k.terms agree.terms)
      ∙ ap (λ (m : ℕ). sealed (blocks_for L m) (with_slots L k m (with_terms L k.terms (begun m)))) agree.events.count
