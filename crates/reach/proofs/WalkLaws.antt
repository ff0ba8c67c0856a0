-- Laws of a walk back through a relation from event b: it stands at event e, and the first `depth` numbers of `path` are the events that wait for it. Assumes nothing.
use mathlib.Core.Path.{◌≡◌, ap, ◌∙◌}
use mathlib.Core.Logic.{◌≢◌}
use mathlib.Core.List.{List}
use Prim.Native.Nat.{ℕ, ◌+◌, ◌-◌, ◌<◌}
use native.Mathlib.Omega.{arith}
use native.Mathlib.Decide.{ℕ_discrete}
use lib.ListN.{length, get_or, set}
use lib.Seq.{get_or-set_same, get_or-set_other}

-- all of them are among the n events, and the first is b
pub record Walk (n b e depth : ℕ) (path : List ℕ) : Type 0 where
  pub here : e < n
  pub waits : (k : ℕ) → k < depth → get_or path k 0 < n
  pub alone : depth ≡ 0 → e ≡ b
  pub first : depth ≢ 0 → get_or path 0 0 ≡ b

module _ {n b e d : ℕ} {p : List ℕ} (w : Walk n b e d p) {d' : ℕ} {p' : List ℕ} where
  -- e waits for x
  pub walk_on : (x : ℕ) → x < n → d < length p → p' ≡ set p d e → d' ≡ d + 1 → Walk n b x d' p'
  walk_on x h room q s = record {
    here = h;
    waits = λ k l. elim (ℕ_discrete k d) [ yes i ↦ omega (arith, new k i, w.here) | no i ↦ omega (arith, old k i, w.waits k (omega arith)) ];
    alone = λ z. absurd (omega arith);
    first = λ z. elim (ℕ_discrete 0 d) [ yes i ↦ new 0 i ∙ w.alone (omega arith) | no i ↦ old 0 i ∙ w.first (λ k. i (omega arith)) ];
  }
    where
      new : (k : ℕ) → k ≡ d → get_or p' k 0 ≡ e
      new k i = ap (λ (t : List ℕ). get_or t k 0) q ∙ ap (λ (j : ℕ). get_or (set p d e) j 0) i ∙ get_or-set_same p d e 0 room

      old : (k : ℕ) → k ≢ d → get_or p' k 0 ≡ get_or p k 0
      old k i = ap (λ (t : List ℕ). get_or t k 0) q ∙ get_or-set_other p d k e 0 i

  -- and is taken up again
  pub walk_back : (x : ℕ) → d ≢ 0 → p' ≡ p → x ≡ get_or p (d - 1) 0 → d' ≡ d - 1 → Walk n b x d' p'
  walk_back x ne q r s = record {
    here = omega (arith, w.waits (d - 1) (omega arith));
    waits = λ k l. omega (arith, same k, w.waits k (omega arith));
    alone = λ z. let k : d - 1 ≡ 0 = omega arith in r ∙ ap (λ (j : ℕ). get_or p j 0) k ∙ w.first ne;
    first = λ z. same 0 ∙ w.first ne;
  }
    where
      same : (k : ℕ) → get_or p' k 0 ≡ get_or p k 0
      same k = ap (λ (t : List ℕ). get_or t k 0) q
