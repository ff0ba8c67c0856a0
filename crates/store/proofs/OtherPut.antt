-- A put that comes to a site is another than the one in its cell there: they differ in stamp or site. Assumes nothing.
use mathlib.Core.Path.{◌≡◌, subst}
use mathlib.Core.Bool.{true, false}
use Prim.Native.Nat.{ℕ, ◌≤◌, ◌<◌}
use native.Mathlib.Omega.{arith}
use Rattle.rows.proofs.Tests.{tell}
use Rattle.record.specs.Terms.{Terms}
use Rattle.store.specs.Store.{full, Store}
use Rattle.store.proofs.Invariant.{HoldsLast, StoreInv}
use Rattle.store.proofs.StoreIsCausal.{key_once}

pub other-put : (n : ℕ) → n ≤ 8 → {T : Terms} (st : Store) → StoreInv n T st.event st → (w t o v stamp site : ℕ) → w < st.count → (st.site t).known w ≡ false
    → (st.site t).cell o ≡ full v stamp site → stamp ≡ (st.event w).stamp → site ≡ (st.event w).site → ⊥
other-put n n≤8 {T} st ok w t o v stamp site l lacks cell stamps sites =
    let h : HoldsLast T st.event (st.site t).known o (full v stamp site) = subst (HoldsLast T st.event (st.site t).known o) cell ((ok.sites t).cell o) in
    let p : ℕ = h.0 in
    let seen : (st.site t).known p ≡ true = h.1.seen in
    let same : p ≡ w = key_once n n≤8 st ok p w ((ok.sites t).below p seen) l (omega (arith, h.3, h.4)) in
    tell ((st.site t).known p) seen (rw same lacks)
