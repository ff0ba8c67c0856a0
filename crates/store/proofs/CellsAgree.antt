-- Sites that know the same puts hold the same cells, and answer a get alike. Assumes nothing.
use mathlib.Core.Path.{◌≡◌, sym, ap, ◌∙◌}
use mathlib.Core.Bool.{Bool, true}
use Prim.Native.Nat.{ℕ, ◌≤◌, ◌<◌}
use native.Mathlib.Omega.{arith}
use borrow.Author.Tests.{lt-ltb}
use Rattle.record.specs.Terms.{value_or0, Terms}
use Rattle.store.specs.Store.{Cell, untouched, full, Store}
use Rattle.store.specs.Calls.{get}
use Rattle.store.specs.Rules.{refusal, done_answer, answer}
use Rattle.store.proofs.Invariant.{Table, key, HoldsLast, StoreInv}
use Rattle.store.proofs.StoreIsCausal.{key_once}

-- cells of one object, right for two sets with the same puts: both hold the put with the largest key, which only one event has, or the opening figure
one_cell : (T : Terms) (F : Table) (K L : ℕ → Bool) (o : ℕ) (c d : Cell)
    → ((p q : ℕ) → K p ≡ true → K q ≡ true → key (F p) ≡ key (F q) → p ≡ q)
    → ((q : ℕ) → K q ≡ true → (F q).is_put ≡ true → L q ≡ true)
    → ((q : ℕ) → L q ≡ true → (F q).is_put ≡ true → K q ≡ true)
    → HoldsLast T F K o c → HoldsLast T F L o d → c ≡ d
one_cell T F K L o (untouched x) (untouched y) once up down h k = ap untouched (sym h.1 ∙ k.1)
one_cell T F K L o (untouched x) (full v stamp site) once up down h k =
    absurd (h.0 k.0 (down k.0 k.1.seen k.1.is_put) k.1.is_put k.1.object)
one_cell T F K L o (full v stamp site) (untouched y) once up down h k =
    absurd (k.0 h.0 (up h.0 h.1.seen h.1.is_put) h.1.is_put h.1.object)
one_cell T F K L o (full v stamp site) (full v' stamp' site') once up down h k =
    let p : ℕ = h.0 in
    let q : ℕ = k.0 in
    let q-known : K q ≡ true = down q k.1.seen k.1.is_put in
    let p-known : L p ≡ true = up p h.1.seen h.1.is_put in
    let keys : key (F p) ≡ key (F q) =
    omega (arith, h.1.last q q-known k.1.is_put k.1.object, k.1.last p p-known h.1.is_put h.1.object) in
    let same : p ≡ q = once p q h.1.seen q-known keys in
    let values : v ≡ v' = ap value_or0 (sym h.2 ∙ ap (λ (e : ℕ). (F e).shown) same ∙ k.2) in
    let stamps : stamp ≡ stamp' = sym h.3 ∙ ap (λ (e : ℕ). (F e).stamp) same ∙ k.3 in
    let sites : site ≡ site' = sym h.4 ∙ ap (λ (e : ℕ). (F e).site) same ∙ k.4 in
    rw (values, stamps, sites)

-- the site knows every put done
abbrev pub KnowsAll : Store → ℕ → Type 0
KnowsAll st t = (w : ℕ) → w < st.count → (st.event w).is_put ≡ true → (st.site t).known w ≡ true

pub cells_agree : (n : ℕ) → n ≤ 8 → {T : Terms} (st : Store) → StoreInv n T st.event st → (s t : ℕ) → KnowsAll st s → KnowsAll st t
    → (o : ℕ) → (st.site s).cell o ≡ (st.site t).cell o
cells_agree n n≤8 {T} st ok s t all-s all-t o =
    one_cell T st.event (st.site s).known (st.site t).known o ((st.site s).cell o) ((st.site t).cell o)
    (λ p q h k. key_once n n≤8 st ok p q ((ok.sites s).below p h) ((ok.sites s).below q k))
    (λ q h. all-t q ((ok.sites s).below q h))
    (λ q h. all-s q ((ok.sites t).below q h))
    ((ok.sites s).cell o)
    ((ok.sites t).cell o)

pub gets-agree : (n : ℕ) (st : Store) (s t o : ℕ) → s < n → t < n → (st.site s).cell o ≡ (st.site t).cell o
    → answer n st (get s o) ≡ answer n st (get t o)
unfolding answer refusal done_answer
gets-agree n st s t o s<n t<n e = rw (lt-ltb s n s<n, lt-ltb t n t<n, e)
