-- Laws of a site's counts, and of its row of known events as the set that it stands for. Assumes nothing.
use mathlib.Core.Path.{◌≡◌, refl, sym, ap, ◌∙◌, fun_ext}
use mathlib.Core.Bool.{Bool, true, false, cond, ◌||◌, and-false, or_comm, and-true}
use mathlib.Core.List.{List}
use Prim.Native.Nat.{ℕ, suc, ◌+◌, ◌/◌, ◌≤◌, ◌<◌}
use native.Mathlib.Numerals.{add-one}
use native.Mathlib.Omega.{arith}
use lib.Dec.{eqb, leb, ltb}
use lib.ListN.{length, get_or, set}
use lib.Seq.{get_or-set_same, get_or-set_other}
use mir.Val.{bool_byte}
use borrow.Author.Tests.{eq-eqb, ne_eqb, ltb-true, ltb-false}
use Rattle.rows.specs.Row.{has, insert, or_row}
use Rattle.rows.proofs.Tests.{split}
use Rattle.rows.proofs.RowLaws.{has-insert, has-or, length-or}
use Rattle.rows.proofs.StoredLaws.{Stored}
use Rattle.record.specs.Layout.{most_events}
use Rattle.store.specs.Store.{upd}
use Rattle.store.specs.Rules.{reached}
use Rattle.calls.specs.Mirror.{OneMore}
use Rattle.store.proofs.UpdateLaws.{upd_elim}

-- ---- arrays

-- a list with one place set is its function with that place changed
pub set-upd : {A : Type 0} (l : List A) (i : ℕ) (v d : A) → i < length l → (j : ℕ) → get_or (set l i v) j d ≡ upd (λ (k : ℕ). get_or l k d) i v j
set-upd {A} l i v d h j =
    upd_elim (λ (x : A). get_or (set l i v) j d ≡ x) (λ (k : ℕ). get_or l k d) i v j
    (λ q. ap (λ (k : ℕ). get_or (set l i v) k d) q ∙ get_or-set_same l i v d h)
    (λ q. get_or-set_other l i j v d q)

-- a loop that adds one where the test holds
module _ (counts : List ℕ) (j : ℕ) where
  abbrev pub raised : ℕ → ℕ
  raised = upd (λ (m : ℕ). get_or counts m 0) j (suc (get_or counts j 0))

  pub raised_at : (all : List ℕ) (i : ℕ) → Stored raised counts all i → get_or all i 0 + bool_byte (eqb i j) ≡ raised i
  raised_at all i s = ap (λ (x : ℕ). x + bool_byte (eqb i j)) (s.above i (omega arith))
      ∙ upd_elim (λ (x : ℕ). get_or counts i 0 + bool_byte (eqb i j) ≡ x) (λ (m : ℕ). get_or counts m 0) j (suc (get_or counts j 0)) i
      (λ q. omega (arith, ap bool_byte (eq-eqb i j q), ap (λ (m : ℕ). get_or counts m 0) q))
      (λ q. omega (arith, ap bool_byte (ne_eqb i j q)))

  pub raised_small : (all : List ℕ) (i : ℕ) → Stored raised counts all i → get_or counts i 0 ≤ most_events → get_or all i 0 + bool_byte (eqb i j) ≤ most_events + 1
  raised_small all i s small = go (eqb i j)
    where
      go : (t : Bool) → get_or all i 0 + bool_byte t ≤ most_events + 1
      go true = omega (arith, s.above i (omega arith))
      go false = omega (arith, s.above i (omega arith))

  -- past the eighth there is no count
  pub raised_all : (all : List ℕ) → Stored raised counts all 8 → j < 8 → OneMore counts all j
  raised_all all s h = fun_ext (λ k.
      split (ltb k 8)
      (λ t. s.below k (ltb-true k 8 t))
      (λ t.
      let past : 8 ≤ k = ltb-false k 8 t in
      upd_elim (λ (x : ℕ). get_or all k 0 ≡ x) (λ (i : ℕ). get_or counts i 0) j (suc (get_or counts j 0)) k
      (λ q. absurd (omega arith))
      (λ q. s.above k past)))

-- ---- known sets

pub eqb_turn : (a b : ℕ) → eqb a b ≡ eqb b a
eqb_turn a b = upd_elim (λ (t : Bool). eqb a b ≡ t) (λ (x : ℕ). false) a true b (λ q. eq-eqb a b (sym q)) (λ q. ne_eqb a b (λ r. q (sym r)))
    ∙ as_test (eqb b a)
  where
    as_test : (t : Bool) → cond t true false ≡ t
    as_test true = refl
    as_test false = refl

or-cond : (t u : Bool) → t || u ≡ cond t true u
or-cond true u = refl
or-cond false u = refl

pub known_more : (l : List ℕ) (k : ℕ) → k / 64 < length l → has (insert l k) ≡ upd (has l) k true
known_more l k h = fun_ext (λ x. has-insert l k x h ∙ ap (λ (t : Bool). t || has l x) (eqb_turn k x) ∙ or-cond (eqb x k) (has l x))

-- w and what it saw
pub known_joined : (l m : List ℕ) (w : ℕ) → length m ≤ length l → w / 64 < length l
    → has (insert (or_row l m) w) ≡ (λ (x : ℕ). eqb x w || (has m x || has l x))
known_joined l m w h k = fun_ext (λ x.
    has-insert (or_row l m) w x (omega (arith, length-or l m))
    ∙ ap (λ (t : Bool). t || has (or_row l m) x) (eqb_turn w x)
    ∙ ap (λ (t : Bool). eqb x w || t) (has-or l m x h ∙ or_comm (has l x) (has m x)))

-- ---- needs

-- one count more that reaches its need, and one that doesn't
module _ (k : ℕ) (needs held : ℕ → ℕ) where
  pub reached-more : leb (needs k) (held k) ≡ true → reached k needs held ≡ reached (k + 1) needs held
  unfolding reached
  reached-more e = sym (rw (add-one, e) (and-true (reached k needs held)))

  pub reached_less : leb (needs k) (held k) ≡ false → false ≡ reached (k + 1) needs held
  unfolding reached
  reached_less e = sym (rw (add-one, e) (and-false (reached k needs held)))
