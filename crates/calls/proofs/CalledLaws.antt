-- A call on the arrays, whichever way it goes, is that call on the store that they stand for. Assumes nothing.
use mathlib.Core.Path.{◌≡◌, refl, sym, ap, ◌∙◌}
use mathlib.Core.List.{List, [], ◌∷◌, ◌++◌}
use Prim.Native.Nat.{ℕ, ◌/◌, ◌%◌, ◌≤◌, ◌<◌}
use native.Mathlib.Omega.{arith}
use lib.ListN.{replicate}
use Rattle.record.specs.Encode.{little_bytes}
use Rattle.record.specs.Terms.{Terms}
use Rattle.store.specs.Store.{Store}
use Rattle.store.specs.Calls.{Call, put, get, deliver, close, malformed}
use Rattle.store.specs.Rules.{refusal, with_copy, copied, close_copies, effect, done_answer}
use Rattle.store.proofs.RunKeeps.{put_doable, get_doable}
use Rattle.calls.specs.declared.refuse.Refusal.{Refusal}
use Rattle.calls.specs.declared.refuse.Refusal.TheVariants.{IllFormed, NoSuchSite, NoSuchObject, NoSuchPut, Full, AlreadyKnown, NeedsUnmet}
use Rattle.calls.specs.Mirror.{refused_number}
use Rattle.calls.specs.Lent.{Lent, store_in, Stands}
use Rattle.calls.specs.Done.{Makable, Made, Copyable, Came, Closes, Called}
use Rattle.calls.proofs.RefuseLaws.{refused-store, refused-answer, done-store, done_answer_lem}
use Rattle.calls.proofs.FitLaws.{stands_fit, makable, copyable}

-- the bytes of a number, written out
pub eight_bytes : (x : ℕ) → little_bytes 8 x
    ≡ x % 256 ∷ x / 256 % 256 ∷ x / 65536 % 256 ∷ x / 16777216 % 256 ∷ x / 4294967296 % 256 ∷ x / 1099511627776 % 256 ∷ x / 281474976710656 % 256 ∷ x / 72057594037927936 % 256 ∷ []
unfolding little_bytes
eight_bytes x =
    let b₂ : x / 256 / 256 % 256 ≡ x / 65536 % 256 = omega arith in
    let b₃ : x / 256 / 256 / 256 % 256 ≡ x / 16777216 % 256 = omega arith in
    let b₄ : x / 256 / 256 / 256 / 256 % 256 ≡ x / 4294967296 % 256 = omega arith in
    let b₅ : x / 256 / 256 / 256 / 256 / 256 % 256 ≡ x / 1099511627776 % 256 = omega arith in
    let b₆ : x / 256 / 256 / 256 / 256 / 256 / 256 % 256 ≡ x / 281474976710656 % 256 = omega arith in
    let b₇ : x / 256 / 256 / 256 / 256 / 256 / 256 / 256 % 256 ≡ x / 72057594037927936 % 256 = omega arith in
    rw (b₂, b₃, b₄, b₅, b₆, b₇)

-- of a number that is a byte
pub byte_alone : (x : ℕ) → x < 256 → little_bytes 8 x ≡ x ∷ replicate 7 0
byte_alone x l =
    let b₀ : x % 256 ≡ x = omega arith in
    let b₁ : x / 256 % 256 ≡ 0 = omega arith in
    let b₂ : x / 65536 % 256 ≡ 0 = omega arith in
    let b₃ : x / 16777216 % 256 ≡ 0 = omega arith in
    let b₄ : x / 4294967296 % 256 ≡ 0 = omega arith in
    let b₅ : x / 1099511627776 % 256 ≡ 0 = omega arith in
    let b₆ : x / 281474976710656 % 256 ≡ 0 = omega arith in
    let b₇ : x / 72057594037927936 % 256 ≡ 0 = omega arith in
    eight_bytes x ∙ rw (b₀, b₁, b₂, b₃, b₄, b₅, b₆, b₇) refl

delivery_answer : (n : ℕ) (st : Store) (w s : ℕ) → replicate 8 0 ≡ done_answer n st (deliver w s)
unfolding done_answer
delivery_answer n st w s = refl

delivery_effect : (n : ℕ) (st : Store) (w s : ℕ) → with_copy st w s ≡ effect n st (deliver w s)
unfolding effect
delivery_effect n st w s = refl

close_answer_lem : (n : ℕ) (st : Store) → 0 ∷ 1 ∷ (replicate 2 0 ++ little_bytes 4 (copied n st (close_copies n st))) ≡ done_answer n st close
unfolding done_answer
close_answer_lem n st = refl

pub refused-some : (r : Refusal) → refused_number r ≡ 0 → ⊥
refused-some IllFormed e = omega arith
refused-some NoSuchSite e = omega arith
refused-some NoSuchObject e = omega arith
refused-some NoSuchPut e = omega arith
refused-some Full e = omega arith
refused-some AlreadyKnown e = omega arith
refused-some NeedsUnmet e = omega arith

pub refused_small : (r : Refusal) → refused_number r < 256
refused_small IllFormed = omega arith
refused_small NoSuchSite = omega arith
refused_small NoSuchObject = omega arith
refused_small NoSuchPut = omega arith
refused_small Full = omega arith
refused_small AlreadyKnown = omega arith
refused_small NeedsUnmet = omega arith

pub malformed-refused : (n : ℕ) (st : Store) → refusal n st malformed ≡ 0 → ⊥
unfolding refusal
malformed-refused n st e = omega arith

module _ (n : ℕ) (n≤8 : n ≤ 8) (t : Terms) (z : Lent) (h : Stands n t z) where
  abbrev st : Store
  st = store_in t z

  pub called_refused : (call : Call) (r : Refusal) → refused_number r ≡ refusal n st call → (bytes : List ℕ) → bytes ≡ refused_number r ∷ replicate 7 0 → Called n t call z z bytes
  called_refused call r told bytes wrote =
      let refused : refusal n st call ≡ 0 → ⊥ = λ q. refused-some r (told ∙ q) in
      record {
        sized = h.sized;
        clear = h.clear;
        store = refused-store n st call refused;
        answered = wrote ∙ ap (λ (i : ℕ). i ∷ replicate 7 0) told ∙ sym (refused-answer n st call refused);
      }

  -- a call that is not refused
  pub put_makable : (s o v : ℕ) → refusal n st (put s o v) ≡ 0 → Makable z s o
  put_makable s o v q = makable n n≤8 t z (stands_fit n n≤8 t z h) s o (put_doable n st s o v q)

  pub get_makable : (s o : ℕ) → refusal n st (get s o) ≡ 0 → Makable z s o
  get_makable s o q = makable n n≤8 t z (stands_fit n n≤8 t z h) s o (get_doable n st s o q)

  pub delivery_copyable : (w s : ℕ) → refusal n st (deliver w s) ≡ 0 → Copyable z s w
  delivery_copyable w s q = copyable n n≤8 t z (stands_fit n n≤8 t z h) w s q

  module _ (z' : Lent) (bytes : List ℕ) where
    pub called_made : (call : Call) → refusal n st call ≡ 0 → Made call z z' bytes → Called n t call z z' bytes
    called_made call q m = record {
      sized = m.sized;
      clear = m.clear;
      store = m.store n t ∙ done-store n st call q;
      answered = m.answered n t ∙ done_answer_lem n st call q;
    }

    pub called_came : (w s : ℕ) → refusal n st (deliver w s) ≡ 0 → Came z z' s w → bytes ≡ replicate 8 0 → Called n t (deliver w s) z z' bytes
    called_came w s q m zeros = record {
      sized = m.sized;
      clear = m.clear;
      store = m.store t ∙ delivery_effect n st w s ∙ done-store n st (deliver w s) q;
      answered = zeros ∙ delivery_answer n st w s ∙ done_answer_lem n st (deliver w s) q;
    }

    pub called_closes : refusal n st close ≡ 0 → (copies : ℕ) → Closes n t z z' copies → bytes ≡ 0 ∷ 1 ∷ (replicate 2 0 ++ little_bytes 4 copies) → Called n t close z z' bytes
    called_closes q copies m wrote = record {
      sized = m.sized;
      clear = m.clear;
      store = m.store ∙ done-store n st close q;
      answered = wrote ∙ ap (λ (i : ℕ). 0 ∷ 1 ∷ (replicate 2 0 ++ little_bytes 4 i)) m.counted ∙ close_answer_lem n st ∙ done_answer_lem n st close q;
    }
