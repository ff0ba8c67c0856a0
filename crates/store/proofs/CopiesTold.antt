-- The account of every copy, by the bytes of a script and of its answers; and when none is outstanding. Assumes nothing.
use mathlib.Core.Path.{◌≡◌, refl, sym, ap, ◌∙◌}
use mathlib.Core.Logic.{◌⊎◌, inl, inr}
use mathlib.Core.Bool.{Bool, true, false, cond, ◌&&◌, and-false}
use mathlib.Core.List.{List, [], ◌∷◌, ◌++◌}
use Prim.Native.Nat.{ℕ, ◌+◌, ◌-◌, ◌*◌, ◌/◌, ◌≤◌, ◌<◌}
use native.Mathlib.Nat.{mul-zero}
use native.Mathlib.Omega.{arith}
use lib.Dec.{eqb}
use lib.ListN.{length, get_or}
use lib.Seq.{get_or-append-add}
use borrow.Author.Tests.{eqb-true}
use Rattle.rows.specs.Octets.{little}
use Rattle.rows.proofs.Tests.{split, and_left}
use Rattle.rows.proofs.CountLaws.{sum_same}
use Rattle.record.specs.Layout.{byte, most_events}
use Rattle.record.specs.Terms.{Terms}
use Rattle.record.specs.Encode.{bit, little_bytes}
use Rattle.record.proofs.NumberBytes.{length-little, little-stands}
use Rattle.store.specs.Store.{Store, fresh}
use Rattle.store.specs.Calls.{Call, put, get, deliver, close, malformed, call_at, calls_from, calls_of}
use Rattle.store.specs.Rules.{refusal, close_copies, copied, after_call, run, kind_of, done, closed, total, done_answer, answer, answers}
use Rattle.store.specs.Outstanding.{outstanding, puts, told_done, told_copies, ToldAddsUp}
use Rattle.store.specs.Close.{AllAgree, Closes}
use Rattle.store.specs.Rehearsal.{InNumbers, terms_of, store_after, outstanding_after}
use Rattle.store.specs.Demand.{Rehearses}
use Rattle.store.proofs.OutstandingLaws.{outstanding-none}
use Rattle.store.proofs.CloseLaws.{copied-outstanding}
use Rattle.store.proofs.EveryClose.{every-close}
use Rattle.store.proofs.WholeList.{store_up_to, store_up_to_lem, answers-whole, total-whole, answer_at}
use Rattle.store.proofs.EveryCopy.{Reached, run_more, holds, done-add_up}

-- a call's kind is its first byte, unless it is malformed
abbrev pub Kind : Call → ℕ → Type 0
Kind c b = (c ≡ malformed) ⊎ (kind_of c ≡ b)

by_whole : (t : Bool) (c : Call) (b : ℕ) → Kind c b → Kind (cond t c malformed) b
by_whole true c b h = h
by_whole false c b h = inl refl

by_kind : (t : Bool) (c d : Call) (b : ℕ) → (t ≡ true → kind_of c ≡ b) → Kind d b → Kind (cond t c d) b
by_kind true c d b h k = inr (h refl)
by_kind false c d b h k = k

pub kind-read : (s : List ℕ) (at : ℕ) → Kind (call_at s at) (byte s at)
unfolding call_at
kind-read s at =
    let b : ℕ = byte s at in
    by_whole (eqb (byte s (at + 3)) 0) _ b
    (by_kind (eqb b 1) _ _ b (λ t. sym (eqb-true b 1 t))
    (by_kind (eqb b 2 && _) _ _ b (λ t. sym (eqb-true b 2 (and_left (eqb b 2) _ t)))
    (by_kind (eqb b 3 && _) _ _ b (λ t. sym (eqb-true b 3 (and_left (eqb b 3) _ t)))
    (by_kind (eqb b 4 && _) close malformed b (λ t. sym (eqb-true b 4 (and_left (eqb b 4) _ t))) (inl refl)))))

-- of a done call the first byte is the kind: what is malformed is refused
done-read : (kind n : ℕ) (st : Store) (s : List ℕ) (at : ℕ)
    → eqb (byte s at) kind && eqb (refusal n st (call_at s at)) 0 ≡ eqb (kind_of (call_at s at)) kind && eqb (refusal n st (call_at s at)) 0
unfolding refusal
done-read kind n st s at =
    elim (kind-read s at) [
      | inl m ↦ rw m (and-false (eqb (byte s at) kind) ∙ sym (and-false (eqb 0 kind)))
      | inr k ↦ ap (λ (b : ℕ). eqb b kind && eqb (refusal n st (call_at s at)) 0) (sym k)
    ]

-- an answer's first byte is the number that refused its call, or 0
pub answer-number : (n : ℕ) (st : Store) (c : Call) → byte (answer n st c) 0 ≡ refusal n st c
unfolding answer done_answer
answer-number n st c =
    split (eqb (refusal n st c) 0)
    (λ t. rw t (first c ∙ sym (eqb-true (refusal n st c) 0 t)))
    (λ t. rw t refl)
  where
    first : (d : Call) → byte (done_answer n st d) 0 ≡ 0
    first (put s o v) = refl
    first (get s o) = refl
    first (deliver w t) = refl
    first close = refl
    first malformed = refl

one_bit : (t : Bool) → cond t 1 0 ≡ bit t
one_bit true = refl
one_bit false = refl

pub close-only : (c : Call) (x y : ℕ) → (c ≡ close → x ≡ y) → cond (eqb (kind_of c) 4) x 0 ≡ cond (eqb (kind_of c) 4) y 0
close-only (put s o v) x y h = refl
close-only (get s o) x y h = refl
close-only (deliver w t) x y h = refl
close-only close x y h = h refl
close-only malformed x y h = refl

-- a malformed call is answered by 31 and zeros
malformed-answer : (n : ℕ) (st : Store) → answer n st malformed ≡ 31 ∷ 0 ∷ 0 ∷ 0 ∷ little_bytes 4 0
unfolding answer refusal little_bytes
malformed-answer n st = refl

module _ (n : ℕ) (n≤8 : n ≤ 8) (T : Terms) (s rest : List ℕ) where
  -- the answers, whatever stands behind them
  abbrev told : List ℕ
  told = answers n (fresh T) (calls_of s) ++ rest

  -- the store that call k finds, and the call
  abbrev before : ℕ → Store
  before k = store_up_to k n T s

  abbrev call : ℕ → Call
  call k = call_at s (8 * k)

  told_at : (k : ℕ) → k < length s / 8 → (j : ℕ) → j < 8 → get_or told (8 * k + j) 0 ≡ get_or (answer n (before k) (call k)) j 0
  told_at k l j h =
      ap (λ (a : List ℕ). get_or (a ++ rest) (8 * k + j) 0) (sym (answers-whole n T s)) ∙ answer_at (length s / 8) n T s rest k l j h

  done-told : (kind k : ℕ) → k < length s / 8 → cond (eqb (byte s (8 * k)) kind && eqb (byte told (8 * k)) 0) 1 0 ≡ done kind n (before k) (call k)
  done-told kind k l =
      let here : 8 * k ≡ 8 * k + 0 = omega arith in
      let number : byte told (8 * k) ≡ refusal n (before k) (call k) =
      ap (byte told) here ∙ told_at k l 0 (omega arith) ∙ answer-number n (before k) (call k) in
      ap (λ (r : ℕ). cond {A = ℕ} (eqb (byte s (8 * k)) kind && eqb r 0) 1 0) number
      ∙ one_bit (eqb (byte s (8 * k)) kind && eqb (refusal n (before k) (call k)) 0)
      ∙ ap bit (done-read kind n (before k) s (8 * k))

  -- bytes 4 to 7 of an answer
  value-told : (k : ℕ) → k < length s / 8 → (a b c d x : ℕ) → x ≤ 8 * most_events
      → answer n (before k) (call k) ≡ a ∷ b ∷ c ∷ d ∷ little_bytes 4 x → little 4 told (8 * k + 4) ≡ x
  value-told k l a b c d x few e =
      little-stands 4 x told (8 * k + 4) (omega arith)
      (λ j h.
      let here : 8 * k + 4 + j ≡ 8 * k + (4 + j) = omega arith in
      ap (byte told) here
      ∙ told_at k l (4 + j) (omega (arith, length-little 4 x))
      ∙ ap (λ (bytes : List ℕ). get_or bytes (4 + j) 0) e
      ∙ get_or-append-add (a ∷ b ∷ c ∷ d ∷ []) (little_bytes 4 x) j 0)

  close-told : (k : ℕ) → k < length s / 8 → call k ≡ close → little 4 told (8 * k + 4) ≡ copied n (before k) (close_copies n (before k))
  close-told k l e =
      let r : Reached n T (before k) = (calls_from k s 0, sym (store_up_to_lem k n T s)) in
      let c : Closes n (before k) = rw r.1 at (every-close n n≤8 T r.0) in
      value-told k l 0 1 0 0 (outstanding n (before k)) c.few (ap (answer n (before k)) e ∙ c.answered)
      ∙ sym (copied-outstanding n n≤8 (before k) (holds n n≤8 T (before k) r))

  copies-told : (k : ℕ) → k < length s / 8 → cond (eqb (byte s (8 * k)) 4) (little 4 told (8 * k + 4)) 0 ≡ closed n (before k) (call k)
  copies-told k l =
      elim (kind-read s (8 * k)) [
        | inl m ↦ split (eqb (byte s (8 * k)) 4)
            (λ t. rw t (value-told k l 31 0 0 0 0 (omega arith) (ap (answer n (before k)) m ∙ malformed-answer n (before k)) ∙ rw m refl))
            (λ t. rw (t, m) refl)
        | inr q ↦ ap (λ (b : ℕ). cond (eqb b 4) (little 4 told (8 * k + 4)) 0) (sym q)
            ∙ close-only (call k) (little 4 told (8 * k + 4)) (copied n (before k) (close_copies n (before k))) (close-told k l)
      ]

  -- the theorem, of the answers
  pub every_copy_told : ToldAddsUp n s told (outstanding n (run n (fresh T) (calls_of s)))
  unfolding told_done told_copies
  every_copy_told =
      let kinds : (kind : ℕ) → told_done kind s told ≡ total (done kind) n (fresh T) (calls_of s) =
      λ kind. sum_same (length s / 8) _ _ (done-told kind) ∙ total-whole (done kind) n T s in
      rw (kinds 1, kinds 3, sum_same (length s / 8) _ _ copies-told, total-whole closed n T s) (done-add_up n n≤8 T (calls_of s))

-- ---- what follows, of the count that a rehearsal tells

module _ (n : ℕ) (openings script rec ans rec' ans' : List ℕ) (r : InNumbers) (h : Rehearses n openings script rec ans rec' ans' r) where
  -- where it was refused, none is told
  none_or : (r.number ≡ 0 → r.outstanding ≡ 0) → r.outstanding ≡ 0
  unfolding outstanding_after
  none_or done = split (eqb r.number 0) (λ t. done (eqb-true r.number 0 t)) (λ t. h.copies ∙ rw (← h.number, t) refl)

  -- with one site nothing is outstanding
  pub one-site-none : n ≡ 1 → r.outstanding ≡ 0
  one-site-none one = none_or (λ z.
      let none : n - 1 ≡ 0 = omega arith in
      let k : ℕ = puts (run n (fresh (terms_of openings)) (calls_of script)) in
      omega (arith, h.adds_up z, ap (λ (m : ℕ). k * m) none, mul-zero k))

  -- nor after a script whose last call is a close
  pub none-after-close : (before : List Call) → calls_of script ≡ before ++ (close ∷ []) → r.outstanding ≡ 0
  unfolding outstanding_after store_after
  none-after-close before e = none_or (λ z.
      let st₀ : Store = fresh (terms_of openings) in
      let st : Store = run n st₀ before in
      let closed : AllAgree n (after_call n st close) = (h.closes z before [] e).leaves in
      h.copies
      ∙ rw (← h.number, z, e, run_more n st₀ before close)
      (outstanding-none n (after_call n st close) closed.none_lacking))
