-- Every copy is accounted for: after each list of calls, puts × (sites − 1) = done deliveries + copies delivered by closes + copies outstanding.
-- Assumes nothing.
use mathlib.Core.Path.{◌≡◌, refl, ap, ◌∙◌}
use mathlib.Core.Bool.{true, false, cond, and-true, and-false, true≢false}
use mathlib.Core.List.{List, [], ◌∷◌, ◌++◌}
use Prim.Native.Nat.{ℕ, ◌+◌, ◌-◌, ◌*◌, ◌≤◌}
use native.Mathlib.Nat.{add-mul}
use native.Mathlib.Omega.{arith}
use lib.Dec.{eqb}
use borrow.Author.Tests.{eqb-true}
use Rattle.rows.proofs.Tests.{split}
use Rattle.rows.proofs.CountLaws.{sum-none}
use Rattle.record.specs.Encode.{bit}
use Rattle.record.specs.Terms.{value, Terms}
use Rattle.store.specs.Store.{cell_value, Store, fresh}
use Rattle.store.specs.Calls.{Call, put, get, deliver, close, malformed}
use Rattle.store.specs.Rules.{refusal, made, with_copy, after_put, after_get, close_copies, effect, after_call, run, kind_of, done, closed, total, deliveries, copies_by_closes}
use Rattle.store.specs.Outstanding.{outstanding, puts, AddsUp}
use Rattle.store.proofs.Invariant.{StoreInv}
use Rattle.store.proofs.RunKeeps.{put_doable, get_doable, copies-keep, every-run}
use Rattle.store.proofs.OutstandingLaws.{outstanding-none, outstanding_less, outstanding_new, puts_new, copies-outstanding}

-- ---- stores that calls reach

abbrev pub Reached : ℕ → Terms → Store → Type 0
Reached n T st = (cs : List Call) × (run n (fresh T) cs ≡ st)

pub run_more : (n : ℕ) (st : Store) (cs : List Call) (c : Call) → run n st (cs ++ (c ∷ [])) ≡ after_call n (run n st cs) c
unfolding run
run_more n st [] c = refl
run_more n st (d ∷ cs) c = run_more n (after_call n st d) cs c

reached-more : (n : ℕ) (T : Terms) (st : Store) → Reached n T st → (c : Call) → Reached n T (after_call n st c)
reached-more n T st r c = (r.0 ++ (c ∷ []), run_more n (fresh T) r.0 c ∙ ap (λ (x : Store). after_call n x c) r.1)

-- ---- one call

-- neither a delivery nor a close changes an event
copy_puts : (st : Store) (w t : ℕ) → puts (with_copy st w t) ≡ puts st
unfolding puts
copy_puts st w t = refl

close-puts : (n : ℕ) (st : Store) → puts (effect n st close) ≡ puts st
unfolding effect
close-puts n st = copies-keep n (λ (x : Store). puts x ≡ puts st) (λ x w t r h. copy_puts x w t ∙ h) (close_copies n st) st refl

-- a refused call brought none: a close is never refused
refused_none : (n : ℕ) (st : Store) (c : Call) → eqb (refusal n st c) 0 ≡ false → closed n st c ≡ 0
unfolding refusal
refused_none n st (put s o v) e = refl
refused_none n st (get s o) e = refl
refused_none n st (deliver w t) e = refl
refused_none n st close e = absurd (true≢false e)
refused_none n st malformed e = refl

module _ (n : ℕ) (n≤8 : n ≤ 8) {T : Terms} (st : Store) (ok : StoreInv n T st.event st) where
  effect-copies : (c : Call) → refusal n st c ≡ 0
      → outstanding n (effect n st c) + (bit (eqb (kind_of c) 3) + closed n st c) ≡ outstanding n st + bit (eqb (kind_of c) 1) * (n - 1)
  unfolding effect
  effect-copies (put s o v) r =
      let e = made st s true o (value v) in
      omega (arith, outstanding_new n st ok s e (after_put (st.site s) s st.count o v) refl (put_doable n st s o v r).site)
  effect-copies (get s o) r =
      let e = made st s false o (cell_value ((st.site s).cell o)) in
      omega (arith, outstanding_new n st ok s e (after_get (st.site s) st.count) refl (get_doable n st s o r).site)
  effect-copies (deliver w t) r = omega (arith, outstanding_less n n≤8 st ok w t r)
  effect-copies close r = omega (arith, copies-outstanding n n≤8 (close_copies n st) st ok)
  effect-copies malformed r = omega arith

  -- a put brings n - 1 copies onto the lines, and each copy that comes is one less
  step-copies : (c : Call) → outstanding n (after_call n st c) + (done 3 n st c + closed n st c) ≡ outstanding n st + done 1 n st c * (n - 1)
  unfolding after_call
  step-copies c =
      split (eqb (refusal n st c) 0)
      (λ t. rw (t, and-true (eqb (kind_of c) 1), and-true (eqb (kind_of c) 3)) (effect-copies c (eqb-true (refusal n st c) 0 t)))
      (λ t. rw (t, and-false (eqb (kind_of c) 1), and-false (eqb (kind_of c) 3)) (omega (arith, refused_none n st c t)))

  effect-puts : (c : Call) → puts (effect n st c) ≡ puts st + bit (eqb (kind_of c) 1)
  unfolding effect
  effect-puts (put s o v) = puts_new n st ok s (made st s true o (value v)) (after_put (st.site s) s st.count o v) refl
  effect-puts (get s o) =
      puts_new n st ok s (made st s false o (cell_value ((st.site s).cell o))) (after_get (st.site s) st.count) refl
  effect-puts (deliver w t) = omega (arith, copy_puts st w t)
  effect-puts close = omega (arith, close-puts n st)
  effect-puts malformed = omega arith

  step-puts : (c : Call) → puts (after_call n st c) ≡ puts st + done 1 n st c
  unfolding after_call
  step-puts c =
      split (eqb (refusal n st c) 0)
      (λ t. rw (t, and-true) (effect-puts c))
      (λ t. rw (t, and-false) (omega arith))

-- ---- every list

module _ (n : ℕ) (n≤8 : n ≤ 8) (T : Terms) where
  pub holds : (st : Store) → Reached n T st → StoreInv n T st.event st
  holds st r = rw r.1 at (every-run n n≤8 T r.0)

  run-copies : (cs : List Call) (st : Store) → Reached n T st
      → outstanding n (run n st cs) + (deliveries n st cs + copies_by_closes n st cs) ≡ outstanding n st + total (done 1) n st cs * (n - 1)
  unfolding total run
  run-copies [] st r = omega arith
  run-copies (c ∷ cs) st r =
      omega (
        arith,
        step-copies n n≤8 st (holds st r) c,
        run-copies cs (after_call n st c) (reached-more n T st r c),
        add-mul (done 1 n st c) (total (done 1) n (after_call n st c) cs) (n - 1),
      )

  run-puts : (cs : List Call) (st : Store) → Reached n T st → puts (run n st cs) ≡ puts st + total (done 1) n st cs
  unfolding total run
  run-puts [] st r = omega arith
  run-puts (c ∷ cs) st r = omega (arith, step-puts n n≤8 st (holds st r) c, run-puts cs (after_call n st c) (reached-more n T st r c))

  begun : Reached n T (fresh T)
  unfolding run
  begun = ([], refl)

  -- the puts of the store are the done calls of kind 1
  puts-done : (cs : List Call) → puts (run n (fresh T) cs) ≡ total (done 1) n (fresh T) cs
  unfolding puts
  puts-done cs = omega (arith, run-puts cs (fresh T) begun, sum-none (λ e. cond ((fresh T).event e).is_put 1 0))

  pub done-add_up : (cs : List Call) → total (done 1) n (fresh T) cs * (n - 1) ≡ (deliveries n (fresh T) cs + copies_by_closes n (fresh T) cs) + outstanding n (run n (fresh T) cs)
  done-add_up cs = omega (arith, run-copies cs (fresh T) begun, outstanding-none n (fresh T) (λ w t l m. refl))

  -- the theorem, of the store
  pub every_copy : (cs : List Call) → AddsUp n T cs (outstanding n (run n (fresh T) cs))
  every_copy cs = rw (puts-done cs) (done-add_up cs)
