-- What refuses a call, by its kind, and what a call has that is not refused. Assumes nothing.
use mathlib.Core.Path.{◌≡◌, refl, sym, ap, ◌∙◌}
use mathlib.Core.Bool.{not, ◌&&◌}
use mathlib.Core.List.{◌∷◌}
use Prim.Native.Nat.{ℕ, ◌≤◌, ◌<◌}
use native.Mathlib.Omega.{arith}
use lib.Dec.{ltb}
use lib.ListN.{get_or, replicate}
use borrow.Author.Tests.{ltb-true, eq-eqb, ne_eqb}
use Rattle.rows.specs.Row.{has}
use Rattle.rows.proofs.Tests.{split}
use Rattle.record.specs.Questions.{ask}
use Rattle.record.specs.Terms.{Terms}
use Rattle.store.specs.Store.{Site, Event, Store}
use Rattle.store.specs.Calls.{Call, deliver}
use Rattle.store.specs.Rules.{reached, refusal, effect, done_answer, answer, after_call}
use Rattle.calls.specs.Lent.{Lent, row_in, site_in, event_in, store_in}
use Rattle.calls.proofs.LentLaws.{store-count, site-at, event_at_lem}

-- ---- a call of each kind is asked its own questions

-- a delivery is asked of its site and its event alone, as far as there are such
abbrev asked_of : ℕ → ℕ → ℕ → ℕ → Site → Event → ℕ
asked_of n count w t a e =
    ask (ltb t n) 32 (ask (ltb w count && e.is_put) 33 (ask (not (a.known w)) 35 (ask (reached 8 e.needs a.held) 36 0)))

same_asked : (n count w t : ℕ) (a b : Site) (e f : Event) → (t < n → a ≡ b) → (w < count → e ≡ f) → asked_of n count w t a e ≡ asked_of n count w t b f
same_asked n count w t a b e f h k =
    split (ltb t n)
    (λ p.
    ap (λ (x : Site). asked_of n count w t x e) (h (ltb-true t n p))
    ∙ split (ltb w count) (λ q. ap (λ (y : Event). asked_of n count w t b y) (k (ltb-true w count q))) (λ q. rw q refl))
    (λ p. rw p refl)

module _ (n : ℕ) (t : Terms) (z : Lent) where
  pub delivery_asked : (w s : ℕ) → n ≤ 8 → (r : ℕ)
      → r ≡ ask (ltb s n) 32
      (ask (ltb w z.count && has z.puts w) 33
      (ask (not (has (row_in z.known s) w)) 35
      (ask (reached 8 (λ i. get_or (row_in z.needs w) i 0) (λ i. get_or (row_in z.held s) i 0)) 36 0)))
      → r ≡ refusal n (store_in t z) (deliver w s)
  unfolding refusal
  delivery_asked w s n≤8 r i =
      i
      ∙ same_asked n z.count w s (site_in z s) ((store_in t z).site s) (event_in z w) ((store_in t z).event w)
      (λ l. sym (site-at t z s (omega arith))) (λ l. sym (event_at_lem t z w l))
      ∙ ap (λ (m : ℕ). asked_of n m w s ((store_in t z).site s) ((store_in t z).event w)) (sym (store-count t z))

-- ---- what a call comes to, refused and done

module _ (n : ℕ) (st : Store) (call : Call) where
  pub refused-store : (refusal n st call ≡ 0 → ⊥) → st ≡ after_call n st call
  unfolding after_call
  refused-store d = rw (ne_eqb (refusal n st call) 0 d) refl

  pub refused-answer : (refusal n st call ≡ 0 → ⊥) → answer n st call ≡ refusal n st call ∷ replicate 7 0
  unfolding answer
  refused-answer d = rw (ne_eqb (refusal n st call) 0 d) refl

  pub done-store : refusal n st call ≡ 0 → effect n st call ≡ after_call n st call
  unfolding after_call
  done-store q = rw (eq-eqb (refusal n st call) 0 q) refl

  pub done_answer_lem : refusal n st call ≡ 0 → done_answer n st call ≡ answer n st call
  unfolding answer
  done_answer_lem q = rw (eq-eqb (refusal n st call) 0 q) refl
