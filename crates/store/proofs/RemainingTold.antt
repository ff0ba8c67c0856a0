-- Which calls remain can be told from a script and its answers alone, and so can the account of their copies. Assumes nothing.
use mathlib.Core.Path.{◌≡◌, refl, sym, ap, ap₂, ◌∙◌}
use mathlib.Core.Logic.{inl, inr}
use mathlib.Core.Bool.{Bool, true, false, cond, ◌&&◌, and-true, and-false}
use mathlib.Core.List.{List, [], ◌∷◌, ◌++◌, append_assoc}
use Prim.Native.Nat.{ℕ, zero, suc, ◌+◌, ◌*◌, ◌/◌, ◌≤◌, ◌<◌}
use native.Mathlib.Omega.{arith}
use native.Mathlib.Nat.{le_refl}
use lib.Dec.{eqb}
use lib.ListN.{length, get_or, length-append, get_or-append}
use lib.Seq.{get_or-append-add}
use borrow.Author.Tests.{eqb-true, eq-eqb, ne_eqb}
use Rattle.rows.specs.Octets.{little}
use Rattle.rows.proofs.Tests.{split, tell, and_left}
use Rattle.record.specs.Layout.{byte}
use Rattle.record.specs.Questions.{ask}
use Rattle.record.specs.Terms.{Terms}
use Rattle.record.specs.Encode.{bit, little_bytes}
use Rattle.record.proofs.NumberBytes.{length-little, little-stands}
use Rattle.store.specs.Store.{Store, fresh}
use Rattle.store.specs.Calls.{Call, put, get, deliver, close, malformed, call_at}
use Rattle.store.specs.Rules.{refusal, close_copies, copied, after_call, run, kind_of, done, closed, total}
use Rattle.store.specs.Outstanding.{outstanding}
use Rattle.store.specs.Close.{Closes}
use Rattle.store.specs.Named.{Item, call, keep, back, is_named, item_at, items_from, items_of, Day, is_kept, after_item, after_items, on_keepings, on_day, item_refusal, item_answer, with_done, day_after, remaining, stores_of, answers_from, item_answers}
use Rattle.store.specs.NamedTold.{told_item, told_with, told_day, told_remaining, overall, is_of_kind, by_close, ToldRemainAddUp}
use Rattle.store.proofs.UpdateLaws.{lt_suc_elim}
use Rattle.store.proofs.RunKeeps.{every-run}
use Rattle.store.proofs.CloseLaws.{copied-outstanding}
use Rattle.store.proofs.EveryClose.{every-close}
use Rattle.store.proofs.EveryCopy.{done-add_up}
use Rattle.store.proofs.CopiesTold.{kind-read, answer-number, close-only}
use Rattle.store.proofs.NamedLaws.{back_none, on_kept, on_call, on_keep, on_return, LinkedDay, linked_now, linked_call, linked_keep, linked_again}
use Rattle.store.proofs.Remaining.{stores_after, stores_remaining, day_more, item_answers-more, item_answer-length, items_more}

-- ---- one number more

-- the calls with these numbers
unfoldable pub calls_at : List ℕ → List ℕ → List Call
calls_at s [] = []
calls_at s (k ∷ ks) = call_at s (8 * k) ∷ calls_at s ks

calls-more : (s ks : List ℕ) (k : ℕ) → calls_at s (ks ++ (k ∷ [])) ≡ calls_at s ks ++ (call_at s (8 * k) ∷ [])
unfolding calls_at
calls-more s [] k = refl
calls-more s (j ∷ ks) k = ap (λ (l : List Call). call_at s (8 * j) ∷ l) (calls-more s ks k)

overall-more : (f : ℕ → ℕ) (ks : List ℕ) (k : ℕ) → overall f (ks ++ (k ∷ [])) ≡ overall f ks + f k
unfolding overall
overall-more f [] k = omega arith
overall-more f (j ∷ ks) k = omega (arith, overall-more f ks k)

total-more : (f : ℕ → Store → Call → ℕ) (n : ℕ) (st : Store) (cs : List Call) (c : Call) → total f n st (cs ++ (c ∷ [])) ≡ total f n st cs + f n (run n st cs) c
unfolding total run
total-more f n st [] c = omega arith
total-more f n st (d ∷ cs) c = omega (arith, total-more f n (after_call n st d) cs c)

-- these calls have kinds below 5
abbrev pub Plain : List ℕ → List ℕ → Type 0
Plain s [] = Unit {0}
Plain s (k ∷ ks) = (byte s (8 * k) < 5) × Plain s ks

plain_more : (s ks : List ℕ) (k : ℕ) → byte s (8 * k) < 5 → Plain s ks → Plain s (ks ++ (k ∷ []))
plain_more s [] k l h = (l, tt)
plain_more s (j ∷ ks) k l h = (h.0, plain_more s ks k l h.1)

-- ---- what bytes say of an item

pub item_elim : (P : Item Call → Type 0) (s : List ℕ) (at : ℕ) → (byte s at ≡ 5 → P (keep (byte s (at + 2)))) → (byte s at ≡ 6 → P (back (byte s (at + 2))))
    → P (call (call_at s at)) → P (item_at s at)
unfolding item_at
item_elim P s at kept returned called = go (eqb (byte s at) 5 && is_named s at) (eqb (byte s at) 6 && is_named s at) refl refl
  where
    go : (t u : Bool) → eqb (byte s at) 5 && is_named s at ≡ t → eqb (byte s at) 6 && is_named s at ≡ u
        → P (cond t (keep (byte s (at + 2))) (cond u (back (byte s (at + 2))) (call (call_at s at))))
    go true u e f = kept (eqb-true (byte s at) 5 (and_left (eqb (byte s at) 5) (is_named s at) e))
    go false true e f = returned (eqb-true (byte s at) 6 (and_left (eqb (byte s at) 6) (is_named s at) f))
    go false false e f = called

kind-few : (c : Call) → kind_of c ≤ 4
kind-few (put s o v) = omega arith
kind-few (get s o) = omega arith
kind-few (deliver w t) = omega arith
kind-few close = omega arith
kind-few malformed = omega arith

-- a done call's kind is its first byte
done-kind-read : (n : ℕ) (st : Store) (s : List ℕ) (at : ℕ) → refusal n st (call_at s at) ≡ 0 → kind_of (call_at s at) ≡ byte s at
unfolding refusal
done-kind-read n st s at r = elim (kind-read s at) [ inl m ↦ absurd (omega (arith, ap (refusal n st) (sym m) ∙ r)) | inr k ↦ k ]

-- so a call with another is refused
pub other-refused : (n : ℕ) (st : Store) (s : List ℕ) (at : ℕ) → 5 ≤ byte s at → eqb (refusal n st (call_at s at)) 0 ≡ false
other-refused n st s at l =
    split (eqb (refusal n st (call_at s at)) 0)
    (λ t. absurd (omega (arith, kind-few (call_at s at), done-kind-read n st s at (eqb-true (refusal n st (call_at s at)) 0 t))))
    (λ t. t)

-- ---- what is told of item k

told-call : (s a : List ℕ) (k : ℕ) → (5 ≤ byte s (8 * k) → eqb (byte a (8 * k)) 0 ≡ false) → told_item s a k ≡ call k
unfolding told_item
told-call s a k h =
    split (eqb (byte a (8 * k)) 0)
    (λ t.
    let other : (kind : ℕ) → 5 ≤ kind → eqb (byte s (8 * k)) kind ≡ false =
    λ kind l. ne_eqb (byte s (8 * k)) kind (λ q. tell (eqb (byte a (8 * k)) 0) t (h (omega arith))) in
    rw (other 5 (omega arith), other 6 (omega arith)) refl)
    (λ t. rw (t, and-false (eqb (byte s (8 * k)) 5), and-false (eqb (byte s (8 * k)) 6)) refl)

-- an answer's first byte is the number that refused its item, or 0
item_number : (n : ℕ) (d : Day Store) (i : Item Call) → byte (item_answer n d i) 0 ≡ item_refusal n d i
unfolding item_answer item_refusal
item_number n d (call c) = answer-number n d.now c
item_number n d (keep x) = refl
item_number n d (back x) = refl

-- ---- the answers of a script

answers_up : (m n : ℕ) (T : Terms) (s : List ℕ)
    → item_answers n T (items_from (suc m) s 0) ≡ item_answers n T (items_from m s 0) ++ item_answer n (stores_after n T (items_from m s 0)) (item_at s (8 * m))
answers_up m n T s = ap (item_answers n T) (items_more m s) ∙ item_answers-more n T (items_from m s 0) (item_at s (8 * m))

pub answers-long : (m n : ℕ) (T : Terms) (s : List ℕ) → length (item_answers n T (items_from m s 0)) ≡ 8 * m
unfolding items_from answers_from
answers-long zero n T s = refl
answers-long (suc m) n T s =
    let d : Day Store = stores_after n T (items_from m s 0) in
    ap length (answers_up m n T s)
    ∙ length-append (item_answers n T (items_from m s 0)) (item_answer n d (item_at s (8 * m)))
    ∙ omega (arith, item_answer-length n d (item_at s (8 * m)), answers-long m n T s)

-- byte j of the answer of item k, whatever stands behind the answers
pub item_answer-at : (m n : ℕ) (T : Terms) (s rest : List ℕ) (k : ℕ) → k < m → (j : ℕ) → j < 8
    → get_or (item_answers n T (items_from m s 0) ++ rest) (8 * k + j) 0 ≡ get_or (item_answer n (stores_after n T (items_from k s 0)) (item_at s (8 * k))) j 0
item_answer-at zero n T s rest k l j h = absurd (omega arith)
item_answer-at (suc m) n T s rest k l j h =
    let before : List ℕ = item_answers n T (items_from m s 0) in
    let a : List ℕ = item_answer n (stores_after n T (items_from m s 0)) (item_at s (8 * m)) in
    ap (λ (x : List ℕ). get_or (x ++ rest) (8 * k + j) 0) (answers_up m n T s)
    ∙ ap (λ (x : List ℕ). get_or x (8 * k + j) 0) (append_assoc before a rest)
    ∙ lt_suc_elim k m l
    (λ q. item_answer-at m n T s (a ++ rest) k q j h)
    (λ q. rw q
    (ap (λ (i : ℕ). get_or (before ++ (a ++ rest)) (i + j) 0) (sym (answers-long m n T s))
    ∙ get_or-append-add before (a ++ rest) j 0
    ∙ get_or-append a rest 0 j (omega (arith, item_answer-length n (stores_after n T (items_from m s 0)) (item_at s (8 * m))))))

module _ (n : ℕ) (n≤8 : n ≤ 8) (T : Terms) (s rest : List ℕ) where
  -- the answers, whatever stands behind them
  abbrev told : List ℕ
  told = item_answers n T (items_of s) ++ rest

  -- the calls that remain when item k is asked, and the store that it finds
  abbrev left : ℕ → Day (List Call)
  left k = day_after n T (items_from k s 0)

  abbrev found : ℕ → Store
  found k = run n (fresh T) (left k).now

  told_at : (k : ℕ) → k < length s / 8 → (j : ℕ) → j < 8 → get_or told (8 * k + j) 0 ≡ get_or (item_answer n (stores_of n T (left k)) (item_at s (8 * k))) j 0
  unfolding items_of
  told_at k l j h =
      item_answer-at (length s / 8) n T s rest k l j h
      ∙ ap (λ (d : Day Store). get_or (item_answer n d (item_at s (8 * k))) j 0) (stores_remaining n T (items_from k s 0))

  number-told : (k : ℕ) → k < length s / 8 → byte told (8 * k) ≡ item_refusal n (stores_of n T (left k)) (item_at s (8 * k))
  number-told k l =
      let here : 8 * k ≡ 8 * k + 0 = omega arith in
      ap (byte told) here ∙ told_at k l 0 (omega arith) ∙ item_number n (stores_of n T (left k)) (item_at s (8 * k))

  -- a close's answer has the copies that it delivered
  close-told : (k : ℕ) → k < length s / 8 → item_at s (8 * k) ≡ call close → little 4 told (8 * k + 4) ≡ copied n (found k) (close_copies n (found k))
  unfolding item_answer
  close-told k l e =
      let c : Closes n (found k) = every-close n n≤8 T (left k).now in
      let x : ℕ = outstanding n (found k) in
      little-stands 4 x told (8 * k + 4) (omega (arith, c.few))
      (λ j h.
      let here : 8 * k + 4 + j ≡ 8 * k + (4 + j) = omega arith in
      ap (byte told) here
      ∙ told_at k l (4 + j) (omega (arith, length-little 4 x))
      ∙ ap (λ (i : Item Call). get_or (item_answer n (stores_of n T (left k)) i) (4 + j) 0) e
      ∙ ap (λ (bytes : List ℕ). get_or bytes (4 + j) 0) c.answered
      ∙ get_or-append-add (0 ∷ 1 ∷ 0 ∷ 0 ∷ []) (little_bytes 4 x) j 0)
      ∙ sym (copied-outstanding n n≤8 (found k) (every-run n n≤8 T (left k).now))

  -- ---- the account, by kinds and by the values in answers of closes

  record Counted (ks : List ℕ) : Type 0 where
    plain : Plain s ks
    kinds : (kind : ℕ) → total (done kind) n (fresh T) (calls_at s ks) ≡ overall (is_of_kind kind s) ks
    copies : total closed n (fresh T) (calls_at s ks) ≡ overall (by_close s told) ks

  module _ (k : ℕ) (l : k < length s / 8) (i : item_at s (8 * k) ≡ call (call_at s (8 * k))) (r : refusal n (found k) (call_at s (8 * k)) ≡ 0) where
    kind-one : (kind : ℕ) → done kind n (found k) (call_at s (8 * k)) ≡ is_of_kind kind s k
    kind-one kind =
        ap₂ (λ (x y : ℕ). bit (eqb x kind && eqb y 0)) (done-kind-read n (found k) s (8 * k) r) r
        ∙ ap bit (and-true (eqb (byte s (8 * k)) kind))

    copies-one : closed n (found k) (call_at s (8 * k)) ≡ by_close s told k
    copies-one =
        close-only (call_at s (8 * k)) (copied n (found k) (close_copies n (found k))) (little 4 told (8 * k + 4)) (λ e. sym (close-told k l (i ∙ ap call e)))
        ∙ ap (λ (b : ℕ). cond (eqb b 4) (little 4 told (8 * k + 4)) 0) (done-kind-read n (found k) s (8 * k) r)

    counted-more : (ks : List ℕ) → calls_at s ks ≡ (left k).now → Counted ks → Counted (ks ++ (k ∷ []))
    counted-more ks e h = record {
      plain = plain_more s ks k (omega (arith, kind-few (call_at s (8 * k)), done-kind-read n (found k) s (8 * k) r)) h.plain;
      kinds = λ kind. one (done kind) (is_of_kind kind s) (kind-one kind) (h.kinds kind);
      copies = one closed (by_close s told) copies-one h.copies;
    }
      where
        one : (f : ℕ → Store → Call → ℕ) (g : ℕ → ℕ) → f n (found k) (call_at s (8 * k)) ≡ g k → total f n (fresh T) (calls_at s ks) ≡ overall g ks
            → total f n (fresh T) (calls_at s (ks ++ (k ∷ []))) ≡ overall g (ks ++ (k ∷ []))
        one f g same sofar =
            ap (total f n (fresh T)) (calls-more s ks k)
            ∙ total-more f n (fresh T) (calls_at s ks) (call_at s (8 * k))
            ∙ ap₂ ◌+◌ sofar (ap (λ (cs : List Call). f n (run n (fresh T) cs) (call_at s (8 * k))) e ∙ same)
            ∙ sym (overall-more g ks k)

  -- ---- item by item

  abbrev Any : List ℕ → List ℕ → Type 0
  Any a b = Unit {0}

  module _ (k : ℕ) (l : k < length s / 8) (t : Day (List ℕ)) (h : on_day (calls_at s) t ≡ left k) (g : LinkedDay Counted Any t) where
    -- what is told as `ti` is what the item i does
    abbrev Next : Item ℕ → Item Call → Type 0
    Next ti i = (on_day (calls_at s) (after_item (told_with told) t ti) ≡ after_item (with_done n T) (left k) i) × LinkedDay Counted Any (after_item (told_with told) t ti)

    calls-now : calls_at s t.now ≡ (left k).now
    calls-now = ap (λ (d : Day (List Call)). d.now) h

    next-keep : (x : ℕ) → Next (keep x) (keep x)
    next-keep x = (
      sym (on_keep (calls_at s) (told_with told) (with_done n T) t x) ∙ ap (λ (d : Day (List Call)). after_item (with_done n T) d (keep x)) h,
      linked_keep Counted Any (λ a. tt) (λ a b c p q. tt) (told_with told) t g x,
    )

    next-back : (x : ℕ) → Next (back x) (back x)
    next-back x = (
      sym (on_return (calls_at s) (told_with told) (with_done n T) t x) ∙ ap (λ (d : Day (List Call)). after_item (with_done n T) d (back x)) h,
      linked_again Counted Any (λ a. tt) (λ a b c p q. tt) (told_with told) t g x,
    )

    -- a return that is refused
    next-none : (x : ℕ) → eqb (byte told (8 * k)) 0 ≡ false → is_kept x (left k).keepings ≡ false → Next (call k) (back x)
    unfolding after_item told_with
    next-none x e f = rw (e, back_none x (left k) (left k).keepings f) (h, g)

    -- a call, done or refused
    module _ (i : item_at s (8 * k) ≡ call (call_at s (8 * k))) (a : byte told (8 * k) ≡ refusal n (found k) (call_at s (8 * k))) where
      with-told : with_done n T (calls_at s t.now) (call_at s (8 * k)) ≡ calls_at s (told_with told t.now k)
      unfolding with_done told_with
      with-told =
          ap (λ (r : ℕ). cond (eqb r 0) (calls_at s t.now ++ (call_at s (8 * k) ∷ [])) (calls_at s t.now))
          (ap (λ (cs : List Call). refusal n (run n (fresh T) cs) (call_at s (8 * k))) calls-now ∙ sym a)
          ∙ go (eqb (byte told (8 * k)) 0)
        where
          go : (b : Bool) → cond b (calls_at s t.now ++ (call_at s (8 * k) ∷ [])) (calls_at s t.now) ≡ calls_at s (cond b (t.now ++ (k ∷ [])) t.now)
          go true = sym (calls-more s t.now k)
          go false = refl

      counts : Counted t.now → Counted (told_with told t.now k)
      unfolding told_with
      counts p = go (eqb (byte told (8 * k)) 0) refl
        where
          go : (b : Bool) → eqb (byte told (8 * k)) 0 ≡ b → Counted (cond b (t.now ++ (k ∷ [])) t.now)
          go true e = counted-more k l i (sym a ∙ eqb-true (byte told (8 * k)) 0 e) t.now calls-now p
          go false e = p

      next-call : Next (call k) (call (call_at s (8 * k)))
      next-call = (
        sym (on_call (calls_at s) (told_with told) (with_done n T) t k (call_at s (8 * k)) with-told)
            ∙ ap (λ (d : Day (List Call)). after_item (with_done n T) d (call (call_at s (8 * k)))) h,
        linked_call Counted Any (λ a. tt) (λ a b c p q. tt) (told_with told) t g k counts tt,
      )

    -- what is told of item k, by its kind and answer
    told-keep : byte s (8 * k) ≡ 5 → byte told (8 * k) ≡ 0 → told_item s told k ≡ keep (byte s (8 * k + 2))
    unfolding told_item
    told-keep q a = rw (eq-eqb (byte s (8 * k)) 5 q, eq-eqb (byte told (8 * k)) 0 a) refl

    told_back : byte s (8 * k) ≡ 6 → byte told (8 * k) ≡ 0 → told_item s told k ≡ back (byte s (8 * k + 2))
    unfolding told_item
    told_back q a = rw (ne_eqb (byte s (8 * k)) 5 (λ z. omega arith), eq-eqb (byte s (8 * k)) 6 q, eq-eqb (byte told (8 * k)) 0 a) refl

    next : Next (told_item s told k) (item_at s (8 * k))
    unfolding item_refusal
    next =
        item_elim (λ (i : Item Call). item_at s (8 * k) ≡ i → byte told (8 * k) ≡ item_refusal n (stores_of n T (left k)) i → Next (told_item s told k) i) s (8 * k)
        (λ q e a. rw (told-keep q a) (next-keep (byte s (8 * k + 2))))
        (λ q e a. returned q (a ∙ ap (λ (b : Bool). ask b 49 0) (on_kept (run n (fresh T)) (byte s (8 * k + 2)) (left k).keepings)))
        (λ e a. rw (told-call s told k (λ m. rw a (other-refused n (found k) s (8 * k) m))) (next-call e a))
        refl (number-told k l)
      where
        returned : byte s (8 * k) ≡ 6 → byte told (8 * k) ≡ ask (is_kept (byte s (8 * k + 2)) (left k).keepings) 49 0
            → Next (told_item s told k) (back (byte s (8 * k + 2)))
        returned q a =
            split (is_kept (byte s (8 * k + 2)) (left k).keepings)
            (λ t. rw (told_back q (a ∙ (rw t refl))) (next-back (byte s (8 * k + 2))))
            (λ t. let no : eqb (byte told (8 * k)) 0 ≡ false = rw (a, t) refl in rw (told-call s told k (λ m. no)) (next-none (byte s (8 * k + 2)) no t))

  -- ---- the whole script

  left-more : (k : ℕ) → left (suc k) ≡ after_item (with_done n T) (left k) (item_at s (8 * k))
  left-more k = ap (day_after n T) (items_more k s) ∙ day_more n T (items_from k s 0) (item_at s (8 * k))

  told-so : (k : ℕ) → k ≤ length s / 8 → (on_day (calls_at s) (told_day k s told) ≡ left k) × LinkedDay Counted Any (told_day k s told)
  unfolding told_day day_after items_from after_items on_keepings calls_at total overall
  told-so zero l = (refl, record { plain = tt; kinds = λ kind. refl; copies = refl })
  told-so (suc k) l =
      let h = told-so k (omega arith) in
      let x = next k l (told_day k s told) h.0 h.1 in
      (x.0 ∙ sym (left-more k), x.1)

  -- the calls with the numbers told are those that remain
  pub remaining-told : calls_at s (told_remaining s told) ≡ remaining n T (items_of s)
  unfolding items_of
  remaining-told = ap (λ (d : Day (List Call)). d.now) (told-so (length s / 8) (le_refl _)).0

  told-counted : Counted (told_remaining s told)
  told-counted =
      let t : Day (List ℕ) = told_day (length s / 8) s told in
      linked_now Counted Any (λ a. tt) (λ a b c p q. tt) t.now t.keepings (told-so (length s / 8) (le_refl _)).1

  pub remaining_plain : Plain s (told_remaining s told)
  remaining_plain = told-counted.plain

  -- and so is the account of their copies
  pub remaining-told_adds_up : ToldRemainAddUp n s told (outstanding n (run n (fresh T) (remaining n T (items_of s))))
  remaining-told_adds_up =
      let kinds : (kind : ℕ) → overall (is_of_kind kind s) (told_remaining s told) ≡ total (done kind) n (fresh T) (remaining n T (items_of s)) =
      λ kind. sym (told-counted.kinds kind) ∙ ap (total (done kind) n (fresh T)) remaining-told in
      rw (kinds 1, kinds 3, ← told-counted.copies, remaining-told) (done-add_up n n≤8 T (remaining n T (items_of s)))
