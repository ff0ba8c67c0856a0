-- The calls that remain: the stores that items find, one after the other, are those of the calls that remain; and each of these is done when they
-- are made alone. Assumes nothing.
use mathlib.Core.Path.{◌≡◌, refl, sym, ap, ap₂, ◌∙◌, subst}
use mathlib.Core.Bool.{false, and-true}
use mathlib.Core.List.{List, [], ◌∷◌, ◌++◌, append_assoc, append-nil}
use Prim.Native.Nat.{ℕ, zero, suc, ◌+◌, ◌*◌, ◌≤◌}
use native.Mathlib.Omega.{arith}
use lib.Dec.{eqb}
use lib.ListN.{length}
use borrow.Author.Tests.{eqb-true, eq-eqb}
use Rattle.rows.proofs.Tests.{split}
use Rattle.record.specs.Encode.{bit}
use Rattle.record.specs.Terms.{Terms}
use Rattle.store.specs.Store.{Store, fresh}
use Rattle.store.specs.Calls.{Call}
use Rattle.store.specs.Rules.{refusal, after_call, run, kind_of, done, total}
use Rattle.store.specs.Named.{Item, call, keep, back, Day, begun, item_at, items_from, after_item, after_items, on_keepings, item_answer, with_done, day_after, remaining, stores_of, answers_from, item_answers}
use Rattle.store.proofs.Invariant.{StoreInv}
use Rattle.store.proofs.RunKeeps.{every-run}
use Rattle.store.proofs.Sizes.{Limits, every_limits, Sizes, every_sizes}
use Rattle.store.proofs.EveryCopy.{run_more}
use Rattle.store.proofs.WholeList.{answer-length}
use Rattle.store.proofs.NamedLaws.{after_more, on_items, OfCalls, linked_now, linked_return, linked_items}

-- ---- the stores, item by item

-- the store now and those kept, as each item leaves them
abbrev pub stores_after : ℕ → Terms → List (Item Call) → Day Store
stores_after n T is = after_items (after_call n) (begun (fresh T)) is

-- a call made now is one more, or refused
with_elim : (n : ℕ) (T : Terms) (cs : List Call) (c : Call) (P : List Call → Type 0) → (refusal n (run n (fresh T) cs) c ≡ 0 → P (cs ++ (c ∷ [])))
    → (eqb (refusal n (run n (fresh T) cs) c) 0 ≡ false → P cs) → P (with_done n T cs c)
unfolding with_done
with_elim n T cs c P more same =
    split (eqb (refusal n (run n (fresh T) cs) c) 0) (λ t. rw t (more (eqb-true (refusal n (run n (fresh T) cs) c) 0 t))) (λ t. rw t (same t))

pub run-done : (n : ℕ) (T : Terms) (cs : List Call) (c : Call) → after_call n (run n (fresh T) cs) c ≡ run n (fresh T) (with_done n T cs c)
unfolding after_call
run-done n T cs c =
    with_elim n T cs c (λ (l : List Call). after_call n (run n (fresh T) cs) c ≡ run n (fresh T) l) (λ r. sym (run_more n (fresh T) cs c)) (λ e. rw e refl)

-- the store now is that of the calls that remain, and each one kept that of its keeping's
pub stores_remaining : (n : ℕ) (T : Terms) (is : List (Item Call)) → stores_after n T is ≡ stores_of n T (day_after n T is)
unfolding day_after run on_keepings
stores_remaining n T is = on_items (run n (fresh T)) (with_done n T) (after_call n) (run-done n T) (begun []) is

pub store-remaining : (n : ℕ) (T : Terms) (is : List (Item Call)) → (stores_after n T is).now ≡ run n (fresh T) (remaining n T is)
store-remaining n T is = ap (λ (d : Day Store). d.now) (stores_remaining n T is)

pub stores_more : (n : ℕ) (T : Terms) (is : List (Item Call)) (i : Item Call) → stores_after n T (is ++ (i ∷ [])) ≡ after_item (after_call n) (stores_after n T is) i
stores_more n T is i = after_more (after_call n) (begun (fresh T)) is i

pub day_more : (n : ℕ) (T : Terms) (is : List (Item Call)) (i : Item Call) → day_after n T (is ++ (i ∷ [])) ≡ after_item (with_done n T) (day_after n T is) i
unfolding day_after
day_more n T is i = after_more (with_done n T) (begun []) is i

-- so what the store of every list of calls has, the store has that an item finds
pub items_keep : (n : ℕ) → n ≤ 8 → (T : Terms) (is : List (Item Call)) → StoreInv n T (stores_after n T is).now.event (stores_after n T is).now
items_keep n n≤8 T is = subst (λ (st : Store). StoreInv n T st.event st) (sym (store-remaining n T is)) (every-run n n≤8 T (remaining n T is))

pub items_limits : (n : ℕ) (T : Terms) (is : List (Item Call)) → Limits (stores_after n T is).now
items_limits n T is = subst Limits (sym (store-remaining n T is)) (every_limits n T (remaining n T is))

pub items_sizes : (n : ℕ) → n ≤ 8 → (T : Terms) (is : List (Item Call)) → Sizes (stores_after n T is).now
items_sizes n n≤8 T is = subst Sizes (sym (store-remaining n T is)) (every_sizes n n≤8 T (remaining n T is))

-- ---- the answers, item by item

from_more : (n : ℕ) (T : Terms) (d : Day (List Call)) (is : List (Item Call)) (i : Item Call)
    → answers_from n T d (is ++ (i ∷ [])) ≡ answers_from n T d is ++ item_answer n (stores_of n T (after_items (with_done n T) d is)) i
unfolding answers_from after_items
from_more n T d [] i = append-nil (item_answer n (stores_of n T d) i)
from_more n T d (j ∷ is) i =
    let e : Day (List Call) = after_item (with_done n T) d j in
    ap (λ (l : List ℕ). item_answer n (stores_of n T d) j ++ l) (from_more n T e is i)
    ∙ sym (append_assoc (item_answer n (stores_of n T d) j) (answers_from n T e is) (item_answer n (stores_of n T (after_items (with_done n T) e is)) i))

-- each by the stores that its item finds
pub item_answers-more : (n : ℕ) (T : Terms) (is : List (Item Call)) (i : Item Call)
    → item_answers n T (is ++ (i ∷ [])) ≡ item_answers n T is ++ item_answer n (stores_after n T is) i
unfolding day_after
item_answers-more n T is i =
    from_more n T (begun []) is i ∙ ap (λ (d : Day Store). item_answers n T is ++ item_answer n d i) (sym (stores_remaining n T is))

pub item_answer-length : (n : ℕ) (d : Day Store) (i : Item Call) → length (item_answer n d i) ≡ 8
unfolding item_answer
item_answer-length n d (call c) = answer-length n d.now c
item_answer-length n d (keep x) = refl
item_answer-length n d (back x) = refl

-- ---- the items of a script, counted up

items_on : (k : ℕ) (s : List ℕ) (at : ℕ) → items_from (suc k) s at ≡ items_from k s at ++ (item_at s (at + 8 * k) ∷ [])
unfolding items_from
items_on zero s at = ap (λ (j : ℕ). item_at s j ∷ []) (omega arith)
items_on (suc k) s at =
    let next : at + 8 + 8 * k ≡ at + 8 * suc k = omega arith in
    ap (λ (l : List (Item Call)). item_at s at ∷ l)
    (items_on k s (at + 8) ∙ ap (λ (j : ℕ). items_from k s (at + 8) ++ (item_at s j ∷ [])) next)

pub items_more : (k : ℕ) (s : List ℕ) → items_from (suc k) s 0 ≡ items_from k s 0 ++ (item_at s (8 * k) ∷ [])
items_more k s = let z : 0 + 8 * k ≡ 8 * k = omega arith in items_on k s 0 ∙ ap (λ (j : ℕ). items_from k s 0 ++ (item_at s j ∷ [])) z

-- ---- each call that remains is done

-- none of these calls is refused, made one after the other
abbrev pub AllDone : ℕ → Store → List Call → Type 0
AllDone n st [] = Unit {0}
AllDone n st (c ∷ cs) = (refusal n st c ≡ 0) × AllDone n (after_call n st c) cs

done_more : (n : ℕ) (st : Store) (cs : List Call) (c : Call) → AllDone n st cs → refusal n (run n st cs) c ≡ 0 → AllDone n st (cs ++ (c ∷ []))
unfolding run
done_more n st [] c h r = (r, tt)
done_more n st (d ∷ cs) c h r = (h.0, done_more n (after_call n st d) cs c h.1 r)

pub with_done_lem : (n : ℕ) (T : Terms) (cs : List Call) (c : Call) → refusal n (run n (fresh T) cs) c ≡ 0 → with_done n T cs c ≡ cs ++ (c ∷ [])
unfolding with_done
with_done_lem n T cs c r = rw (eq-eqb (refusal n (run n (fresh T) cs) c) 0 r) refl

-- what holds of no calls, and with each done call of one more, holds of those that remain
pub remaining-keeps : (n : ℕ) (T : Terms) (Q : Call → Type 0) (P : List Call → Type 0) → P []
    → ((cs : List Call) (c : Call) → Q c → P cs → refusal n (run n (fresh T) cs) c ≡ 0 → P (cs ++ (c ∷ []))) → (is : List (Item Call)) → OfCalls Q is
    → P (remaining n T is)
unfolding day_after
remaining-keeps n T Q P none more is q =
    let R : List Call → List Call → Type 0 = λ a b. Unit {0} in
    let d : Day (List Call) = after_items (with_done n T) (begun []) is in
    linked_now P R (λ a. tt) (λ a b c x y. tt) d.now d.keepings
    (linked_items P R (λ a. tt) (λ a b c x y. tt) Q (with_done n T) (λ cs c q p. with_elim n T cs c P (more cs c q p) (λ e. p)) (λ cs c. tt) (begun []) is q none)

pub any_calls : (is : List (Item Call)) → OfCalls (λ c. Unit {0}) is
any_calls [] = tt
any_calls (call c ∷ is) = (tt, any_calls is)
any_calls (keep x ∷ is) = (tt, any_calls is)
any_calls (back x ∷ is) = (tt, any_calls is)

pub remaining-done : (n : ℕ) (T : Terms) (is : List (Item Call)) → AllDone n (fresh T) (remaining n T is)
remaining-done n T is = remaining-keeps n T (λ c. Unit {0}) (AllDone n (fresh T)) tt (λ cs c q h r. done_more n (fresh T) cs c h r) is (any_calls is)

-- so of a kind as many are done as there are
unfoldable pub of_kind : ℕ → List Call → ℕ
of_kind kind [] = 0
of_kind kind (c ∷ cs) = bit (eqb (kind_of c) kind) + of_kind kind cs

done-kind : (kind n : ℕ) (st : Store) (cs : List Call) → AllDone n st cs → total (done kind) n st cs ≡ of_kind kind cs
unfolding total of_kind
done-kind kind n st [] h = refl
done-kind kind n st (c ∷ cs) h =
    ap₂ ◌+◌ (rw h.0 (ap bit (and-true (eqb (kind_of c) kind)))) (done-kind kind n (after_call n st c) cs h.1)

pub remaining_of_kind : (kind n : ℕ) (T : Terms) (is : List (Item Call)) → total (done kind) n (fresh T) (remaining n T is) ≡ of_kind kind (remaining n T is)
remaining_of_kind kind n T is = done-kind kind n (fresh T) (remaining n T is) (remaining-done n T is)

-- ---- a return removes the last of the calls that remain

-- cs, and some more, are ds
abbrev pub Begins : List Call → List Call → Type 0
Begins cs ds = (more : List Call) × (cs ++ more ≡ ds)

begins_join : (a b c : List Call) → Begins a b → Begins b c → Begins a c
begins_join a b c h k = (h.0 ++ k.0, sym (append_assoc a h.0 k.0) ∙ ap (λ (l : List Call). l ++ k.0) h.1 ∙ k.1)

pub return_removes : (n : ℕ) (T : Terms) (is : List (Item Call)) (x : ℕ) → Begins (remaining n T (is ++ (back x ∷ []))) (remaining n T is)
unfolding day_after
return_removes n T is x =
    let P : List Call → Type 0 = λ cs. Unit {0} in
    let same : (a : List Call) → Begins a a = λ a. ([], append-nil a) in
    let d : Day (List Call) = after_items (with_done n T) (begun []) is in
    subst (λ (e : Day (List Call)). Begins e.now d.now) (sym (day_more n T is (back x)))
    (linked_return P Begins same begins_join (with_done n T) d x
    (linked_items P Begins same begins_join (λ c. Unit {0}) (with_done n T) (λ cs c q p. tt)
    (λ cs c. with_elim n T cs c (Begins cs) (λ r. (c ∷ [], refl)) (λ e. same cs))
    (begun []) is (any_calls is) tt))
