-- Calls alone: a script without keeps and returns is as it was; and the bytes of the calls that remain are a script that comes to the same store, and so
-- to the same count and record. Assumes nothing.
use mathlib.Core.Path.{◌≡◌, refl, sym, ap, ap₂, ◌∙◌}
use mathlib.Core.List.{List, [], ◌∷◌, ◌++◌, append_assoc, append-nil}
use Prim.Native.Nat.{ℕ, zero, suc, ◌+◌, ◌*◌, ◌/◌, ◌≤◌, ◌<◌}
use native.Mathlib.Omega.{arith}
use lib.ListN.{length, get_or, length-append, get_or-append}
use lib.Seq.{get_or-append-add}
use borrow.Author.Tests.{ne_eqb}
use Rattle.rows.specs.Octets.{little}
use Rattle.record.specs.Layout.{byte}
use Rattle.record.specs.Terms.{Terms}
use Rattle.store.specs.Store.{Store, fresh}
use Rattle.store.specs.Calls.{Call, call_at, calls_from, calls_of}
use Rattle.store.specs.Rules.{after_call, run, answer, answers}
use Rattle.store.specs.Named.{Item, call, is_named, item_at, items_from, items_of, begun, after_item, after_items, item_answer, with_done, day_after, remaining, answers_from, item_answers}
use Rattle.store.specs.NamedTold.{told_remaining, eight, script_of}
use Rattle.store.proofs.EveryCopy.{run_more}
use Rattle.store.proofs.Remaining.{stores_after, run-done, with_done_lem, AllDone, remaining-done}
use Rattle.store.proofs.RemainingTold.{calls_at, Plain, remaining-told, remaining_plain}

-- ---- a script of calls alone

unfoldable pub only_calls : List Call → List (Item Call)
only_calls [] = []
only_calls (c ∷ cs) = call c ∷ only_calls cs

-- has the store and the answers that its list of calls has
pub only_store : (n : ℕ) (T : Terms) (cs : List Call) → stores_after n T (only_calls cs) ≡ begun (run n (fresh T) cs)
unfolding after_items after_item only_calls run
only_store n T cs = go (fresh T) cs
  where
    go : (st : Store) (l : List Call) → after_items (after_call n) (begun st) (only_calls l) ≡ begun (run n st l)
    go st [] = refl
    go st (c ∷ l) = go (after_call n st c) l

pub only-answers : (n : ℕ) (T : Terms) (cs : List Call) → item_answers n T (only_calls cs) ≡ answers n (fresh T) cs
unfolding answers_from answers item_answer after_item only_calls run
only-answers n T cs = go [] cs
  where
    go : (before l : List Call) → answers_from n T (begun before) (only_calls l) ≡ answers n (run n (fresh T) before) l
    go before [] = refl
    go before (c ∷ l) =
        ap (λ (x : List ℕ). answer n (run n (fresh T) before) c ++ x)
        (go (with_done n T before c) l ∙ ap (λ (st : Store). answers n st l) (sym (run-done n T before c)))

-- and where all of them are done, they all remain
only-done : (n : ℕ) (T : Terms) (before cs : List Call) → AllDone n (run n (fresh T) before) cs
    → (after_items (with_done n T) (begun before) (only_calls cs)).now ≡ before ++ cs
unfolding after_items after_item only_calls
only-done n T before [] h = sym (append-nil before)
only-done n T before (c ∷ cs) h =
    let more : with_done n T before c ≡ before ++ (c ∷ []) = with_done_lem n T before c h.0 in
    ap (λ (l : List Call). (after_items (with_done n T) (begun l) (only_calls cs)).now) more
    ∙ only-done n T (before ++ (c ∷ [])) cs (rw (run_more n (fresh T) before c) h.1)
    ∙ append_assoc before (c ∷ []) cs

-- as those do that remain of other items
pub only-remaining : (n : ℕ) (T : Terms) (is : List (Item Call)) → remaining n T (only_calls (remaining n T is)) ≡ remaining n T is
unfolding day_after run
only-remaining n T is = only-done n T [] (remaining n T is) (remaining-done n T is)

-- ---- a script whose kinds are below 5

item_plain : (s : List ℕ) (at : ℕ) → byte s at < 5 → item_at s at ≡ call (call_at s at)
unfolding item_at
item_plain s at l = rw (ne_eqb (byte s at) 5 (λ q. omega arith), ne_eqb (byte s at) 6 (λ q. omega arith)) refl

items_plain : (k : ℕ) (s : List ℕ) (at : ℕ) → ((j : ℕ) → j < k → byte s (at + 8 * j) < 5) → items_from k s at ≡ only_calls (calls_from k s at)
unfolding items_from calls_from only_calls
items_plain zero s at h = refl
items_plain (suc k) s at h =
    let here : at + 8 * 0 ≡ at = omega arith in
    ap₂ ◌∷◌ (item_plain s at (rw here at (h 0 (omega arith))))
    (items_plain k s (at + 8) (λ j l. let next : at + 8 + 8 * j ≡ at + 8 * suc j = omega arith in rw next (h (suc j) (omega arith))))

-- is a list of calls
pub plain_script : (s : List ℕ) → ((j : ℕ) → j < length s / 8 → byte s (8 * j) < 5) → items_of s ≡ only_calls (calls_of s)
unfolding items_of calls_of
plain_script s h = items_plain (length s / 8) s 0 (λ j l. let z : 0 + 8 * j ≡ 8 * j = omega arith in rw z (h j l))

-- ---- items of the same eight bytes

first_alike : (s t : List ℕ) (at to : ℕ) → byte s (at + 0) ≡ byte t (to + 0) → byte s at ≡ byte t to
first_alike s t at to e =
    let a : at + 0 ≡ at = omega arith in
    let b : to + 0 ≡ to = omega arith in
    rw (a, b) at e

little-alike : (k : ℕ) (s t : List ℕ) (at to : ℕ) → ((j : ℕ) → j < k → byte s (at + j) ≡ byte t (to + j)) → little k s at ≡ little k t to
unfolding little
little-alike zero s t at to h = refl
little-alike (suc k) s t at to h =
    ap₂ (λ (x y : ℕ). x + 256 * y) (first_alike s t at to (h 0 (omega arith)))
    (little-alike k s t (at + 1) (to + 1)
    (λ j l.
    let a : at + 1 + j ≡ at + suc j = omega arith in
    let b : to + 1 + j ≡ to + suc j = omega arith in
    rw (a, b) (h (suc j) (omega arith))))

item_alike : (s t : List ℕ) (at to : ℕ) → ((j : ℕ) → j < 8 → byte s (at + j) ≡ byte t (to + j)) → item_at s at ≡ item_at t to
unfolding item_at is_named call_at
item_alike s t at to h =
    rw (first_alike s t at to (h 0 (omega arith)), h 1 (omega arith), h 2 (omega arith), h 3 (omega arith), part 4 4 (omega arith), part 2 4 (omega arith), part 2 6 (omega arith))
    refl
  where
    part : (k i : ℕ) → i + k ≤ 8 → little k s (at + i) ≡ little k t (to + i)
    part k i l = little-alike k s t (at + i) (to + i)
        (λ j m.
        let a : at + i + j ≡ at + (i + j) = omega arith in
        let b : to + i + j ≡ to + (i + j) = omega arith in
        rw (a, b) (h (i + j) (omega arith)))

-- ---- the bytes of some calls

eight-at : (s : List ℕ) (at j : ℕ) → j < 8 → get_or (eight s at) j 0 ≡ byte s (at + j)
unfolding eight
eight-at s at zero l = refl
eight-at s at (suc zero) l = refl
eight-at s at (suc (suc zero)) l = refl
eight-at s at (suc (suc (suc zero))) l = refl
eight-at s at (suc (suc (suc (suc zero)))) l = refl
eight-at s at (suc (suc (suc (suc (suc zero))))) l = refl
eight-at s at (suc (suc (suc (suc (suc (suc zero)))))) l = refl
eight-at s at (suc (suc (suc (suc (suc (suc (suc zero))))))) l = refl
eight-at s at (suc (suc (suc (suc (suc (suc (suc (suc j)))))))) l = absurd (omega arith)

eight-long : (s : List ℕ) (at : ℕ) → length (eight s at) ≡ 8
unfolding eight
eight-long s at = refl

script_long : (s ks : List ℕ) → length (script_of s ks) ≡ 8 * length ks
unfolding script_of
script_long s [] = refl
script_long s (k ∷ ks) = length-append (eight s (8 * k)) (script_of s ks) ∙ omega (arith, eight-long s (8 * k), script_long s ks)

item_first : (s rest : List ℕ) (at : ℕ) → item_at (eight s at ++ rest) 0 ≡ item_at s at
item_first s rest at = item_alike (eight s at ++ rest) s 0 at (λ j l.
    let z : 0 + j ≡ j = omega arith in
    rw z (get_or-append (eight s at) rest 0 j (omega (arith, eight-long s at)) ∙ eight-at s at j l))

items_behind : (k : ℕ) (s rest : List ℕ) (at to : ℕ) → items_from k (eight s at ++ rest) (8 + to) ≡ items_from k rest to
unfolding items_from
items_behind zero s rest at to = refl
items_behind (suc k) s rest at to =
    let next : 8 + to + 8 ≡ 8 + (to + 8) = omega arith in
    ap₂ ◌∷◌
    (item_alike (eight s at ++ rest) rest (8 + to) to (λ j l.
    let a : 8 + to + j ≡ length (eight s at) + (to + j) = omega (arith, eight-long s at) in
    rw a (get_or-append-add (eight s at) rest (to + j) 0)))
    (ap (items_from k (eight s at ++ rest)) next ∙ items_behind k s rest at (to + 8))

script_items : (s ks : List ℕ) → Plain s ks → items_from (length ks) (script_of s ks) 0 ≡ only_calls (calls_at s ks)
unfolding items_from script_of only_calls calls_at
script_items s [] h = refl
script_items s (k ∷ ks) h =
    ap₂ ◌∷◌ (item_first s (script_of s ks) (8 * k) ∙ item_plain s (8 * k) h.0)
    (items_behind (length ks) s (script_of s ks) (8 * k) 0 ∙ script_items s ks h.1)

-- ---- the bytes of the calls that remain

module _ (n : ℕ) (n≤8 : n ≤ 8) (T : Terms) (s rest : List ℕ) where
  -- the script of the calls told to remain
  abbrev alone : List ℕ
  alone = script_of s (told_remaining s (item_answers n T (items_of s) ++ rest))

  alone_items : items_of (script_of s (told_remaining s (item_answers n T (items_of s) ++ rest))) ≡ only_calls (remaining n T (items_of s))
  unfolding items_of
  alone_items =
      let ks : List ℕ = told_remaining s (item_answers n T (items_of s) ++ rest) in
      let m : length alone / 8 ≡ length ks = omega (arith, script_long s ks) in
      ap (λ (k : ℕ). items_from k alone 0) m ∙ script_items s ks (remaining_plain n n≤8 T s rest) ∙ ap only_calls (remaining-told n n≤8 T s rest)

  -- what remains of it is all of it
  pub alone-remaining : remaining n T (items_of (script_of s (told_remaining s (item_answers n T (items_of s) ++ rest)))) ≡ remaining n T (items_of s)
  alone-remaining = ap (remaining n T) alone_items ∙ only-remaining n T (items_of s)
