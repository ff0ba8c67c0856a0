-- 'Coming back to a named state': the items of a script, and what they leave of the calls made in it.
use Rattle.std.specs.Prelude.{Bool, false, cond, ◌&&◌, ◌||◌, List, [], ◌∷◌, ◌++◌, ℕ, zero, suc, ◌+◌, ◌/◌, eqb, leb, length, replicate}
use Rattle.rows.specs.Octets.{little}
use Rattle.record.specs.Layout.{byte}
use Rattle.record.specs.Questions.{ask}
use Rattle.record.specs.Terms.{Terms}
use Rattle.store.specs.Store.{Store, fresh}
use Rattle.store.specs.Calls.{Call, call_at}
use Rattle.store.specs.Rules.{refusal, run, answer}

-- ---- items

-- a call of kinds 1 to 4, malformed ones included; a keep under the name x (kind 5); a return to it (kind 6)
pub data Item (C : Type 0) : Type 0 where
  call : (c : C) → Item C
  keep : (x : ℕ) → Item C
  back : (x : ℕ) → Item C

-- a name of 1 to 4 in the object byte, and the bytes beside it and the kind zero
unfoldable pub is_named : List ℕ → ℕ → Bool
is_named s at =
    (leb 1 (byte s (at + 2)) && leb (byte s (at + 2)) 4) && (eqb (byte s (at + 1)) 0 && (eqb (byte s (at + 3)) 0 && eqb (little 4 s (at + 4)) 0))

unfoldable pub item_at : List ℕ → ℕ → Item Call
item_at s at =
    cond (eqb (byte s at) 5 && is_named s at) (keep (byte s (at + 2)))
    (cond (eqb (byte s at) 6 && is_named s at) (back (byte s (at + 2)))
    (call (call_at s at)))

-- k items from byte `at` on
unfoldable pub items_from : ℕ → List ℕ → ℕ → List (Item Call)
items_from zero s at = []
items_from (suc k) s at = item_at s at ∷ items_from k s (at + 8)

unfoldable pub items_of : List ℕ → List (Item Call)
items_of s = items_from (length s / 8) s 0

-- ---- keepings

-- a name, and what was kept under it
pub record Keeping (A : Type 0) : Type 0 where
  pub name : ℕ
  pub kept : A

-- what there is now, and the keepings, the latest first
pub record Day (A : Type 0) : Type 0 where
  pub now : A
  pub keepings : List (Keeping A)

abbrev pub begun : {A : Type 0} → A → Day A
begun a = record { now = a; keepings = [] }

unfoldable pub is_kept : {A : Type 0} → ℕ → List (Keeping A) → Bool
is_kept x [] = false
is_kept x (k ∷ ks) = eqb k.name x || is_kept x ks

-- the keepings but those of x
unfoldable pub without : {A : Type 0} → ℕ → List (Keeping A) → List (Keeping A)
without x [] = []
without x (k ∷ ks) = cond (eqb k.name x) (without x ks) (k ∷ without x ks)

-- back to x, where it is in `ks`: what was kept under it, and of these keepings it and the earlier ones; else d
unfoldable pub back_to : {A : Type 0} → ℕ → Day A → List (Keeping A) → Day A
back_to x d [] = d
back_to x d (k ∷ ks) = cond (eqb k.name x) (record { now = k.kept; keepings = k ∷ ks }) (back_to x d ks)

-- a keep replaces an earlier keeping of its name; a return forgets the names kept after its own
unfoldable pub after_item : {A C : Type 0} → (A → C → A) → Day A → Item C → Day A
after_item step d (call c) = record { now = step d.now c; keepings = d.keepings }
after_item step d (keep x) = record { now = d.now; keepings = record { name = x; kept = d.now } ∷ without x d.keepings }
after_item step d (back x) = back_to x d d.keepings

unfoldable pub after_items : {A C : Type 0} → (A → C → A) → Day A → List (Item C) → Day A
after_items step d [] = d
after_items step d (i ∷ is) = after_items step (after_item step d i) is

-- f of what there is now and of all that is kept
unfoldable pub on_keepings : {A B : Type 0} → (A → B) → List (Keeping A) → List (Keeping B)
on_keepings f [] = []
on_keepings f (k ∷ ks) = record { name = k.name; kept = f k.kept } ∷ on_keepings f ks

abbrev pub on_day : {A B : Type 0} → (A → B) → Day A → Day B
on_day f d = record { now = f d.now; keepings = on_keepings f d.keepings }

-- ---- refusals and answers, where there is this store now

-- 49 for a return to a name not kept; no keep is refused
unfoldable pub item_refusal : ℕ → Day Store → Item Call → ℕ
item_refusal n d (call c) = refusal n d.now c
item_refusal n d (keep x) = 0
item_refusal n d (back x) = ask (is_kept x d.keepings) 49 0

-- a call's own answer; a keep or a return that is done answers eight zeros
unfoldable pub item_answer : ℕ → Day Store → Item Call → List ℕ
item_answer n d (call c) = answer n d.now c
item_answer n d (keep x) = replicate 8 0
item_answer n d (back x) = ask (is_kept x d.keepings) 49 0 ∷ replicate 7 0

-- ---- the calls that remain

-- the calls that remain, and a call made now: one that is refused is none of them
unfoldable pub with_done : ℕ → Terms → List Call → Call → List Call
with_done n T cs c = cond (eqb (refusal n (run n (fresh T) cs) c) 0) (cs ++ (c ∷ [])) cs

-- after these items: the done calls not removed, and those of each keeping
unfoldable pub day_after : ℕ → Terms → List (Item Call) → Day (List Call)
day_after n T is = after_items (with_done n T) (begun []) is

abbrev pub remaining : ℕ → Terms → List (Item Call) → List Call
remaining n T is = (day_after n T is).now

-- the store that an item finds is that of the calls that remain
abbrev pub stores_of : ℕ → Terms → Day (List Call) → Day Store
stores_of n T d = on_day (run n (fresh T)) d

unfoldable pub answers_from : ℕ → Terms → Day (List Call) → List (Item Call) → List ℕ
answers_from n T d [] = []
answers_from n T d (i ∷ is) = item_answer n (stores_of n T d) i ++ answers_from n T (after_item (with_done n T) d i) is

abbrev pub item_answers : ℕ → Terms → List (Item Call) → List ℕ
item_answers n T is = answers_from n T (begun []) is
