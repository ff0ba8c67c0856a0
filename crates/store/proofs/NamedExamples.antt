-- Scripts with keeps and returns, computed: two endings of a day, names replaced and forgotten, and what is malformed. Assumes nothing.
use mathlib.Core.Path.{◌≡◌, refl}
use mathlib.Core.List.{List, [], ◌∷◌, ◌++◌}
use Prim.Native.Nat.{ℕ}
use lib.ListN.{replicate}
use Rattle.record.specs.Encode.{little_bytes}
use Rattle.record.specs.Terms.{bare}
use Rattle.rows.specs.Octets.{little}
use Rattle.store.specs.Calls.{Call, put, get, deliver, malformed, call_at}
use Rattle.store.specs.Rules.{reached, refusal, effect, after_call, run, done_answer, answer}
use Rattle.store.specs.Named.{Item, call, keep, back, is_named, item_at, is_kept, without, back_to, after_item, after_items, on_keepings, item_answer, with_done, day_after, remaining, answers_from, item_answers}

-- an answer of a number and zeros
abbrev only : ℕ → List ℕ
only number = number ∷ replicate 7 0

-- the second put and its delivery, here refused (36), are gone after the return; the get then finds the first put, and is event 1 once more
abbrev two_endings : List (Item Call)
two_endings = call (put 0 5 100) ∷ keep 1 ∷ call (put 0 5 200) ∷ call (deliver 1 1) ∷ back 1 ∷ call (get 0 5) ∷ []

two_endings_remain : remaining 2 bare two_endings ≡ put 0 5 100 ∷ get 0 5 ∷ []
unfolding day_after after_items after_item with_done back_to refusal run after_call effect
two_endings_remain = refl

two_endings_answered : item_answers 2 bare two_endings
    ≡ only 0 ++ (only 0 ++ ((0 ∷ 0 ∷ 1 ∷ replicate 5 0) ++ (only 36 ++ (only 0 ++ (0 ∷ 1 ∷ 1 ∷ 0 ∷ 100 ∷ replicate 3 0)))))
unfolding answers_from item_answer answer done_answer little_bytes on_keepings is_kept after_item with_done back_to reached refusal run after_call effect
two_endings_answered = refl

-- 1 is kept after 2, where it replaced an older keeping: a return to 2 forgets it, and 2 stays
replaced_forgotten : item_answers 1 bare (keep 1 ∷ keep 2 ∷ keep 1 ∷ back 2 ∷ back 1 ∷ back 2 ∷ [])
    ≡ only 0 ++ (only 0 ++ (only 0 ++ (only 0 ++ (only 49 ++ only 0))))
unfolding answers_from item_answer on_keepings is_kept without after_item back_to
replaced_forgotten = refl

-- 1 is kept before 2: it stays
earlier_stays : item_answers 1 bare (keep 1 ∷ keep 2 ∷ back 2 ∷ back 1 ∷ back 2 ∷ []) ≡ only 0 ++ (only 0 ++ (only 0 ++ (only 0 ++ only 49)))
unfolding answers_from item_answer on_keepings is_kept without after_item back_to
earlier_stays = refl

-- names are 1 to 4, and the other bytes zero
kept_4 : item_at (5 ∷ 0 ∷ 4 ∷ replicate 5 0) 0 ≡ keep 4
unfolding item_at is_named little
kept_4 = refl

back_1 : item_at (6 ∷ 0 ∷ 1 ∷ replicate 5 0) 0 ≡ back 1
unfolding item_at is_named little
back_1 = refl

name_0 : item_at (5 ∷ replicate 7 0) 0 ≡ call malformed
unfolding item_at is_named call_at
name_0 = refl

name_5 : item_at (6 ∷ 0 ∷ 5 ∷ replicate 5 0) 0 ≡ call malformed
unfolding item_at is_named call_at
name_5 = refl

other_byte : item_at (6 ∷ 0 ∷ 1 ∷ 0 ∷ 0 ∷ 0 ∷ 0 ∷ 1 ∷ []) 0 ≡ call malformed
unfolding item_at is_named call_at little
other_byte = refl
