-- Which calls remain, as the bytes of a script and of its answers tell, 8 for each item; and what their copies add up to.
use Rattle.std.specs.Prelude.{◌≡◌, cond, ◌&&◌, List, [], ◌∷◌, ◌++◌, ℕ, zero, suc, ◌+◌, ◌-◌, ◌*◌, ◌/◌, eqb, length}
use Rattle.rows.specs.Octets.{little}
use Rattle.record.specs.Layout.{byte}
use Rattle.record.specs.Encode.{bit}
use Rattle.store.specs.Named.{Item, call, keep, back, Day, begun, after_item}

-- item k: a keep or a return that is done, by its kind and by byte 0 of its answer; else a call, told by its number
unfoldable pub told_item : List ℕ → List ℕ → ℕ → Item ℕ
told_item script answers k =
    cond (eqb (byte script (8 * k)) 5 && eqb (byte answers (8 * k)) 0) (keep (byte script (8 * k + 2)))
    (cond (eqb (byte script (8 * k)) 6 && eqb (byte answers (8 * k)) 0) (back (byte script (8 * k + 2)))
    (call k))

-- the numbers of the calls that remain, and call k
unfoldable pub told_with : List ℕ → List ℕ → ℕ → List ℕ
told_with answers ks k = cond (eqb (byte answers (8 * k)) 0) (ks ++ (k ∷ [])) ks

-- after the first k items
unfoldable pub told_day : ℕ → List ℕ → List ℕ → Day (List ℕ)
told_day zero script answers = begun []
told_day (suc k) script answers = after_item (told_with answers) (told_day k script answers) (told_item script answers k)

abbrev pub told_remaining : List ℕ → List ℕ → List ℕ
told_remaining script answers = (told_day (length script / 8) script answers).now

-- the script of the calls with these numbers alone
unfoldable pub eight : List ℕ → ℕ → List ℕ
eight s at = byte s (at + 0) ∷ byte s (at + 1) ∷ byte s (at + 2) ∷ byte s (at + 3) ∷ byte s (at + 4) ∷ byte s (at + 5) ∷ byte s (at + 6) ∷ byte s (at + 7) ∷ []

unfoldable pub script_of : List ℕ → List ℕ → List ℕ
script_of script [] = []
script_of script (k ∷ ks) = eight script (8 * k) ++ script_of script ks

-- a number of each of these, added up
unfoldable pub overall : (ℕ → ℕ) → List ℕ → ℕ
overall f [] = 0
overall f (k ∷ ks) = f k + overall f ks

-- 1 for a call of a kind
abbrev pub is_of_kind : ℕ → List ℕ → ℕ → ℕ
is_of_kind kind script k = bit (eqb (byte script (8 * k)) kind)

-- the value in the answer of a close, bytes 4 to 7
abbrev pub by_close : List ℕ → List ℕ → ℕ → ℕ
by_close script answers k = cond (eqb (byte script (8 * k)) 4) (little 4 answers (8 * k + 4)) 0

-- of the calls that remain: puts × (sites − 1) = deliveries + copies delivered by closes + `left`
abbrev pub ToldRemainAddUp : ℕ → List ℕ → List ℕ → ℕ → Type 0
ToldRemainAddUp n script answers left =
    overall (is_of_kind 1 script) (told_remaining script answers) * (n - 1)
    ≡ (overall (is_of_kind 3 script) (told_remaining script answers) + overall (by_close script answers) (told_remaining script answers)) + left
