-- The third demand with keeps and returns in the script: what an accepted rehearsal of its items comes to. A script without them is `Rehearses`'s own.
use Rattle.std.specs.Prelude.{◌≡◌, List, ◌++◌, ℕ, ◌*◌, ◌/◌, ◌<◌, length, drop}
use Rattle.record.specs.Layout.{store_layout}
use Rattle.store.specs.Store.{Store, fresh}
use Rattle.store.specs.Calls.{Call, close}
use Rattle.store.specs.Rules.{run}
use Rattle.store.specs.Named.{call, item_at, items_from, items_of, remaining, item_answers}
use Rattle.store.specs.NamedTold.{told_remaining, script_of, ToldRemainAddUp}
use Rattle.store.specs.Outstanding.{outstanding, AddsUp}
use Rattle.store.specs.Close.{Closes}
use Rattle.store.specs.Recorded.{store_record}
use Rattle.store.specs.Rehearsal.{terms_of}
use Rattle.store.specs.Demand.{CausalRecord}

-- the calls that remain of the first k items of a script, at n sites
abbrev pub remaining_up_to : ℕ → ℕ → List ℕ → List ℕ → List Call
remaining_up_to k n openings script = remaining n (terms_of openings) (items_from k script 0)

-- the store that item k finds
abbrev pub store_at_item : ℕ → ℕ → List ℕ → List ℕ → Store
store_at_item k n openings script = run n (fresh (terms_of openings)) (remaining_up_to k n openings script)

-- the store of the calls that remain, and its record
unfoldable pub items_store : ℕ → List ℕ → List ℕ → Store
items_store n openings script = run n (fresh (terms_of openings)) (remaining n (terms_of openings) (items_of script))

unfoldable pub items_record : ℕ → List ℕ → List ℕ → List ℕ
items_record n openings script = store_record store_layout n (terms_of openings) (items_store n openings script)

-- the answers are those of every item; the record, the count and the account are about the calls that remain
pub record RehearsesItems (n : ℕ) (openings script rec ans rec' ans' : List ℕ) (left : ℕ) : Type 0 where
  pub recorded : rec' ≡ items_record n openings script ++ drop (length (items_record n openings script)) rec
  pub answered : ans' ≡ item_answers n (terms_of openings) (items_of script) ++ drop (length script) ans
  pub copies : left ≡ outstanding n (items_store n openings script)
  pub causal : CausalRecord (items_record n openings script)
  pub closes : (k : ℕ) → k < length script / 8 → item_at script (8 * k) ≡ call close → Closes n (store_at_item k n openings script)
  pub adds_up : AddsUp n (terms_of openings) (remaining n (terms_of openings) (items_of script)) left
  -- of a script of the calls that remain alone, as the answers tell them, the store is the same, and so are the count and the record
  pub alone : items_store n openings (script_of script (told_remaining script ans')) ≡ items_store n openings script
  pub told_adds_up : ToldRemainAddUp n script ans' left
