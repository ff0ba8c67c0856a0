-- Copies still on the lines: the pairs of a put and a site that lacks it, and what they add up to with the copies that came.
use Rattle.std.specs.Prelude.{◌≡◌, Bool, not, cond, ◌&&◌, List, ℕ, ◌+◌, ◌-◌, ◌*◌, ◌/◌, eqb, length}
use Rattle.rows.specs.Count.{sum, how_many}
use Rattle.rows.specs.Octets.{little}
use Rattle.record.specs.Layout.{byte}
use Rattle.record.specs.Terms.{Terms}
use Rattle.store.specs.Store.{Store, fresh}
use Rattle.store.specs.Calls.{Call}
use Rattle.store.specs.Rules.{run, deliveries, copies_by_closes}

-- event w is a put, and site t lacks it: it is not in t's known set
abbrev pub lacks : Store → ℕ → ℕ → Bool
lacks st t w = (st.event w).is_put && not ((st.site t).known w)

-- the copies outstanding at n sites: the pairs of a put and a site that lacks it
unfoldable pub outstanding : ℕ → Store → ℕ
outstanding n st = sum n (λ t. how_many st.count (lacks st t))

-- the puts of a store
unfoldable pub puts : Store → ℕ
puts st = how_many st.count (λ e. (st.event e).is_put)

-- the store after these calls at n fresh sites, on terms t: puts × (sites − 1) = done deliveries + copies delivered by closes + `left`
abbrev pub AddsUp : ℕ → Terms → List Call → ℕ → Type 0
AddsUp n t cs left = puts (run n (fresh t) cs) * (n - 1) ≡ (deliveries n (fresh t) cs + copies_by_closes n (fresh t) cs) + left

-- ---- the same, by the bytes of a script and of its answers, 8 for each call

-- the calls of a kind that are done: byte 0 of the call is the kind, and byte 0 of its answer is 0
unfoldable pub told_done : ℕ → List ℕ → List ℕ → ℕ
told_done kind script answers = how_many (length script / 8) (λ k. eqb (byte script (8 * k)) kind && eqb (byte answers (8 * k)) 0)

-- the values in the answers of closes, bytes 4 to 7
unfoldable pub told_copies : List ℕ → List ℕ → ℕ
told_copies script answers = sum (length script / 8) (λ k. cond (eqb (byte script (8 * k)) 4) (little 4 answers (8 * k + 4)) 0)

-- puts × (sites − 1) = done deliveries + copies delivered by closes + `left`, as the answers tell
abbrev pub ToldAddsUp : ℕ → List ℕ → List ℕ → ℕ → Type 0
ToldAddsUp n script answers left = told_done 1 script answers * (n - 1) ≡ (told_done 3 script answers + told_copies script answers) + left
