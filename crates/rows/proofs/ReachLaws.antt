-- Laws of `reaches`: it is one or more steps, as the inductive relation `Steps` has it. Assumes nothing.
use mathlib.Core.Path.{◌≡◌, sym, ap, ◌∙◌}
use mathlib.Core.Bool.{Bool, true, ◌&&◌, ◌||◌}
use mathlib.Core.List.{List}
use Prim.Native.Nat.{ℕ, zero, suc, ◌+◌, ◌*◌, ◌^◌, ◌<◌, ◌≤◌}
use native.Mathlib.Omega.{arith}
use lib.Dec.{ltb}
use borrow.Author.Tests.{ltb-true, ltb-false}
use lib.ListN.{length}
use Rattle.rows.specs.Lowest.{lowest, some}
use Rattle.rows.specs.Row.{row_at, Row}
use Rattle.rows.specs.Relation.{Rel, via, reaches, Steps, one, more, related, Table, Graph, Rows, Between}
use Rattle.rows.proofs.Tests.{split, same_test, or_elim, or_left, or_right, and_both, and_left, and_right}
use Rattle.rows.proofs.LowestLaws.{some_of, some_at, same_some}
use Rattle.rows.proofs.RowLaws.{row_of, row_has, row_in, row_same}
use Rattle.rows.proofs.TableLaws.{row_room}

-- ---- chains of steps

pub steps_join : {n : ℕ} {r : Rel} {a b c : ℕ} → Steps n r a b → b < n → Steps n r b c → Steps n r a c
steps_join (one s) l d = more s l d
steps_join (more s m e) l d = more s m (steps_join e l d)

wider : {n : ℕ} {r : Rel} {a b : ℕ} → Steps n r a b → Steps (suc n) r a b
wider (one s) = one s
wider (more s m e) = more s (omega arith) (wider e)

-- what the end's predecessors have, and each step hands back, the start has
pub steps_back : {n : ℕ} {r : Rel} {a c : ℕ} (P : ℕ → Type 0) → Steps n r a c → ((x : ℕ) → r x c ≡ true → P x) → ((x y : ℕ) → r x y ≡ true → P y → P x) → P a
steps_back P (one {a} s) end back = end a s
steps_back P (more {a} {b} s l e) end back = back a b s (steps_back P e end back)

-- where each step raises a number, so does a chain
pub steps-rising : {n : ℕ} {r : Rel} {a c : ℕ} (f : ℕ → ℕ) → ((x y : ℕ) → r x y ≡ true → f x < f y) → Steps n r a c → f a < f c
steps-rising f h (one {a} {b} s) = h a b s
steps-rising f h (more {a} {b} s l e) = omega (arith, h a b s, steps-rising f h e)

-- steps of r among n events are steps of q
pub steps_map : {n : ℕ} {r : Rel} (q : Rel) {a c : ℕ} → ((x y : ℕ) → x < n → y < n → r x y ≡ true → q x y ≡ true) → a < n → c < n → Steps n r a c → Steps n q a c
steps_map q f h k (one {a} {b} s) = one (f a b h k s)
steps_map q f h k (more {a} {b} {c} s l e) = more (f a b h l s) l (steps_map q f l k e)

pub steps_flip : {n : ℕ} {r : Rel} {a b : ℕ} → Steps n r a b → Steps n (λ x y. r y x) b a
steps_flip (one s) = one s
steps_flip (more s l e) = steps_join (steps_flip e) l (one s)

-- ---- `via` is right

via-steps : (r : Rel) (k a b : ℕ) → via r k a b ≡ true → Steps k r a b
unfolding via
via-steps r zero a b e = one e
via-steps r (suc k) a b e = or_elim (via r k a b) (via r k a k && via r k k b) e
    (λ f. wider (via-steps r k a b f))
    (λ f. steps_join (wider (via-steps r k a k (and_left (via r k a k) (via r k k b) f))) (omega arith)
    (wider (via-steps r k k b (and_right (via r k a k) (via r k k b) f))))

-- ---- `via` is complete: it is closed under a middle event below k

via-keep : (r : Rel) (k a b : ℕ) → via r k a b ≡ true → via r (suc k) a b ≡ true
unfolding via
via-keep r k a b e = or_left (via r k a b) (via r k a k && via r k k b) e

via-over : (r : Rel) (k a b : ℕ) → via r k a k ≡ true → via r k k b ≡ true → via r (suc k) a b ≡ true
unfolding via
via-over r k a b e f = or_right (via r k a b) (via r k a k && via r k k b) (and_both (via r k a k) (via r k k b) e f)

via_cases : {C : Type 0} (r : Rel) (k a b : ℕ) → via r (suc k) a b ≡ true → (via r k a b ≡ true → C) → (via r k a k ≡ true → via r k k b ≡ true → C) → C
unfolding via
via_cases r k a b e f g = or_elim (via r k a b) (via r k a k && via r k k b) e f
    (λ q. g (and_left (via r k a k) (via r k k b) q) (and_right (via r k a k) (via r k k b) q))

via_join : (r : Rel) (k a m b : ℕ) → m < k → via r k a m ≡ true → via r k m b ≡ true → via r k a b ≡ true
via_join r zero a m b l e f = absurd (omega arith)
via_join r (suc k) a m b l e f =
    split (ltb m k)
    (λ t. let j : m < k = ltb-true m k t in
    via_cases r k a m e
    (λ am. via_cases r k m b f
    (λ mb. via-keep r k a b (via_join r k a m b j am mb))
    (λ mk kb. via-over r k a b (via_join r k a m k j am mk) kb))
    (λ ak km. via_cases r k m b f
    (λ mb. via-over r k a b ak (via_join r k k m b j km mb))
    (λ mk kb. via-over r k a b ak kb)))
    -- the middle is k itself, to and from which the last step of the definition adds nothing
    (λ t. let q : m ≡ k = omega (arith, ltb-false m k t) in
    via-over r k a b (via_cases r k a k (rw q at e) (λ g. g) (λ g h. g)) (via_cases r k k b (rw q at f) (λ g. g) (λ g h. h)))

via-step : (r : Rel) (k a b : ℕ) → r a b ≡ true → via r k a b ≡ true
unfolding via
via-step r zero a b s = s
via-step r (suc k) a b s = via-keep r k a b (via-step r k a b s)

steps-via : (r : Rel) (k : ℕ) {a b : ℕ} → Steps k r a b → via r k a b ≡ true
steps-via r k (one {a} {b} s) = via-step r k a b s
steps-via r k (more {a} {b} {c} s l e) = via_join r k a b c l (via-step r k a b s) (steps-via r k e)

-- ---- the two agree

module _ (n : ℕ) (r : Rel) where
  pub reaches-sound : (a b : ℕ) → reaches n r a b ≡ true → Steps n r a b
  unfolding reaches
  reaches-sound a b e = via-steps r n a b e

  pub reaches_complete : {a b : ℕ} → Steps n r a b → reaches n r a b ≡ true
  unfolding reaches
  reaches_complete c = steps-via r n c

  pub reaches_step : (a b : ℕ) → r a b ≡ true → reaches n r a b ≡ true
  reaches_step a b e = reaches_complete (one e)

  pub reaches_join : (a b c : ℕ) → b < n → reaches n r a b ≡ true → reaches n r b c ≡ true → reaches n r a c ≡ true
  reaches_join a b c l e f = reaches_complete (steps_join (reaches-sound a b e) l (reaches-sound b c f))

  -- by its first step
  pub reaches-first : (a c : ℕ) → reaches n r a c ≡ r a c || some n (λ b. r a b && reaches n r b c)
  reaches-first a c = same_test (reaches n r a c) (r a c || some n (λ b. r a b && reaches n r b c)) (λ e. there (reaches-sound a c e)) back
    where
      there : {a c : ℕ} → Steps n r a c → r a c || some n (λ b. r a b && reaches n r b c) ≡ true
      there (one {a} {b = c} s) = or_left (r a c) (some n (λ b. r a b && reaches n r b c)) s
      there (more {a} {b} {c} s l e) = or_right (r a c) (some n (λ b. r a b && reaches n r b c))
          (some_of n (λ b. r a b && reaches n r b c) b l (and_both (r a b) (reaches n r b c) s (reaches_complete e)))

      back : r a c || some n (λ b. r a b && reaches n r b c) ≡ true → reaches n r a c ≡ true
      back e = or_elim (r a c) (some n (λ b. r a b && reaches n r b c)) e (reaches_step a c) (λ t.
          let w = some_at n (λ b. r a b && reaches n r b c) t in
          let b = lowest n (λ b. r a b && reaches n r b c) in
          reaches_join a b c w.0 (reaches_step a b (and_left (r a b) (reaches n r b c) w.1)) (and_right (r a b) (reaches n r b c) w.1))

-- the other way round, and by its last step
pub reaches_flip : (n : ℕ) (r : Rel) (a b : ℕ) → reaches n (λ x y. r y x) a b ≡ reaches n r b a
reaches_flip n r a b = same_test (reaches n (λ x y. r y x) a b) (reaches n r b a)
    (λ e. reaches_complete n r (steps_flip (reaches-sound n (λ x y. r y x) a b e)))
    (λ e. reaches_complete n (λ x y. r y x) (steps_flip (reaches-sound n r b a e)))

pub reaches-last : (n : ℕ) (r : Rel) (a c : ℕ) → reaches n r a c ≡ r a c || some n (λ b. r b c && reaches n r a b)
reaches-last n r a c =
    sym (reaches_flip n r c a) ∙ reaches-first n (λ x y. r y x) c a
    ∙ ap (λ (t : Bool). r a c || t) (same_some n (λ b. r b c && reaches n (λ x y. r y x) b a) (λ b. r b c && reaches n r a b)
    (λ b l. ap (λ (t : Bool). r b c && t) (reaches_flip n r b a)))

-- more steps reach more, and the same steps the same
pub reaches_more : (n : ℕ) (r q : Rel) → ((x y : ℕ) → x < n → y < n → r x y ≡ true → q x y ≡ true) → (a b : ℕ) → a < n → b < n → reaches n r a b ≡ true → reaches n q a b ≡ true
reaches_more n r q f a b h k e = reaches_complete n q (steps_map q f h k (reaches-sound n r a b e))

pub reaches_same : (n : ℕ) (r q : Rel) → ((x y : ℕ) → x < n → y < n → r x y ≡ q x y) → (a b : ℕ) → a < n → b < n → reaches n r a b ≡ reaches n q a b
reaches_same n r q f a b h k = same_test (reaches n r a b) (reaches n q a b)
    (reaches_more n r q (λ x y p q e. sym (f x y p q) ∙ e) a b h k)
    (reaches_more n q r (λ x y p q e. f x y p q ∙ e) a b h k)

-- a relation between r and one or more steps of it reaches what r does
pub between_reaches : {n : ℕ} {r q : Rel} → Between n r q → (a b : ℕ) → b < n → reaches n q a b ≡ reaches n r a b
between_reaches {n} {r} {q} i a b h = same_test (reaches n q a b) (reaches n r a b)
    (λ e. back (reaches-sound n q a b e) h)
    (λ e. reaches_complete n q (there (reaches-sound n r a b e) h))
  where
    back : {a b : ℕ} → Steps n q a b → b < n → reaches n r a b ≡ true
    back (one {a} {b} s) h = i.sound a b h s
    back (more {a} {b} {c} s l e) h = reaches_join n r a b c l (i.sound a b l s) (back e h)

    there : {a b : ℕ} → Steps n r a b → b < n → Steps n q a b
    there (one {a} {b} s) h = one (i.kept a b h s)
    there (more {a} {b} {c} s l e) h = more (i.kept a b l s) l (there e h)

-- ---- relations held in tables

-- row b of a graph lies within its table
pub graph_room : {g : List ℕ} {n w : ℕ} (b : ℕ) → Graph g n w → b < n → b * w + w ≤ length g
graph_room {g} {n} {w} b h k = row_room n w b (length g) k h.size

-- the same of a table of which only the size is known, and so of every table of that length
pub room_row : {g : List ℕ} {n w : ℕ} (b : ℕ) → Rows g n w → b < n → b * w + w ≤ length g
room_row {g} {n} {w} b h k = row_room n w b (length g) k h.size

pub room-kept : {g : List ℕ} (h : List ℕ) {n w : ℕ} → Rows g n w → length h ≡ length g → Rows h n w
room-kept h m e = record { size = omega (arith, m.size); wide = m.wide; fits = m.fits }

module _ (n w : ℕ) (r : Rel) (g : List ℕ) (t : Table n w r g) where
  pub table-related : (a b : ℕ) → a < n → b < n → related g w a b ≡ r a b
  table-related a b h k = row_has n (λ x. r x b) (row_at g w b) (t b k) a h

  pub table_graph : n * w ≤ length g → n ≤ 64 * w → 64 * w < 2 ^ 64 → Graph g n w
  table_graph s h k = record { size = s; wide = h; fits = k; inside = λ b x l e. (row_in n (λ a. r a b) (row_at g w b) (t b l) x e).0 }

  pub table-reaches : (a b : ℕ) → a < n → b < n → reaches n (related g w) a b ≡ reaches n r a b
  table-reaches = reaches_same n (related g w) r table-related

  -- what `reaching` and `lowest_on_ring` ensure, of the relation itself
  pub table-row : (b : ℕ) (l : List ℕ) → b < n → Row n (λ a. reaches n (related g w) a b) l → Row n (λ a. reaches n r a b) l
  table-row b l h q = row_same n (λ a. reaches n (related g w) a b) l q (λ a. reaches n r a b) (λ a k. table-reaches a b k h)

  -- only an event below n has a step to one
  pub table-start : {a c : ℕ} → Steps n (related g w) a c → c < n → a < n
  table-start (one {a} {b = c} s) l = (row_in n (λ x. r x c) (row_at g w c) (t c l) a s).0
  table-start (more {a} {b = c} s l d) m = (row_in n (λ x. r x c) (row_at g w c) (t c l) a s).0

  -- a table whose rows have what reaches their events in g holds the closure
  pub table-closed : (h : List ℕ) → ((b x : ℕ) → b < n → related h w x b ≡ reaches n (related g w) x b) → Table n w (reaches n r) h
  table-closed h all b l = row_of n (λ a. reaches n r a b) (row_at h w b)
      (λ x m.
      let c : reaches n (related g w) x b ≡ true = sym (all b x l) ∙ m in
      let k = table-start (reaches-sound n (related g w) x b c) l in
      (k, sym (table-reaches x b k l) ∙ c))
      (λ x k m. all b x l ∙ table-reaches x b k l ∙ m)
