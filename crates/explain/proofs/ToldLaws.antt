-- What is told from the judge's tables is what is told of the history that they hold. Assumes nothing.
use mathlib.Core.Path.{◌≡◌, refl, sym, ap, ap₂, ◌∙◌}
use mathlib.Core.Bool.{Bool, true, false, not, ◌&&◌, ◌||◌, and_comm}
use mathlib.Core.List.{List, [], ◌∷◌, ◌++◌}
use Prim.Native.Nat.{ℕ, ◌+◌, ◌*◌, ◌<◌, ◌≤◌}
use native.Mathlib.Omega.{arith}
use native.Mathlib.Decide.{dec_lt}
use lib.ListN.{length, set, take, drop, take-append-drop, length-take, length-drop}
use Rattle.rows.specs.Lowest.{lowest, some, found}
use Rattle.rows.specs.Row.{has, or_row, or_part, row_at}
use Rattle.rows.specs.Relation.{related, reaches, Table, Graph}
use Rattle.rows.specs.Shortest.{shortest_chain}
use Rattle.rows.proofs.Tests.{or_elim}
use Rattle.rows.proofs.RowLaws.{has_past, has-or, length-or, row_has}
use Rattle.rows.proofs.LowestLaws.{same-lowest, same_some, some_at}
use Rattle.rows.proofs.FoundLaws.{some-below}
use Rattle.rows.proofs.TableLaws.{row_room, row-front, length-row, length-row_le, has-row, row-or-same}
use Rattle.rows.proofs.ReachLaws.{reaches_same, table-related, table_graph}
use Rattle.rows.proofs.ShortestLaws.{chain_same}
use Rattle.record.specs.Layout.{row_words}
use Rattle.record.specs.Terms.{Terms}
use Rattle.record.specs.History.{History, under, vis}
use Rattle.record.specs.Words.{is_write_in, history_from}
use Rattle.consistency.specs.Relations.{so, step, hb, read, through}
use Rattle.consistency.specs.Predicates.{verdict}
use Rattle.consistency.specs.Explained.{telling, middle_of, told_by}
use Rattle.consistency.specs.declared.Predicate.{Predicate}
use Rattle.consistency.specs.declared.Telling.{Telling}
use Rattle.consistency.specs.declared.Telling.TheVariants.{ByChain, ByMiddle, ByPair}
use Rattle.std.specs.Prelude.{Some, None, Ok, Err}
use Rattle.consistency.proofs.ExplainedLaws.{Has, broke}
use Rattle.events.specs.Given.{Given, writes_row, Groups}
use Rattle.events.proofs.GivenLaws.{seen-table}
use Rattle.tables.specs.Tables.{part, Prepared}
use Rattle.explain.specs.Explanations.{events_told, answer_to, over}
use Rattle.explain.specs.Steps.{step_in, between}
use Rattle.explain.specs.declared.Unexplained.TheVariants.{NoBreak}

-- ---- one event written, and two

pub set-one : (l : List ℕ) (x : ℕ) → 1 ≤ length l → set l 0 x ≡ x ∷ drop 1 l
set-one [] x h = absurd (omega arith)
set-one (y ∷ l) x h = refl

pub set_two : (l : List ℕ) (x y : ℕ) → 2 ≤ length l → set (set l 0 x) 1 y ≡ x ∷ y ∷ drop 2 l
set_two [] x y h = absurd (omega arith)
set_two (u ∷ []) x y h = absurd (omega arith)
set_two (u ∷ v ∷ l) x y h = refl

-- where there is one, it is found
pub found-there : (n : ℕ) (f : ℕ → Bool) → some n f ≡ true → found n f ≡ Some (lowest n f)
found-there n f e = some-below n (lowest n f) (some_at n f e).0

-- ---- the answer and the slice, of a predicate that is told in the way t

module _ (p : Predicate) (h : History) (a b : ℕ) (broken : verdict p h ≡ Some (a, b)) (t : Telling) (way : t ≡ telling p) where
  pub told_as : (l : List ℕ) → l ≡ told_by t h a b → (k : ℕ) → k ≡ length l → (out out' : List ℕ) → out' ≡ l ++ drop k out
      → (Ok k ≡ answer_to p h (verdict p h)) × (out' ≡ over (events_told p h (verdict p h)) out)
  told_as l e k long out out' f =
      let q : l ≡ told_by (telling p) h a b = e ∙ ap (λ (x : Telling). told_by x h a b) way in
      (rw (broken, long, q) refl, f ∙ rw (broken, long, q) refl)

  pub has_as : Has t h a b
  has_as = rw way (broke p h a b broken).has

pub told_pair : (h : History) (a b : ℕ) → b ∷ [] ≡ told_by ByPair h a b
unfolding told_by
told_pair h a b = refl

pub none_told : (p : Predicate) (h : History) → verdict p h ≡ None → (out : List ℕ) → (Err NoBreak ≡ answer_to p h (verdict p h)) × (out ≡ over (events_told p h (verdict p h)) out)
none_told p h e out = rw e (refl, refl)

-- ---- the tables

module _ (n : ℕ) (l v g t : List ℕ) (q : Terms) (given : Given n row_words l v) (ready : Prepared n row_words (under q (history_from n row_words l v)) t) where
  abbrev h : History
  h = under q (history_from n row_words l v)

  abbrev sos : List ℕ
  sos = part n row_words 1 t

  pub so_graph : Graph sos n row_words
  so_graph = table_graph n row_words (so h) sos ready.timed.sos (omega (arith, ready.size, length-take (n * row_words) (drop (1 * (n * row_words)) t), length-drop (1 * (n * row_words)) t)) given.rows.wide given.rows.fits

  seen : Table n row_words (vis h) v
  unfolding vis history_from
  seen = seen-table n row_words l v given

  module _ (a b : ℕ) (left : a < n) (right : b < n) (w : Groups n row_words l g) where
    middle-same : (m : ℕ) → m < n → between n v g t a b m ≡ (vis h a m && (read h m && so h m b))
    unfolding history_from
    middle-same m i =
        ap₂ ◌&&◌ (ap₂ (λ (x y : Bool). x && not y) (table-related n row_words (so h) sos ready.timed.sos m b i right) (row_has n (is_write_in l) (row_at g row_words writes_row) w.writes m i)) (table-related n row_words (vis h) v seen a m left i)
        ∙ and_comm (so h m b && read h m) (vis h a m) ∙ ap (λ (x : Bool). vis h a m && x) (and_comm (so h m b) (read h m))

    pub middle-told : lowest n (between n v g t a b) ∷ b ∷ [] ≡ told_by ByMiddle h a b
    unfolding told_by middle_of history_from
    middle-told = ap (λ (m : ℕ). m ∷ b ∷ []) (same-lowest n (between n v g t a b) (λ m. vis h a m && (read h m && so h m b)) middle-same)

    pub middle-there : Has ByMiddle h a b → some n (between n v g t a b) ≡ true
    unfolding Has through history_from
    middle-there has = same_some n (between n v g t a b) (λ m. vis h a m && (read h m && so h m b)) middle-same ∙ has

-- ---- the steps of hb: so's table, which the visible sets joined

module _ (n : ℕ) (v t t' : List ℕ) (seen : Graph v n row_words) (sos : Graph (part n row_words 1 t) n row_words) (size : 6 * (n * row_words) ≤ length t)
    (joined : t' ≡ or_part t (1 * (n * row_words)) (take (n * row_words) v)) where
  abbrev steps : List ℕ
  steps = part n row_words 1 t'

  abbrev first : List ℕ
  first = part n row_words 1 t

  abbrev second : List ℕ
  second = take (n * row_words) v

  second_long : length second ≡ n * row_words
  second_long = omega (arith, seen.size, length-take (n * row_words) v)

  filled : steps ≡ or_row first second
  filled = ap (part n row_words 1) joined ∙ row-or-same t (n * row_words) 1 second second_long (omega arith)

  first-long : length first ≡ n * row_words
  first-long = length-row t (n * row_words) 1 (omega arith)

  second_row : (y : ℕ) → y < n → row_at second row_words y ≡ row_at v row_words y
  second_row y h =
      sym (row-front second (drop (n * row_words) v) row_words y (row_room n row_words y (length second) h (omega (arith, second_long))))
      ∙ ap (λ (g : List ℕ). row_at g row_words y) (take-append-drop (n * row_words) v)

  pub steps-related : (x y : ℕ) → y < n → related (part n row_words 1 t') row_words x y ≡ step_in n t v x y
  steps-related x y h = elim (dec_lt x (64 * row_words)) [
    | yes i ↦ has-row steps row_words y x i ∙ ap (λ (g : List ℕ). has g (64 * (y * row_words) + x)) filled
        ∙ has-or first second (64 * (y * row_words) + x) (omega (arith, first-long, second_long))
        ∙ ap₂ ◌||◌ (sym (has-row first row_words y x i)) (sym (has-row second row_words y x i) ∙ ap (λ (r : List ℕ). has r x) (second_row y h))
    | no i ↦ let far : 64 * row_words ≤ x = omega arith in past steps far ∙ sym (ap₂ ◌||◌ (past first far) (past v far))
  ]
    where
      past : (g : List ℕ) → 64 * row_words ≤ x → has (row_at g row_words y) x ≡ false
      past g far = has_past (row_at g row_words y) x (omega (arith, length-row_le g row_words y))

  pub steps_graph : Graph (part n row_words 1 t') n row_words
  steps_graph = record {
    size = omega (arith, ap length filled, length-or first second, first-long);
    wide = sos.wide;
    fits = sos.fits;
    inside = λ b x h e. or_elim (related first row_words x b) (related v row_words x b) (sym (steps-related x b h) ∙ e) (sos.inside b x h) (seen.inside b x h);
  }

-- what the tables say is a step

module _ (n : ℕ) (l v t : List ℕ) (q : Terms) (given : Given n row_words l v) (ready : Prepared n row_words (under q (history_from n row_words l v)) t) where
  abbrev said : History
  said = under q (history_from n row_words l v)

  step-held : (a b : ℕ) → a < n → b < n → step_in n t v a b ≡ step said a b
  unfolding step vis history_from
  step-held a b i j =
      ap₂ ◌||◌ (table-related n row_words (so said) (part n row_words 1 t) ready.timed.sos a b i j) (table-related n row_words (vis said) v (seen-table n row_words l v given) a b i j)

  module _ (a b : ℕ) (left : a < n) (right : b < n) (has : Has ByChain said a b) where
    pub chain-reached : reaches n (step_in n t v) a b ≡ true
    unfolding Has hb history_from
    chain-reached = reaches_same n (step_in n t v) (step said) step-held a b left right ∙ has

    pub chain-told : shortest_chain n (step_in n t v) a b ≡ told_by ByChain said a b
    unfolding told_by history_from
    chain-told = chain_same n (step_in n t v) (step said) step-held b right a left chain-reached
