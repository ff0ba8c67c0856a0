-- Laws of inclusions between tables of rows: the row of the events that begin a breaking pair tells the first pair, and tables which hold relations speak of
-- those. Assumes nothing.
use mathlib.Core.Path.{◌≡◌, refl, sym, ap, ap₂, ◌∙◌}
use mathlib.Core.Logic.{◌≢◌}
use mathlib.Core.Bool.{Bool, true, false, not, ◌&&◌, ◌||◌, or-false, and-true, and-false}
use mathlib.Core.List.{List}
use Prim.Native.Nat.{ℕ, suc, ◌+◌, ◌-◌, ◌*◌, ◌/◌, ◌%◌, ◌^◌, ◌<◌, ◌≤◌, min}
use native.Mathlib.Omega.{arith}
use borrow.Author.Tests.{eq-eqb, eqb-true, eqb-false, lt-ltb, le-ltb, ltb-true}
use lib.Bits.{bit_and, bit_or, and_le_l}
use lib.Count.{count_trailing_zeros}
use lib.Dec.{eqb, ltb}
use lib.ListN.{get_or, replicate}
use Rattle.std.specs.Prelude.{Some, None}
use Rattle.rows.specs.Lowest.{if_below, found, lowest, some}
use Rattle.rows.specs.Row.{bit_of, has, row_at, Row}
use Rattle.rows.specs.Relation.{Rel, related, Table}
use Rattle.rows.proofs.Tests.{split, same_test, and_left, and_right}
use Rattle.rows.proofs.Digits.{trailing_lt, bit_or_lem, bit_and_lem, bit_minus, bit_moved}
use Rattle.rows.proofs.RowLaws.{and_not, has_cleared, has_word, word_none, word_found, row_has}
use Rattle.rows.proofs.TableLaws.{get_d_row}
use Rattle.rows.proofs.FoundLaws.{below-some, below-none, some-below, none-below}
use Rattle.rows.proofs.LowestLaws.{lowest_low, lowest_hit, lowest-none, same-lowest, some_at, some-none, none-some, some_more}
use Rattle.consistency.specs.FirstPair.{first}
use Rattle.consistency.specs.Relations.{from, to}
use Rattle.consistency.specs.Predicates.{outside}
use Rattle.consistency.proofs.FirstPairLaws.{Alike, first-at, first-none, first-same}
use Rattle.events.specs.Given.{Groups}
use Rattle.pairs.specs.Searches.{lacks, Whole}

-- the row h has the events from which f has a pair to one of n
module _ (n m : ℕ) (f : Rel) (h : ℕ → Bool) (e : (x : ℕ) → h x ≡ some n (f x)) (wide : n ≤ m) where
  below : (x y : ℕ) → x < lowest m h → y < n → f x y ≡ false
  below x y i j = some-none n (f x) (sym (e x) ∙ (lowest_low m h).below x i) y j

  -- it has none
  pub row_none : found m h ≡ None → first n f ≡ None
  row_none k = first-none n f (λ x y i j. below x y (omega (arith, i, below-none m (lowest m h) k)) j)

  -- its lowest is past all events
  pub row_past : {a : ℕ} → found m h ≡ Some a → n ≤ a → first n f ≡ None
  row_past {a} k past = first-none n f (λ x y i j. below x y (omega (arith, i, (below-some m (lowest m h) a k).0)) j)

  -- some event ends a pair that its lowest begins
  pub row_any : {a : ℕ} → found m h ≡ Some a → (lowest n (f a) < n) × (f a (lowest n (f a)) ≡ true)
  row_any {a} k =
      let l = below-some m (lowest m h) a k in
      some_at n (f a) (sym (e a) ∙ ap h l.0 ∙ (lowest_low m h).at l.1)

  -- b is the lowest of those
  pub row-broken : {a b : ℕ} → found m h ≡ Some a → a < n → found n (f a) ≡ Some b → first n f ≡ Some (a, b)
  row-broken {a} {b} k i q =
      let l = below-some m (lowest m h) a k in
      let j = below-some n (lowest n (f a)) b q in
      let w = row_any k in
      first-at n f a b (record {
        left = i;
        right = omega (arith, j.0, j.1);
        holds = ap (f a) j.0 ∙ w.1;
        least_a = λ x y u v. below x y (omega (arith, u, l.0)) v;
        least_b = λ y u. (lowest_low n (f a)).below y (omega (arith, u, j.0));
      })

module _ (w : ℕ) (q starts ends r : List ℕ) where
  -- a cleared row, before the first
  pub collected_none : (k : ℕ) (l : List ℕ) → l ≡ replicate k 0 → (a : ℕ) → has l a ≡ some 0 (lacks w q starts ends r a)
  collected_none k l e a = ap (λ (m : List ℕ). has m a) e ∙ has_cleared k a ∙ sym (none-some 0 (lacks w q starts ends r a) (λ j h. absurd (omega arith)))

  -- one row more, of an event that may end a pair
  pub collected_more : (b : ℕ) (l m : List ℕ) → ((a : ℕ) → has l a ≡ some b (lacks w q starts ends r a)) → has ends b ≡ true
      → ((a : ℕ) → has m a ≡ has l a || (has (row_at q w b) a && (has starts a && not (has (row_at r w b) a))))
      → (a : ℕ) → has m a ≡ some (b + 1) (lacks w q starts ends r a)
  collected_more b l m i e j a =
      let one : b + 1 ≡ suc b = omega arith in
      j a
      ∙ ap₂ ◌||◌ (i a) (turned (related q w a b) (has starts a) (has ends b) (not (related r w a b)) e)
      ∙ sym (some_more b (lacks w q starts ends r a))
      ∙ ap (λ (k : ℕ). some k (lacks w q starts ends r a)) (sym one)
    where
      turned : (x s t y : Bool) → t ≡ true → x && (s && y) ≡ (s && (t && x)) && y
      turned true true t y f = sym (ap (λ (u : Bool). (u && true) && y) f)
      turned true false t y f = refl
      turned false true t y f = sym (ap (λ (u : Bool). u && y) (and-false t))
      turned false false t y f = refl

  -- or of another
  pub collected_skip : (b : ℕ) (l : List ℕ) → ((a : ℕ) → has l a ≡ some b (lacks w q starts ends r a)) → has ends b ≡ false → (a : ℕ) → has l a ≡ some (b + 1) (lacks w q starts ends r a)
  collected_skip b l i e a =
      let one : b + 1 ≡ suc b = omega arith in
      i a
      ∙ sym (or-false (some b (lacks w q starts ends r a)))
      ∙ ap (λ (t : Bool). some b (lacks w q starts ends r a) || t) (sym (none (has starts a) (has ends b) (related q w a b) (not (related r w a b)) e))
      ∙ sym (some_more b (lacks w q starts ends r a))
      ∙ ap (λ (k : ℕ). some k (lacks w q starts ends r a)) (sym one)
    where
      none : (s t x y : Bool) → t ≡ false → (s && (t && x)) && y ≡ false
      none s t x y f = rw (f, and-false s)

  -- what begins a pair is in starts, so that its lowest end is found without asking
  pub found_end : (n a : ℕ) → (lowest n (lacks w q starts ends r a) < n) × (lacks w q starts ends r a (lowest n (lacks w q starts ends r a)) ≡ true)
      → found n (outside (to (has ends) (related q w)) (related r w) a) ≡ found n (lacks w q starts ends r a)
  found_end n a e =
      let c = lowest n (lacks w q starts ends r a) in
      let s : has starts a ≡ true = and_left (has starts a) (has ends c && related q w a c) (and_left (has starts a && (has ends c && related q w a c)) (not (related r w a c)) e.1) in
      ap (if_below n) (same-lowest n _ (lacks w q starts ends r a) (λ k h. sym (ap (λ (t : Bool). (t && (has ends k && related q w a k)) && not (related r w a k)) s)))

-- ---- the lowest end, by words of the columns' difference

-- those before the next, and the next
next_of : (j : ℕ) (f : ℕ → Bool) (i : ℕ) → (ltb i j && f i) || (eqb j i && f j) ≡ ltb i (j + 1) && f i
next_of j f i =
    split (eqb j i)
    (λ e. let q : j ≡ i = eqb-true j i e in rw (← q, le-ltb j j (omega arith), eq-eqb j j refl, lt-ltb j (j + 1) (omega arith)))
    (λ e. rw (e, or-false (ltb i j && f i)) (ap (λ (t : Bool). t && f i) (same_test (ltb i j) (ltb i (j + 1))
    (λ t. lt-ltb i (j + 1) (omega (arith, ltb-true i j t)))
    (λ t. lt-ltb i j (omega (arith, ltb-true i (j + 1) t, eqb-false j i e))))))

-- the pairs from a that q has and r lacks
module _ (w : ℕ) (q r : List ℕ) (a : ℕ) (wide : a < 64 * w) where
  abbrev lacked : ℕ → Bool
  lacked = outside (related q w) (related r w) a

  -- one of them in the word of a's bit in row b
  lacked_bit : (b : ℕ) → get_or r (b * w + a / 64) 0 < 2 ^ 64 → lacked b ≡ bit_of (and_not (get_or q (b * w + a / 64) 0) (get_or r (b * w + a / 64) 0)) (a % 64)
  unfolding has
  lacked_bit b h =
      ap₂ (λ (s t : Bool). s && not t) (told q) (told r) ∙ sym (bit_minus 64 (get_or q (b * w + a / 64) 0) (get_or r (b * w + a / 64) 0) (a % 64) (omega arith) h)
    where
      told : (g : List ℕ) → related g w a b ≡ bit_of (get_or g (b * w + a / 64) 0) (a % 64)
      told g = ap (λ (x : ℕ). bit_of x (a % 64)) (get_d_row g w b (a / 64) (omega arith))

  -- one row more: its bit joins the word x
  pub word_more : (k j x : ℕ) → ((i : ℕ) → bit_of x i ≡ ltb i j && lacked (k * 64 + i)) → j < 64 → get_or r ((k * 64 + j) * w + a / 64) 0 < 2 ^ 64
      → (i : ℕ) → bit_of (bit_or x ((bit_and (and_not (get_or q ((k * 64 + j) * w + a / 64) 0) (get_or r ((k * 64 + j) * w + a / 64) 0) / 2 ^ (a % 64)) 1 * 2 ^ j) % 2 ^ 64)) i
      ≡ ltb i (j + 1) && lacked (k * 64 + i)
  word_more k j x told small fits i =
      let v = and_not (get_or q ((k * 64 + j) * w + a / 64) 0) (get_or r ((k * 64 + j) * w + a / 64) 0) in
      bit_or_lem x ((bit_and (v / 2 ^ (a % 64)) 1 * 2 ^ j) % 2 ^ 64) i
      ∙ ap₂ ◌||◌ (told i) (bit_moved 64 v (a % 64) j i small ∙ ap (λ (t : Bool). eqb j i && t) (sym (lacked_bit (k * 64 + j) fits)))
      ∙ next_of j (λ m. lacked (k * 64 + m)) i

  -- the word of the rows from 64 × k on, of those below n
  pub word_cut : (k n rows x : ℕ) → ((i : ℕ) → bit_of x i ≡ ltb i rows && lacked (k * 64 + i)) → rows ≡ min (n - k * 64) 64
      → (i : ℕ) → i < 64 → bit_of x i ≡ ltb (k * 64 + i) n && lacked (k * 64 + i)
  word_cut k n rows x told size i small =
      told i ∙ ap (λ (t : Bool). t && lacked (k * 64 + i)) (same_test (ltb i rows) (ltb (k * 64 + i) n)
      (λ e. lt-ltb (k * 64 + i) n (omega (arith, ltb-true i rows e)))
      (λ e. lt-ltb i rows (omega (arith, ltb-true (k * 64 + i) n e))))

-- the events of ends to which q has a pair from a that r lacks
module _ (n : ℕ) (ends : List ℕ) (q r : Rel) (a : ℕ) where
  abbrev ending : ℕ → Bool
  ending = outside (to (has ends) q) r a

  abbrev pub ending_below : ℕ → Bool
  ending_below b = ltb b n && ending b

  -- the words before the k-th have none, and y is the k-th, not yet cut to the members of ends
  module _ (k y : ℕ) (told : (j : ℕ) → j < 64 → bit_of y j ≡ ltb (k * 64 + j) n && outside q r a (k * 64 + j)) (none : (b : ℕ) → b < k * 64 → ending_below b ≡ false) where
    abbrev x : ℕ
    x = bit_and y (get_or ends k 0)

    held : (j : ℕ) → j < 64 → ending_below (k * 64 + j) ≡ bit_of x j
    held j h =
        sym (bit_and_lem y (get_or ends k 0) j ∙ ap₂ ◌&&◌ (told j h) (sym (has_word ends k j h))
        ∙ apart (ltb (k * 64 + j) n) (q a (k * 64 + j)) (not (r a (k * 64 + j))) (has ends (k * 64 + j)))
      where
        apart : (s t u v : Bool) → (s && (t && u)) && v ≡ s && ((v && t) && u)
        apart true t u true = and-true (t && u)
        apart true t u false = and-false (t && u)
        apart false t u v = refl

    pub end_none : x ≡ 0 → (b : ℕ) → b < (k + 1) * 64 → ending_below b ≡ false
    end_none = word_none ending_below k x held none

    pub end_found : (w : ℕ) → k < w → y < 2 ^ 64 → x ≢ 0 → Some (k * 64 + count_trailing_zeros 64 x) ≡ found n ending
    end_found w l fits ne =
        let b = k * 64 + count_trailing_zeros 64 x in
        let small : x < 2 ^ 64 = omega (arith, and_le_l y (get_or ends k 0)) in
        let found : b ≡ lowest (64 * w) ending_below = word_found ending_below k x held none w l small ne in
        let low = lowest_low (64 * w) ending_below in
        let hit : ending_below b ≡ true = ap ending_below found ∙ low.at (omega (arith, trailing_lt 64 x small ne)) in
        let inside : b < n = ltb-true b n (and_left (ltb b n) (ending b) hit) in
        let lowest-here : lowest n ending ≡ b = lowest_hit n ending b inside (λ i h. sym (ap (λ (s : Bool). s && ending i) (lt-ltb i n (omega arith))) ∙ low.below i (omega arith)) (and_right (ltb b n) (ending b) hit) in
        sym (ap (if_below n) lowest-here ∙ some-below n b inside)

  pub end_past : (k : ℕ) → n ≤ k * 64 → ((b : ℕ) → b < k * 64 → ending_below b ≡ false) → None ≡ found n ending
  end_past k past none = sym (none-below n (lowest n ending) (omega (arith, lowest-none n ending (λ b h. sym (ap (λ (s : Bool). s && ending b) (lt-ltb b n h)) ∙ none b (omega arith)))))

-- tables and rows that hold relations and sets lack what those lack
lacks-held : (n w : ℕ) (q starts ends r : List ℕ) (x y : Rel) (f g : ℕ → Bool) → Table n w x q → Table n w y r → Row n f starts → Row n g ends
    → Alike n (lacks w q starts ends r) (outside (from f (to g x)) y)
lacks-held n w q starts ends r x y f g i j s t a b h l =
    ap₂ (λ (u v : Bool). u && not v)
    (ap₂ ◌&&◌ (row_has n f starts s a h) (ap₂ ◌&&◌ (row_has n g ends t b l) (row_has n (λ (c : ℕ). x c b) (row_at q w b) (i b l) a h)))
    (row_has n (λ (c : ℕ). y c b) (row_at r w b) (j b l) a h)

-- so their first pair is that of the relations
pub lacks-first : (n w : ℕ) (q starts ends r : List ℕ) (x y : Rel) (f g : ℕ → Bool) → Table n w x q → Table n w y r → Row n f starts → Row n g ends
    → first n (lacks w q starts ends r) ≡ first n (outside (from f (to g x)) y)
lacks-first n w q starts ends r x y f g i j s t = first-same n (lacks w q starts ends r) (outside (from f (to g x)) y) (lacks-held n w q starts ends r x y f g i j s t)

-- the row of all events has each
pub every-whole : (n w : ℕ) (l g : List ℕ) → Groups n w l g → Whole true n (row_at g w 258)
every-whole n w l g i e b h = row_has n (λ x. true) (row_at g w 258) i.every b h
