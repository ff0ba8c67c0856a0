-- What a break means: the pairs that break a predicate in the paper's own words, the first of them, and the first predicate of a list that does not hold.
use Rattle.std.specs.Prelude.{◌≡◌, true, false, List, [], ◌∷◌, ℕ, ◌<◌}
use Rattle.rows.specs.Relation.{Rel}
use Rattle.record.specs.History.{History}
use Rattle.consistency.specs.Relations.{read}
use Rattle.consistency.specs.Reads.{candidate}
use Rattle.consistency.specs.Predicates.{Rule, last-value, ◌within◌, ◌fits◌, rule, numbered}
use Rattle.consistency.specs.Holds.{LastSeen, RightRead, Holds}

-- the last write on its object that a read sees, or the read itself where it sees none
pub data LastOrItself (h : History) (e : ℕ) : ℕ → Type 0 where
  none_seen : ((w : ℕ) → w < h.count → candidate h e w ≡ false) → LastOrItself h e e
  last-seen : {w : ℕ} → LastSeen h e w → LastOrItself h e w

-- 1: a returned read that holds something else, with that write or itself
pub record WrongRead (h : History) (e w : ℕ) : Type 0 where
  pub reads : read h e ≡ true
  pub returned : h.is_pending e ≡ false
  pub wrong : RightRead h e → ⊥
  pub with : LastOrItself h e w

-- 2 and 13: an event fits if its q pairs are its r pairs, or if it is pending and q relates it to nothing
pub data EventFits (h : History) (q r : Rel) (a : ℕ) : Type 0 where
  alike : ((b : ℕ) → b < h.count → q a b ≡ r a b) → EventFits h q r a
  unseen : h.is_pending a ≡ true → ((b : ℕ) → b < h.count → q a b ≡ false) → EventFits h q r a

-- an event that fits neither way, with one on which q and r differ for it
pub record Misplaced (h : History) (q r : Rel) (a b : ℕ) : Type 0 where
  pub neither : EventFits h q r a → ⊥
  pub differ : q a b ≡ r a b → ⊥

-- 3 to 12: a pair in the left side but not the right
pub record Outside (q r : Rel) (a b : ℕ) : Type 0 where
  pub left : q a b ≡ true
  pub right : r a b ≡ false

unfoldable pub Breaks : History → Rule → ℕ → ℕ → Type 0
Breaks h last-value a b = WrongRead h a b
Breaks h (q within r) a b = Outside q r a b
Breaks h (q fits r) a b = Misplaced h q r a b

-- (a, b) is the first pair that breaks predicate p: none has a lower a, and none this a and a lower b
pub record FirstBreak (p : ℕ) (h : History) (a b : ℕ) : Type 0 where
  pub left : a < h.count
  pub right : b < h.count
  pub breaks : Breaks h (rule (numbered p) h) a b
  pub least_a : (x y : ℕ) → x < a → y < h.count → Breaks h (rule (numbered p) h) x y → ⊥
  pub least_b : (y : ℕ) → y < b → Breaks h (rule (numbered p) h) a y → ⊥

-- each predicate of a list holds
abbrev pub AllHold : List ℕ → History → Type 0
AllHold [] h = Unit
AllHold (p ∷ ps) h = Holds (numbered p) h × AllHold ps h

-- p is the first of a list that does not hold
pub data FirstNot (h : History) : List ℕ → ℕ → Type 0 where
  here : {p : ℕ} {ps : List ℕ} → (Holds (numbered p) h → ⊥) → FirstNot h (p ∷ ps) p
  after : {q p : ℕ} {ps : List ℕ} → Holds (numbered q) h → FirstNot h ps p → FirstNot h (q ∷ ps) p
