-- What a record says: its events, as functions of an event's number, who sees whom, and its terms.
use Rattle.std.specs.Prelude.{◌≡◌, Bool, false, ◌&&◌, List, ℕ, ◌+◌, ◌*◌, ◌<◌, eqb, ltb}
use Rattle.rows.specs.Octets.{little, has_byte}
use Rattle.rows.specs.Relation.{Rel}
use Rattle.record.specs.Layout.{Layout, byte, count_in, slot_at}
use Rattle.record.specs.Terms.{Terms, terms_in, SameTerms}

pub record History : Type 0 where
  pub count : ℕ
  pub is_write : ℕ → Bool
  pub site : ℕ → ℕ
  pub object : ℕ → ℕ
  pub is_pending : ℕ → Bool
  pub is_present : ℕ → Bool
  pub value : ℕ → ℕ
  -- the place in arbitration, ar
  pub position : ℕ → ℕ
  pub start : ℕ → ℕ
  -- what stands in the return's field; a pending event has no return, and no relation looks at its field
  pub return : ℕ → ℕ
  -- sees e b: b is visible to e
  pub sees : ℕ → ℕ → Bool
  -- what block 0 says beside count and sites
  pub terms : Terms

-- what the bytes of a record say
unfoldable pub history_of : Layout → List ℕ → History
history_of L s = record {
  count = count_in s;
  is_write = λ e. eqb (byte s (slot_at L e)) 1;
  site = λ e. byte s (slot_at L e + 1);
  object = λ e. byte s (slot_at L e + 2);
  is_pending = λ e. eqb (byte s (slot_at L e + 3)) 1;
  is_present = λ e. eqb (byte s (slot_at L e + 8)) 1;
  value = λ e. little 4 s (slot_at L e + 4);
  position = λ e. little 2 s (slot_at L e + 10);
  start = λ e. little 8 s (slot_at L e + 16);
  return = λ e. little 8 s (slot_at L e + 24);
  sees = λ e b. ltb b (64 * L.row) && has_byte s (slot_at L e + 32) b;
  terms = terms_in L s;
}

-- the events of h, on other terms
abbrev pub under : Terms → History → History
under t h = record {
  count = h.count;
  is_write = h.is_write;
  site = h.site;
  object = h.object;
  is_pending = h.is_pending;
  is_present = h.is_present;
  value = h.value;
  position = h.position;
  start = h.start;
  return = h.return;
  sees = h.sees;
  terms = t;
}

-- vis: a is visible to b
unfoldable pub vis : History → Rel
vis h a b = h.sees b a

-- two histories say the same of their events; of a return, where there is one
pub record SameEvents (h k : History) : Type 0 where
  pub count : h.count ≡ k.count
  pub is_write : (e : ℕ) → e < h.count → h.is_write e ≡ k.is_write e
  pub site : (e : ℕ) → e < h.count → h.site e ≡ k.site e
  pub object : (e : ℕ) → e < h.count → h.object e ≡ k.object e
  pub is_pending : (e : ℕ) → e < h.count → h.is_pending e ≡ k.is_pending e
  pub is_present : (e : ℕ) → e < h.count → h.is_present e ≡ k.is_present e
  pub value : (e : ℕ) → e < h.count → h.value e ≡ k.value e
  pub position : (e : ℕ) → e < h.count → h.position e ≡ k.position e
  pub start : (e : ℕ) → e < h.count → h.start e ≡ k.start e
  pub return : (e : ℕ) → e < h.count → h.is_pending e ≡ false → h.return e ≡ k.return e
  pub sees : (e b : ℕ) → e < h.count → b < h.count → h.sees e b ≡ k.sees e b

-- they say the same of all: of their events, in the return's field also where there is no return, and of their terms
pub record Agree (h k : History) : Type 0 where
  pub events : SameEvents h k
  pub return : (e : ℕ) → e < h.count → h.return e ≡ k.return e
  pub terms : SameTerms h.terms k.terms
