-- The store's invariant, on the terms T that the store starts from. It speaks of one table F of events, that of the store in the end, which no call
-- changes. Assumes nothing.
use mathlib.Core.Path.{◌≡◌, refl}
use mathlib.Core.Logic.{◌⊎◌, inl, inr}
use mathlib.Core.Bool.{Bool, true, false, ◌&&◌, ◌||◌, cond, true≢false}
use Prim.Native.Nat.{ℕ, suc, ◌+◌, ◌*◌, ◌≤◌, ◌<◌}
use native.Mathlib.Omega.{arith}
use native.Mathlib.Nat.{le_refl}
use lib.Dec.{ltb, eqb}
use borrow.Author.Tests.{ltb-true, ltb-false, eqb-true, eqb-false}
use Rattle.rows.proofs.Tests.{or_elim, and_left, and_right}
use Rattle.record.specs.Terms.{Held, value, value_or0, Terms}
use Rattle.store.specs.Store.{upd, Cell, untouched, full, cell_value, before, merge, Site, Event, Store}
use Rattle.store.proofs.UpdateLaws.{upd_elim}

abbrev pub Table : Type 0
Table = ℕ → Event

-- (stamp, site) as one number: sites are below 8
abbrev pub key : Event → ℕ
key e = 8 * e.stamp + e.site

-- a put's place among its site's puts
abbrev pub place : Event → ℕ
place e = e.needs e.site

-- the puts that each site made: it holds all of its own
abbrev pub totals : (ℕ → Site) → ℕ → ℕ
totals S i = (S i).held i

-- no put on object o in the set K
abbrev pub NoPut : Table → (ℕ → Bool) → ℕ → Type 0
NoPut F K o = (q : ℕ) → K q ≡ true → (F q).is_put ≡ true → (F q).object ≡ o → ⊥

-- p is the last put on object o in the set K
pub record LastPut (F : Table) (K : ℕ → Bool) (o p : ℕ) : Type 0 where
  pub seen : K p ≡ true
  pub is_put : (F p).is_put ≡ true
  pub object : (F p).object ≡ o
  pub last : (q : ℕ) → K q ≡ true → (F q).is_put ≡ true → (F q).object ≡ o → key (F q) ≤ key (F p)

-- a cell of object o that holds the last put in K, or the opening figure where there is none
abbrev pub HoldsLast : Terms → Table → (ℕ → Bool) → ℕ → Cell → Type 0
HoldsLast T F K o (untouched x) = NoPut F K o × (T.opening o ≡ x)
HoldsLast T F K o (full v stamp site) = (p : ℕ) × LastPut F K o p × ((F p).shown ≡ value v) × ((F p).stamp ≡ stamp) × ((F p).site ≡ site)

-- what a get on object o shows that sees K: the opening figure may be a value too, so the value shown does not tell which it is
pub data ShowsLast (T : Terms) (F : Table) (K : ℕ → Bool) (o : ℕ) (x : Held) : Type 0 where
  shows_opening : NoPut F K o → T.opening o ≡ x → ShowsLast T F K o x
  shows_put : {p : ℕ} → LastPut F K o p → (F p).shown ≡ x → ShowsLast T F K o x

-- the put of site i with place p is in the set K
pub record CountedPut (F : Table) (K : ℕ → Bool) (i p : ℕ) : Type 0 where
  pub put : ℕ
  pub seen : K put ≡ true
  pub is_put : (F put).is_put ≡ true
  pub site : (F put).site ≡ i
  pub place : place (F put) ≡ p

-- of event e, where the sites have made so many puts each
pub record EventInv (n : ℕ) (T : Terms) (F : Table) (made : ℕ → ℕ) (e : ℕ) : Type 0 where
  pub site : (F e).site < n
  pub earlier : (f : ℕ) → (F e).sees f ≡ true → f < e
  pub transitive : (f g : ℕ) → (F e).sees f ≡ true → (F f).sees g ≡ true → (F e).sees g ≡ true
  pub session : (f : ℕ) → f < e → (F f).site ≡ (F e).site → (F e).sees f ≡ true
  pub rises : (f : ℕ) → (F e).sees f ≡ true → (F f).stamp < (F e).stamp
  pub stamp : (F e).stamp ≤ suc e
  -- needs count the puts that it sees, and it sees every put that they count
  pub needs : (f : ℕ) → (F e).sees f ≡ true → (F f).is_put ≡ true → place (F f) < (F e).needs (F f).site
  pub counted : (i p : ℕ) → p < (F e).needs i → CountedPut F (F e).sees i p
  pub needs_made : (i : ℕ) → (F e).needs i ≤ made i
  pub place_made : (F e).is_put ≡ true → place (F e) < made (F e).site
  pub written : (F e).is_put ≡ true → (F e).shown ≡ value (value_or0 (F e).shown)
  pub found : (F e).is_put ≡ false → ShowsLast T F (F e).sees (F e).object (F e).shown

-- of site s, kept as a, after m events
pub record SiteInv (T : Terms) (F : Table) (m : ℕ) (made : ℕ → ℕ) (s : ℕ) (a : Site) : Type 0 where
  pub below : (e : ℕ) → a.known e ≡ true → e < m
  pub closed : (e f : ℕ) → a.known e ≡ true → (F e).sees f ≡ true → a.known f ≡ true
  pub own : (e : ℕ) → e < m → (F e).site ≡ s → a.known e ≡ true
  pub clock : (e : ℕ) → a.known e ≡ true → (F e).stamp ≤ a.clock
  pub clock_few : a.clock ≤ m
  -- of each site's puts, the first `held` are known and no others
  pub known_held : (e : ℕ) → a.known e ≡ true → (F e).is_put ≡ true → place (F e) < a.held (F e).site
  pub held_known : (e : ℕ) → e < m → (F e).is_put ≡ true → place (F e) < a.held (F e).site → a.known e ≡ true
  pub counted : (i p : ℕ) → p < a.held i → CountedPut F a.known i p
  pub held_made : (i : ℕ) → a.held i ≤ made i
  pub cell : (o : ℕ) → HoldsLast T F a.known o (a.cell o)

pub record StoreInv (n : ℕ) (T : Terms) (F : Table) (st : Store) : Type 0 where
  pub events : (e : ℕ) → e < st.count → EventInv n T F (totals st.site) e
  pub sites : (s : ℕ) → SiteInv T F st.count (totals st.site) s (st.site s)
  pub few : (i : ℕ) → totals st.site i ≤ st.count

-- ---- more puts made

pub totals_more : (S : ℕ → Site) (s : ℕ) (b : Site) → ((i : ℕ) → (S s).held i ≤ b.held i) → (i : ℕ) → totals S i ≤ totals (upd S s b) i
totals_more S s b h i = upd_elim (λ (x : Site). (S i).held i ≤ x.held i) S s b i (λ q. rw q (h s)) (λ q. le_refl _)

pub event-more : {n : ℕ} {T : Terms} {F : Table} {made made' : ℕ → ℕ} {e : ℕ} → ((i : ℕ) → made i ≤ made' i) → EventInv n T F made e → EventInv n T F made' e
event-more {n} {T} {F} {made} {made'} {e} up h = record {
  site = h.site;
  earlier = h.earlier;
  transitive = h.transitive;
  session = h.session;
  rises = h.rises;
  stamp = h.stamp;
  needs = h.needs;
  counted = h.counted;
  needs_made = λ i. omega (arith, h.needs_made i, up i);
  place_made = λ p. omega (arith, h.place_made p, up (F e).site);
  written = h.written;
  found = h.found;
}

pub site-more : {T : Terms} {F : Table} {m : ℕ} {made made' : ℕ → ℕ} {s : ℕ} {a : Site} → ((i : ℕ) → made i ≤ made' i) → SiteInv T F m made s a → SiteInv T F m made' s a
site-more up h = record {
  below = h.below;
  closed = h.closed;
  own = h.own;
  clock = h.clock;
  clock_few = h.clock_few;
  known_held = h.known_held;
  held_known = h.held_known;
  counted = h.counted;
  held_made = λ i. omega (arith, h.held_made i, up i);
  cell = h.cell;
}

-- ---- more events known

pub counted-more : {F : Table} {K L : ℕ → Bool} {i p : ℕ} → ((q : ℕ) → K q ≡ true → L q ≡ true) → CountedPut F K i p → CountedPut F L i p
counted-more up c = record { put = c.put; seen = up c.put c.seen; is_put = c.is_put; site = c.site; place = c.place }

-- ---- the order of (stamp, site), as keys

pub before_key : (t s t' s' : ℕ) → s < 8 → before t s t' s' ≡ true → 8 * t + s < 8 * t' + s'
before_key t s t' s' h e =
    or_elim (ltb t t') (eqb t t' && ltb s s') e
    (λ a. omega (arith, ltb-true t t' a))
    (λ a. omega (arith, eqb-true t t' (and_left (eqb t t') (ltb s s') a), ltb-true s s' (and_right (eqb t t') (ltb s s') a)))

pub not-before_key : (t s t' s' : ℕ) → s' < 8 → before t s t' s' ≡ false → 8 * t' + s' ≤ 8 * t + s
not-before_key t s t' s' h e = go (ltb t t') (eqb t t') refl refl e
  where
    go : (x y : Bool) → ltb t t' ≡ x → eqb t t' ≡ y → (x || (y && ltb s s')) ≡ false → 8 * t' + s' ≤ 8 * t + s
    go true y p q r = absurd (true≢false r)
    go false true p q r = omega (arith, eqb-true t t' q, ltb-false s s' r)
    go false false p q r = let d : t ≡ t' → ⊥ = eqb-false t t' q in omega (arith, ltb-false t t' p)

-- ---- cells

-- a cell that is right for K is right for a larger set with the same puts on its object
pub holds_more : (T : Terms) (F : Table) (K L : ℕ → Bool) (o : ℕ) (c : Cell)
    → ((q : ℕ) → K q ≡ true → L q ≡ true)
    → ((q : ℕ) → L q ≡ true → (F q).is_put ≡ true → (F q).object ≡ o → K q ≡ true)
    → HoldsLast T F K o c → HoldsLast T F L o c
holds_more T F K L o (untouched x) up down h = ((λ q w i b. h.0 q (down q w i b) i b), h.1)
holds_more T F K L o (full v stamp site) up down h = (
  h.0,
  record {
    seen = up h.0 h.1.seen;
    is_put = h.1.is_put;
    object = h.1.object;
    last = λ q w i b. h.1.last q (down q w i b) i b;
  },
  h.2,
  h.3,
  h.4,
)

pub holds_shows : (T : Terms) (F : Table) (K : ℕ → Bool) (o : ℕ) (c : Cell) → HoldsLast T F K o c → ShowsLast T F K o (cell_value c)
holds_shows T F K o (untouched x) h = shows_opening h.0 h.1
holds_shows T F K o (full v stamp site) h = shows_put h.1 h.2

-- the cell after one put w came to the set
pub holds_merged : (T : Terms) (F : Table) (K L : ℕ → Bool) (o w v : ℕ) (c : Cell)
    → ((q : ℕ) → L q ≡ true → (F q).site < 8)
    → L w ≡ true → (F w).is_put ≡ true → (F w).object ≡ o → (F w).shown ≡ value v
    → ((q : ℕ) → K q ≡ true → L q ≡ true)
    → ((q : ℕ) → L q ≡ true → (F q).is_put ≡ true → (q ≡ w) ⊎ (K q ≡ true))
    → HoldsLast T F K o c → HoldsLast T F L o (merge c v (F w).stamp (F w).site)
holds_merged T F K L o w v (untouched x) small seen put object shown up came h = (
  w,
  record {
    seen = seen;
    is_put = put;
    object = object;
    last = λ q z i b. elim (came q z i) [ inl y ↦ rw y (le_refl _) | inr y ↦ absurd (h.0 q y i b) ];
  },
  shown,
  refl,
  refl,
)
holds_merged T F K L o w v (full v₀ stamp site) small seen put object shown up came h = go (before stamp site (F w).stamp (F w).site) refl
  where
    p : ℕ
    p = h.0

    key_p : key (F p) ≡ 8 * stamp + site
    key_p = rw (h.3, h.4)

    go : (t : Bool) → before stamp site (F w).stamp (F w).site ≡ t
        → HoldsLast T F L o (cond t (full v (F w).stamp (F w).site) (full v₀ stamp site))
    go true e =
        let small-p : site < 8 = rw h.4 at (small p (up p h.1.seen)) in
        let less : 8 * stamp + site < key (F w) = before_key stamp site (F w).stamp (F w).site small-p e in (
          w,
          record {
            seen = seen;
            is_put = put;
            object = object;
            last = λ q x i b. elim (came q x i) [ inl y ↦ rw y (le_refl _) | inr y ↦ omega (arith, h.1.last q y i b, key_p) ];
          },
          shown,
          refl,
          refl,
        )
    go false e =
        let most : key (F w) ≤ 8 * stamp + site = not-before_key stamp site (F w).stamp (F w).site (small w seen) e in (
          p,
          record {
            seen = up p h.1.seen;
            is_put = h.1.is_put;
            object = h.1.object;
            last = λ q x i b. elim (came q x i) [ inl y ↦ rw y (omega (arith, key_p)) | inr y ↦ h.1.last q y i b ];
          },
          h.2,
          h.3,
          h.4,
        )
