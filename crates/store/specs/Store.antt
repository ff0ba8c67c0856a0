-- 'The store': what a site keeps, and what is kept of an event. Arrays are functions of a number.
use Rattle.std.specs.Prelude.{Bool, false, cond, ◌&&◌, ◌||◌, ℕ, eqb, ltb}
use Rattle.record.specs.Terms.{Held, none, value, Terms}

-- f with x at i
abbrev pub upd : {A : Type 0} → (ℕ → A) → ℕ → A → ℕ → A
upd f i x j = cond (eqb j i) x (f j)

-- a cell: the object's opening figure, or none, until a put comes; then value, stamp and site
pub data Cell : Type 0 where
  untouched : Held → Cell
  full : (v stamp site : ℕ) → Cell

abbrev pub cell_value : Cell → Held
cell_value (untouched x) = x
cell_value (full v stamp site) = value v

-- (stamp, site) before (stamp', site'), stamp compared first
abbrev pub before : ℕ → ℕ → ℕ → ℕ → Bool
before stamp site stamp' site' = ltb stamp stamp' || (eqb stamp stamp' && ltb site site')

-- the cell keeps the larger of (stamp, site); an opening loses to every put
abbrev pub merge : Cell → ℕ → ℕ → ℕ → Cell
merge (untouched x) v stamp site = full v stamp site
merge (full v₀ stamp₀ site₀) v stamp site = cond (before stamp₀ site₀ stamp site) (full v stamp site) (full v₀ stamp₀ site₀)

pub record Site : Type 0 where
  pub clock : ℕ
  -- held puts from each site
  pub held : ℕ → ℕ
  -- known events
  pub known : ℕ → Bool
  pub cell : ℕ → Cell

pub record Event : Type 0 where
  pub site : ℕ
  pub is_put : Bool
  pub object : ℕ
  -- the value that a put writes, or that a get finds
  pub shown : Held
  pub stamp : ℕ
  -- the events visible to it
  pub sees : ℕ → Bool
  -- its site's held counts just before it
  pub needs : ℕ → ℕ

pub record Store : Type 0 where
  -- done puts and gets are events 0, 1, .. in call order
  pub count : ℕ
  pub event : ℕ → Event
  pub site : ℕ → Site

-- all start at 0 or empty, and the cells with the openings
abbrev pub fresh_site : Terms → Site
fresh_site t = record { clock = 0; held = λ i. 0; known = λ e. false; cell = λ o. untouched (t.opening o) }

abbrev pub no_event : Event
no_event = record { site = 0; is_put = false; object = 0; shown = none; stamp = 0; sees = λ e. false; needs = λ i. 0 }

abbrev pub fresh : Terms → Store
fresh t = record { count = 0; event = λ e. no_event; site = λ s. fresh_site t }
