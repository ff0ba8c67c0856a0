-- What a get finds at a site that knows no put of its object: the object's opening figure, or none, after any list of calls. Assumes nothing.
use mathlib.Core.Path.{◌≡◌, sym, ap}
use mathlib.Core.Bool.{Bool}
use mathlib.Core.List.{List, ◌∷◌, ◌++◌}
use Prim.Native.Nat.{ℕ, ◌≤◌}
use Rattle.record.specs.Terms.{Held, value_or0, Terms}
use Rattle.record.specs.Encode.{little_bytes}
use Rattle.store.specs.Store.{Cell, untouched, full, cell_value, Store, fresh}
use Rattle.store.specs.Calls.{Call, get}
use Rattle.store.specs.Rules.{run, is_found, done_answer}
use Rattle.store.proofs.Invariant.{Table, NoPut, HoldsLast}
use Rattle.store.proofs.RunKeeps.{every-run}

-- a cell whose site knows no put of its object
unwritten : (T : Terms) (F : Table) (K : ℕ → Bool) (o : ℕ) (c : Cell) → HoldsLast T F K o c → NoPut F K o → cell_value c ≡ T.opening o
unwritten T F K o (untouched x) h so = sym h.1
unwritten T F K o (full v stamp site) h so = absurd (so h.0 h.1.seen h.1.is_put h.1.object)

module _ (n : ℕ) (n≤8 : n ≤ 8) (T : Terms) (cs : List Call) (s o : ℕ) where
  abbrev st : Store
  st = run n (fresh T) cs

  pub every-opening : NoPut (run n (fresh T) cs).event ((run n (fresh T) cs).site s).known o → cell_value (((run n (fresh T) cs).site s).cell o) ≡ T.opening o
  every-opening = unwritten T st.event (st.site s).known o ((st.site s).cell o) (((every-run n n≤8 T cs).sites s).cell o)

  -- the answer of such a get, where it is not refused: found where the object has an opening, the event, and the figure
  pub opening-answered : NoPut (run n (fresh T) cs).event ((run n (fresh T) cs).site s).known o
      → done_answer n (run n (fresh T) cs) (get s o) ≡ 0 ∷ is_found (T.opening o) ∷ (little_bytes 2 (run n (fresh T) cs).count ++ little_bytes 4 (value_or0 (T.opening o)))
  unfolding done_answer
  opening-answered so = ap (λ (x : Held). 0 ∷ is_found x ∷ (little_bytes 2 st.count ++ little_bytes 4 (value_or0 x))) (every-opening so)
