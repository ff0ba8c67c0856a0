-- Laws of rb's table: to each row are joined those that returned before the event's start less the difference. Assumes nothing.
use mathlib.Core.Path.{◌≡◌, refl, sym, ap, ap₂, ◌∙◌, subst}
use mathlib.Core.Bool.{Bool, true, false, ◌&&◌, ◌||◌, or_comm, or-false}
use mathlib.Core.List.{List, ◌++◌}
use Prim.Native.Nat.{ℕ, ◌+◌, ◌-◌, ◌*◌, ◌≤◌, ◌<◌}
use native.Mathlib.Nat.{add-mul}
use native.Mathlib.Omega.{arith}
use native.Mathlib.Decide.{ℕ_discrete}
use borrow.Author.Tests.{eq-eqb, ne_eqb}
use lib.Dec.{eqb, ltb}
use lib.ListN.{length, get_or, take, drop, replicate, length-replicate, length-append, length-take, length-drop}
use lib.Seq.{length-take-le, take_at, drop_at, drop-drop}
use Rattle.rows.specs.Row.{has, or_row, row_at, Row, RowPut}
use Rattle.rows.specs.Relation.{Rel, Table}
use Rattle.rows.proofs.LowestLaws.{some_of}
use Rattle.rows.proofs.RowLaws.{has-or, row_empty, row_same}
use Rattle.rows.proofs.TableLaws.{row_room, length-row, length-row_le}
use Rattle.record.specs.Terms.{Terms}
use Rattle.record.specs.History.{History, under, vis}
use Rattle.record.specs.Words.{start_in, history_from}
use Rattle.consistency.specs.Relations.{ob, rb, so, step, read, both, through}
use Rattle.consistency.proofs.ClockLaws.{rb-even, rb_far}
use Rattle.tables.specs.Tables.{part}
use Rattle.tables.specs.Sweep.{InOrder, taken, ReturnedBefore, returned_in, FarJoined, OneClock, Sweeps}
use Rattle.tables.proofs.LentLaws.{row_cut}
use Rattle.tables.proofs.PartLaws.{front-given, same-later}
use Rattle.tables.proofs.SweepLaws.{clock-front}
use Rattle.tables.proofs.TakenLaws.{Marks, marks_none, marks_more, taken_none, taken_more, taken-returned}

module _ (l : List ℕ) (n w d : ℕ) (starts returns : List ℕ) where
  -- a returned before b's start less the difference
  abbrev far_before : Rel
  far_before a b = returned_in l a (start_in l b - d)

  -- the rows of the first i starts are joined, and the first k returns are in the row `far`
  pub record Joining (t₀ : List ℕ) (k i : ℕ) (far t : List ℕ) : Type 0 where
    pub marks : Marks l starts returns d k i
    pub held : Row n (taken returns k) far
    pub wide : length far ≡ 8
    pub size : length t ≡ length t₀
    pub rows : (b : ℕ) → b < n → (x : ℕ) → has (row_at t w b) x ≡ has (row_at t₀ w b) x || (taken starts i b && (ltb x n && far_before x b))

  module _ (by-start : InOrder l n false starts (length starts)) (by-return : InOrder l n true returns (length returns)) (t₀ : List ℕ) where
    pub joining_none : Joining t₀ 0 0 (replicate 8 0) t₀
    joining_none = record {
      marks = marks_none l starts returns d;
      held = row_same n (λ x. false) (replicate 8 0) (row_empty n 8) (taken returns 0) (λ x h. sym (taken_none returns x));
      wide = length-replicate {A = ℕ} 8 0;
      size = refl;
      rows = λ b h x. sym (ap (λ (t : Bool). has (row_at t₀ w b) x || (t && (ltb x n && far_before x b))) (taken_none starts b) ∙ or-false (has (row_at t₀ w b) x));
    }

    module _ (k i : ℕ) (far t : List ℕ) (s : Joining t₀ k i far t) where
      pub joining_more : n ≤ 64 * w → length t₀ ≡ n * w → i < length starts → (x k' : ℕ) (far' t' : List ℕ) → x ≡ start_in l (get_or starts i 0) - d
          → ReturnedBefore l returns (length returns) x k' → Row n (taken returns k') far' → length far' ≡ length far
          → RowPut w (get_or starts i 0) (or_row (row_at t w (get_or starts i 0)) (row_at far' w 0)) t t'
          → Joining t₀ k' (i + 1) far' t'
      joining_more many full h x k' far' t' e b u same put = record {
        marks = marks_more l starts returns d k i s.marks h x e n k' by-start b;
        held = u;
        wide = same ∙ s.wide;
        size = put.size ∙ s.size;
        rows = rows;
      }
        where
          c : ℕ
          c = get_or starts i 0

          low : c < n
          low = (by-start.events i h).0

          -- the row that is joined
          joined : Row n (λ a. far_before a c) (row_at far' w 0)
          joined =
              row_cut n w (λ a. far_before a c) far' many
              (row_same n (taken returns k') far' u (λ a. far_before a c) (taken-returned l n returns (length returns) k' (start_in l c - d) by-return (rw e at b)))

          here_taken : taken starts (i + 1) c ≡ true
          here_taken = some_of (i + 1) (λ j. eqb (get_or starts j 0) c) i (omega arith) (eq-eqb c c refl)

          there_taken : (y : ℕ) → (y ≡ c → ⊥) → taken starts (i + 1) y ≡ taken starts i y
          there_taken y ne = sym (taken_more starts i y) ∙ ap (λ (r : Bool). r || taken starts i y) (ne_eqb c y (λ p. ne (sym p)))

          absorbed : (z p f : Bool) → (z || (p && f)) || f ≡ z || (true && f)
          absorbed true p f = refl
          absorbed false true true = refl
          absorbed false true false = refl
          absorbed false false f = refl

          rows : (y : ℕ) → y < n → (u : ℕ) → has (row_at t' w y) u ≡ has (row_at t₀ w y) u || (taken starts (i + 1) y && (ltb u n && far_before u y))
          rows y v u = elim (ℕ_discrete y c) [
            | yes p ↦ subst (λ (z : ℕ). has (row_at t' w z) u ≡ has (row_at t₀ w z) u || (taken starts (i + 1) z && (ltb u n && far_before u z))) (sym p)
                (ap (λ (r : List ℕ). has r u) put.same
                ∙ has-or (row_at t w c) (row_at far' w 0) u (omega (arith, length-row_le far' w 0, length-row t w c (row_room n w c (length t) low (omega (arith, s.size)))))
                ∙ ap₂ ◌||◌ (s.rows c low u) (joined u)
                ∙ absorbed (has (row_at t₀ w c) u) (taken starts i c) (ltb u n && far_before u c)
                ∙ ap (λ (r : Bool). has (row_at t₀ w c) u || (r && (ltb u n && far_before u c))) (sym here_taken))
            | no ne ↦ ap (λ (r : List ℕ). has r u) (put.other y ne) ∙ s.rows y v u
                ∙ ap (λ (r : Bool). has (row_at t₀ w y) u || (r && (ltb u n && far_before u y))) (sym (there_taken y ne))
          ]

      pub joining_all : length starts ≤ i → FarJoined n w d l t₀ t
      joining_all h = record {
        size = s.size;
        rows = λ b low x.
            let e = by-start.each b low refl in
            s.rows b low x
            ∙ ap (λ (r : Bool). has (row_at t₀ w b) x || (r && (ltb x n && far_before x b)))
            (some_of i (λ j. eqb (get_or starts j 0) b) e.0 (omega (arith, e.1)) (eq-eqb (get_or starts e.0 0) b e.2));
      }

-- where the table held a relation, it holds that or who returned before
pub far_table : (n w d : ℕ) (l old new : List ℕ) → FarJoined n w d l old new → (q : Rel) → Table n w q old → Table n w (λ a b. returned_in l a (start_in l b - d) || q a b) new
far_table n w d l old new far q table b low x =
    far.rows b low x ∙ ap (λ (t : Bool). t || (ltb x n && returned_in l x (start_in l b - d))) (table b low x)
    ∙ turned (ltb x n) (q x b) (returned_in l x (start_in l b - d))
  where
    turned : (t u v : Bool) → (t && u) || (t && v) ≡ t && (v || u)
    turned true u v = or_comm u v
    turned false u v = refl

-- ---- the first table joined, before the others

module _ (n w : ℕ) (t x : List ℕ) (long : length x ≡ n * w) where
  first_part : part n w 0 (x ++ drop (n * w) t) ≡ x
  first_part =
      let none : 0 * (n * w) ≡ 0 = omega arith in
      ap (λ (k : ℕ). take (n * w) (drop k (x ++ drop (n * w) t))) none ∙ take_at x (drop (n * w) t) (n * w) long

  later-part : (k : ℕ) → part n w (k + 1) (x ++ drop (n * w) t) ≡ part n w (k + 1) t
  later-part k =
      let on : (k + 1) * (n * w) ≡ n * w + k * (n * w) = omega (arith, add-mul k 1 (n * w)) in
      ap (λ (j : ℕ). take (n * w) (drop j (x ++ drop (n * w) t))) on
      ∙ ap (take (n * w)) (sym (drop-drop (k * (n * w)) (n * w) (x ++ drop (n * w) t)) ∙ ap (drop (k * (n * w))) (drop_at x (drop (n * w) t) (n * w) long) ∙ drop-drop (k * (n * w)) (n * w) t)
      ∙ ap (λ (j : ℕ). take (n * w) (drop j t)) (sym on)

-- ---- rb: where clocks don't differ, who returned before; else so, and who returned long enough before

rest_of : (n w : ℕ) (l : List ℕ) (h : History) (t t₂ : List ℕ) → ((k : ℕ) → part n w (k + 1) t₂ ≡ part n w (k + 1) t) → OneClock n w l h t → Table n w (rb h) (part n w 0 t₂) → Sweeps n w h t₂
rest_of n w l h t t₂ same own rbs = record {
  timed = record {
    rbs = rbs;
    sos = subst (Table n w (so h)) (sym (same 0)) own.sos;
    middles = subst (Table n w (through h (read h) (vis h) (so h))) (sym (same 1)) own.middles;
    objects = subst (Table n w (both (so h) (ob h))) (sym (same 2)) own.objects;
  };
  steps = subst (Table n w (step h)) (sym (same 3)) own.steps;
}

module _ (n w : ℕ) (l v : List ℕ) (q : Terms) where
  abbrev h : History
  h = under q (history_from n w l v)

  -- clocks don't differ
  even : (t : List ℕ) → q.difference ≡ 0 → OneClock n w l (under q (history_from n w l v)) t → Sweeps n w (under q (history_from n w l v)) t
  unfolding history_from
  even t e own = rest_of n w l h t t (λ k. refl) own
      (λ b i. row_same n (λ a. returned_in l a (start_in l b)) (row_at (part n w 0 t) w b) (own.firsts b i) (λ a. rb h a b) (λ a j. sym (rb-even h a b e)))

  -- they do: the first table is so, and x is what it becomes
  module _ (t : List ℕ) (own : OneClock n w l (under q (history_from n w l v)) t) (room : 2 * (n * w) ≤ length t) where
    abbrev again : List ℕ
    again = take (n * w) (drop (n * w) t) ++ drop (n * w) t

    again_long : length (take (n * w) (drop (n * w) t)) ≡ n * w
    again_long = length-take-le (n * w) (drop (n * w) t) (omega (arith, length-drop (n * w) t))

    again_size : length again ≡ length t
    again_size = omega (arith, length-append (take (n * w) (drop (n * w) t)) (drop (n * w) t), again_long, length-drop (n * w) t)

    module _ (x : List ℕ) (long : length x ≡ length (take (n * w) again))
        (join : (r : Rel) → Table n w r (take (n * w) again) → Table n w (λ a b. returned_in l a (start_in l b - q.difference) || r a b) x) where
      full : length x ≡ n * w
      full = omega (arith, long, length-take (n * w) again, again_size)

      lent-so : take (n * w) again ≡ part n w 1 t
      lent-so =
          let one : n * w ≡ 1 * (n * w) = omega arith in
          take_at (take (n * w) (drop (n * w) t)) (drop (n * w) t) (n * w) again_long ∙ ap (λ (k : ℕ). take (n * w) (drop k t)) one

      rb-table : Table n w (rb (under q (history_from n w l v))) x
      unfolding history_from
      rb-table b i =
          row_same n (λ a. returned_in l a (start_in l b - q.difference) || so h a b) (row_at x w b)
          (join (so h) (subst (Table n w (so h)) (sym lent-so) own.sos) b i) (λ a. rb h a b) (λ a j. sym (rb_far h a b))

      apart : Sweeps n w (under q (history_from n w l v)) (x ++ drop (n * w) again)
      apart =
          rest_of n w l h t (x ++ drop (n * w) again)
          (λ k. later-part n w again x full k ∙ later-part n w t (take (n * w) (drop (n * w) t)) again_long k) own
          (subst (Table n w (rb h)) (sym (first_part n w again x full)) rb-table)

-- ---- as code does it: of the words t the first 5 × (n × w) are lent, and f given back

module _ (n w : ℕ) (l v : List ℕ) (q : Terms) (t f : List ℕ) (room : 5 * (n * w) ≤ length t) (e : length f ≡ length (take (5 * (n * w)) t))
    (own : OneClock n w l (under q (history_from n w l v)) f) where
  abbrev t₁ : List ℕ
  t₁ = f ++ drop (5 * (n * w)) t

  whole : OneClock n w l (under q (history_from n w l v)) t₁
  whole = clock-front n w l (under q (history_from n w l v)) f (drop (5 * (n * w)) t) (front-given (5 * (n * w)) t f room e).0 own

  pub filled_size : length (f ++ drop (5 * (n * w)) t) ≡ length t
  filled_size = (front-given (5 * (n * w)) t f room e).1

  filled_rest : drop (5 * (n * w)) t₁ ≡ drop (5 * (n * w)) t
  filled_rest = (front-given (5 * (n * w)) t f room e).2

  pub tables-even : q.difference ≡ 0
      → Sweeps n w (under q (history_from n w l v)) (f ++ drop (5 * (n * w)) t) × (length (f ++ drop (5 * (n * w)) t) ≡ length t)
      × (drop (5 * (n * w)) (f ++ drop (5 * (n * w)) t) ≡ drop (5 * (n * w)) t)
  tables-even z = (even n w l v q t₁ z whole, filled_size, filled_rest)

  module _ (t₂ : List ℕ) (put : t₂ ≡ take (n * w) (drop (n * w) (f ++ drop (5 * (n * w)) t)) ++ drop (n * w) (f ++ drop (5 * (n * w)) t)) where
    again_room : 2 * (n * w) ≤ length t₁
    again_room = omega (arith, filled_size)

    pub lent-size : length t₂ ≡ length t
    lent-size = ap length put ∙ again_size n w l v q t₁ whole again_room ∙ filled_size

    pub tables_joined : (x : List ℕ) → length x ≡ length (take (n * w) t₂)
        → ((r : Rel) → Table n w r (take (n * w) t₂) → Table n w (λ a b. returned_in l a (start_in l b - q.difference) || r a b) x)
        → Sweeps n w (under q (history_from n w l v)) (x ++ drop (n * w) t₂) × (length (x ++ drop (n * w) t₂) ≡ length t)
        × (drop (5 * (n * w)) (x ++ drop (n * w) t₂) ≡ drop (5 * (n * w)) t)
    tables_joined x long join =
        let g = front-given (n * w) t₂ x (omega (arith, lent-size)) long in
        let kept : drop (n * w) t₂ ≡ drop (n * w) t₁ = ap (drop (n * w)) put ∙ drop_at (take (n * w) (drop (n * w) t₁)) (drop (n * w) t₁) (n * w) (again_long n w l v q t₁ whole again_room) in (
          subst (λ (y : List ℕ). Sweeps n w (under q (history_from n w l v)) (x ++ drop (n * w) y)) (sym put)
              (apart n w l v q t₁ whole again_room x (subst (λ (y : List ℕ). length x ≡ length (take (n * w) y)) put long)
              (subst (λ (y : List ℕ). (r : Rel) → Table n w r (take (n * w) y) → Table n w (λ a b. returned_in l a (start_in l b - q.difference) || r a b) x) put join)),
          g.1 ∙ lent-size,
          same-later (n * w) (5 * (n * w)) (x ++ drop (n * w) t₂) t₁ (omega arith) (g.2 ∙ kept) ∙ filled_rest,
        )
