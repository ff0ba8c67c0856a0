-- On any terms and for every list of calls causal visibility, causal arbitration and RVal hold of the store's record; and on terms that its record can
-- have it passes the questions asked of events. Assumes nothing.
use mathlib.Core.Path.{◌≡◌, sym, ap, ◌∙◌}
use mathlib.Core.Bool.{true, false, ◌&&◌, false≢true}
use mathlib.Core.List.{List}
use Prim.Native.Nat.{ℕ, ◌+◌, ◌*◌, ◌≤◌, ◌<◌}
use native.Mathlib.Omega.{arith}
use lib.Dec.{ltb, eqb}
use borrow.Author.Tests.{ltb-true, ltb-false, lt-ltb, eqb-true, eq-eqb, not-true}
use Rattle.rows.specs.Relation.{reaches, Steps, one, more}
use Rattle.rows.proofs.Tests.{split, never, or_elim, and_both, and_left, and_right}
use Rattle.rows.proofs.ReachLaws.{reaches-sound}
use Rattle.record.specs.Layout.{store_layout}
use Rattle.record.specs.Terms.{is_value, Terms}
use Rattle.record.specs.History.{History, under, vis}
use Rattle.record.proofs.OpeningLaws.{held_again, none-zero}
use Rattle.record.specs.WellFormed.{WellFormedEvent, WellFormedTerms, WellFormed}
use Rattle.consistency.specs.Relations.{ss, ob, so, ar, step, hb}
use Rattle.consistency.specs.Reads.{candidate}
use Rattle.consistency.specs.Predicates.{rule}
use Rattle.consistency.specs.Holds.{Within, LastSeen, RightRead, sees-none, sees-last, RightReads, Obeys, Holds}
use Rattle.consistency.specs.declared.Predicate.TheVariants.{RVal, CausalVisibility, CausalArbitration}
use Rattle.consistency.proofs.ClockLaws.{so-own}
use Rattle.store.specs.Store.{Store, fresh}
use Rattle.store.specs.Calls.{Call}
use Rattle.store.specs.Rules.{run}
use Rattle.store.specs.Recorded.{rank, recorded}
use Rattle.store.proofs.Invariant.{key, LastPut, ShowsLast, shows_opening, shows_put, StoreInv}
use Rattle.store.proofs.RunKeeps.{every-run}
use Rattle.store.proofs.Sizes.{Limits, every_limits, Values, AllFit, every_values}
use Rattle.store.proofs.RankLaws.{Small, rank_mono, rank_rises, rank_below, rank_key}

module _ (n : ℕ) (n≤8 : n ≤ 8) {T : Terms} (st : Store) (ok : StoreInv n T st.event st) where
  -- what its record says
  abbrev history : History
  history = under T (recorded st)

  small : Small st.event st.count
  small i h = omega (arith, (ok.events i h).site)

  -- ---- vis, so and ar

  pub vis_earlier : (a b : ℕ) → b < st.count → vis history a b ≡ true → a < b
  unfolding recorded vis
  vis_earlier a b h x = (ok.events b h).earlier a x

  pub vis_transitive : (a b c : ℕ) → c < st.count → vis history a b ≡ true → vis history b c ≡ true → vis history a c ≡ true
  unfolding recorded vis
  vis_transitive a b c h x y = (ok.events c h).transitive b a y x

  -- an event returns before a later one starts, so only a later event of its site follows it in so
  pub so-vis : Within st.count (so history) (vis history)
  unfolding recorded vis ss
  so-vis a b ha hb x =
      let y = sym (so-own history a b) ∙ x in
      let l = ltb-true (2 * a + 1) (2 * b) (and_left (ltb (2 * a + 1) (2 * b)) (eqb (st.event a).site (st.event b).site) y) in
      let s = eqb-true (st.event a).site (st.event b).site (and_right (ltb (2 * a + 1) (2 * b)) (eqb (st.event a).site (st.event b).site) y) in
      (ok.events b hb).session a (omega arith) s

  pub vis-ar : Within st.count (vis history) (ar history)
  unfolding recorded vis ar
  vis-ar a b ha hb x =
      lt-ltb (rank st.event st.count a) (rank st.event st.count b)
      (rank_rises st.event st.count a b small (small b hb) ha
      (omega (arith, small a ha, small b hb, (ok.events b hb).rises a x)))

  step-vis : Within st.count (step history) (vis history)
  unfolding step
  step-vis a b ha hb x = or_elim (so history a b) (vis history a b) x (λ y. so-vis a b ha hb y) (λ y. y)

  -- ---- steps

  steps-vis : {a b : ℕ} → Steps st.count (step history) a b → a < st.count → b < st.count → vis history a b ≡ true
  steps-vis (one {a} {b} x) ha hb = step-vis a b ha hb x
  steps-vis (more {a} {b} {c} x l r) ha hc = vis_transitive a b c hc (step-vis a b ha l x) (steps-vis r l hc)

  pub hb-vis : Within st.count (hb history) (vis history)
  unfolding hb recorded
  hb-vis a b ha hb x = steps-vis (reaches-sound st.count (step history) a b x) ha hb

  steps_rise : {a b : ℕ} → Steps st.count (vis history) a b → b < st.count → a < b
  steps_rise (one {a} {b} x) h = vis_earlier a b h x
  steps_rise (more {a} {b} {c} x l r) h = omega (arith, vis_earlier a b l x, steps_rise r h)

  pub no_ring : (e : ℕ) → e < st.count → reaches st.count (vis history) e e ≡ false
  no_ring e h =
      never (reaches st.count (vis history) e e)
      (λ x. omega (arith, steps_rise (reaches-sound st.count (vis history) e e x) h))

  -- ---- positions

  -- an earlier event of one site has a smaller stamp
  stamps_rise : (a b : ℕ) → b < st.count → a < b → (st.event a).site ≡ (st.event b).site → (st.event a).stamp < (st.event b).stamp
  stamps_rise a b h l s = (ok.events b h).rises a ((ok.events b h).session a l s)

  pub key_once : (a b : ℕ) → a < st.count → b < st.count → key (st.event a) ≡ key (st.event b) → a ≡ b
  key_once a b ha hb e =
      let sa : (st.event a).site < 8 = small a ha in
      let sb : (st.event b).site < 8 = small b hb in
      let stamps : (st.event a).stamp ≡ (st.event b).stamp = omega arith in
      let sites : (st.event a).site ≡ (st.event b).site = omega arith in
      split (ltb a b)
      (λ t. absurd (omega (arith, stamps_rise a b hb (ltb-true a b t) sites)))
      (λ t. split (ltb b a)
      (λ u. absurd (omega (arith, stamps_rise b a ha (ltb-true b a u) (sym sites))))
      (λ u. omega (arith, ltb-false a b t, ltb-false b a u)))

  pub positions-distinct : (a b : ℕ) → a < st.count → b < st.count → rank st.event st.count a ≡ rank st.event st.count b → a ≡ b
  positions-distinct a b ha hb e = key_once a b ha hb (rank_key st.event st.count a b small ha hb e)

  -- ---- reads

  module _ (e : ℕ) (e<m : e < st.count) where
    -- a candidate is a put on e's object that e sees
    candidate_of : (w : ℕ) → (st.event e).sees w ≡ true → (st.event w).is_put ≡ true → (st.event w).object ≡ (st.event e).object
        → candidate history e w ≡ true
    unfolding candidate recorded vis ob
    candidate_of w x i o =
        and_both ((st.event e).sees w) ((st.event w).is_put && eqb (st.event w).object (st.event e).object) x
        (and_both (st.event w).is_put (eqb (st.event w).object (st.event e).object) i
        (eq-eqb (st.event w).object (st.event e).object o))

    of_candidate : {C : Type 0} (w : ℕ) → candidate history e w ≡ true
        → ((st.event e).sees w ≡ true → (st.event w).is_put ≡ true → (st.event w).object ≡ (st.event e).object → C) → C
    unfolding candidate recorded vis ob
    of_candidate w x f =
        let y = and_right ((st.event e).sees w) ((st.event w).is_put && eqb (st.event w).object (st.event e).object) x in
        f (and_left ((st.event e).sees w) ((st.event w).is_put && eqb (st.event w).object (st.event e).object) x)
        (and_left (st.event w).is_put (eqb (st.event w).object (st.event e).object) y)
        (eqb-true (st.event w).object (st.event e).object
        (and_right (st.event w).is_put (eqb (st.event w).object (st.event e).object) y))

    last-seen : (p : ℕ) → LastPut st.event (st.event e).sees (st.event e).object p → LastSeen history e p
    unfolding recorded
    last-seen p b =
        let p<m : p < st.count = omega (arith, (ok.events e e<m).earlier p b.seen) in
        record {
          below = p<m;
          seen = candidate_of p b.seen b.is_put b.object;
          last = λ x h c.
              of_candidate x c
              (λ s i o. rank_mono st.event st.count x p small (small p p<m) (b.last x s i o));
        }

    right-read : ShowsLast T st.event (st.event e).sees (st.event e).object (st.event e).shown → RightRead history e
    unfolding recorded
    right-read (shows_opening no-put is) =
        sees-none (λ w l. never (candidate history e w) (λ c. of_candidate w c (no-put w))) (held_again (st.event e).shown ∙ sym is)
    right-read (shows_put {p} b is) =
        let p<m : p < st.count = omega (arith, (ok.events e e<m).earlier p b.seen) in
        sees-last (last-seen p b) (held_again (st.event e).shown ∙ sym is ∙ (ok.events p p<m).written b.is_put)

  pub right-reads : RightReads history
  unfolding recorded
  right-reads e l r p = right-read e l ((ok.events e l).found (not-true (st.event e).is_put r))

  -- ---- the three predicates

  pub causal-visibility : Holds CausalVisibility history
  unfolding Holds Obeys rule recorded
  causal-visibility = hb-vis

  pub causal-arbitration : Holds CausalArbitration history
  unfolding Holds Obeys rule recorded
  causal-arbitration a b ha hb x = vis-ar a b ha hb (hb-vis a b ha hb x)

  pub r_val_lem : Holds RVal history
  unfolding Holds Obeys rule
  r_val_lem = right-reads

  -- ---- what the questions ask

  module _ (terms : WellFormedTerms store_layout T) (limits : Limits st) (values : Values st) where
    event_formed : (e : ℕ) → e < st.count → WellFormedEvent n history e
    unfolding recorded
    event_formed e l = record {
      site = (ok.events e l).site;
      object = omega (arith, limits.object e l);
      value = values.event e l;
      absent = none-zero (st.event e).shown;
      written = λ i. ap is_value ((ok.events e l).written i);
      unread = λ i p. absurd (false≢true p);
      start = omega (arith, limits.count);
      return = omega (arith, limits.count);
      pending = λ p. absurd (false≢true p);
      returned = λ p. omega arith;
    }

    pub well_formed : 1 ≤ n → WellFormed store_layout n history
    unfolding recorded
    well_formed least = record {
      least = least;
      most = n≤8;
      count = limits.count;
      terms = terms;
      event = event_formed;
      position = λ e l. rank_below st.event st.count e small l;
      distinct = positions-distinct;
      inside = λ e b l x. omega (arith, (ok.events e l).earlier b x);
      not_itself = λ e l. never ((st.event e).sees e) (λ x. omega (arith, (ok.events e l).earlier e x));
      ringless = no_ring;
    }

-- ---- for all terms, and every list of calls

pub store_well_formed : (n : ℕ) → 1 ≤ n → n ≤ 8 → (T : Terms) → WellFormedTerms store_layout T → (cs : List Call) → AllFit cs
    → WellFormed store_layout n (under T (recorded (run n (fresh T) cs)))
store_well_formed n least n≤8 T terms cs f =
    well_formed n n≤8 (run n (fresh T) cs) (every-run n n≤8 T cs) terms (every_limits n T cs) (every_values n n≤8 T terms.value cs f) least

pub store-causal-visibility : (n : ℕ) → n ≤ 8 → (T : Terms) (cs : List Call) → Holds CausalVisibility (under T (recorded (run n (fresh T) cs)))
store-causal-visibility n n≤8 T cs = causal-visibility n n≤8 (run n (fresh T) cs) (every-run n n≤8 T cs)

pub store-causal-arbitration : (n : ℕ) → n ≤ 8 → (T : Terms) (cs : List Call) → Holds CausalArbitration (under T (recorded (run n (fresh T) cs)))
store-causal-arbitration n n≤8 T cs = causal-arbitration n n≤8 (run n (fresh T) cs) (every-run n n≤8 T cs)

pub store-r_val : (n : ℕ) → n ≤ 8 → (T : Terms) (cs : List Call) → Holds RVal (under T (recorded (run n (fresh T) cs)))
store-r_val n n≤8 T cs = r_val_lem n n≤8 (run n (fresh T) cs) (every-run n n≤8 T cs)
