-- A record that passes, moved to an edition in which it can stand: it passes there and says the same, and moved back it is the original. Assumes nothing.
use mathlib.Core.Path.{◌≡◌, refl, sym, ap, ◌∙◌}
use mathlib.Core.Bool.{Bool, true, false, not, ◌||◌}
use mathlib.Core.List.{List}
use Prim.Native.Nat.{ℕ, ◌≤◌}
use native.Mathlib.Omega.{arith}
use native.Mathlib.Decide.{dec_lt}
use borrow.Author.Tests.{eq-eqb, eqb-true, le-leb, leb-true, not-true}
use lib.Dec.{eqb, leb}
use Rattle.rows.specs.Lowest.{some}
use Rattle.rows.proofs.Tests.{split, and_both, and_left, and_right, or_left, or_right, not_of}
use Rattle.rows.proofs.LowestLaws.{some-none, none-some}
use Rattle.record.specs.Layout.{Layout, sites_in}
use Rattle.record.specs.Terms.{Held, none, value, is_value}
use Rattle.record.specs.History.{History, history_of, Agree}
use Rattle.record.specs.Answers.{Passes}
use Rattle.record.specs.WellFormed.{WellFormed}
use Rattle.record.specs.Encode.{record_bytes}
use Rattle.record.specs.Converted.{says_none, can_stand, StandsIn, converted}
use Rattle.record.proofs.StoresLaws.{Bytes}
use Rattle.record.proofs.SoundLayout.{Sound}
use Rattle.record.proofs.SaidAgain.{again}
use Rattle.record.proofs.EncodedPasses.{Encoded, encoded}
use Rattle.record.proofs.QuestionsAnswered.{passed-right}
use Rattle.record.proofs.PassedWellFormed.{laid_out, passes_well_formed}
use Rattle.record.proofs.RecordSame.{record_same}

-- ---- what can stand in an edition

is_none : (x : Held) → is_value x ≡ false → x ≡ none
is_none none e = refl
is_none (value v) e = cc

module _ (L : Layout) (h : History) where
  pub says_none_lem : (above : (o : ℕ) → 32 ≤ o → h.terms.opening o ≡ none) → says_none h.terms ≡ true → (h.terms.difference ≡ 0) × ((o : ℕ) → h.terms.opening o ≡ none)
  says_none_lem above t =
      let f : ℕ → Bool = λ o. is_value (h.terms.opening o) in
      let d : Bool = eqb h.terms.difference 0 in (
        eqb-true h.terms.difference 0 (and_left d (not (some 32 f)) t),
        λ o. elim (dec_lt o 32) [
          | yes l ↦ is_none (h.terms.opening o) (some-none 32 f (not-true (some 32 f) (and_right d (not (some 32 f)) t)) o l)
          | no g ↦ above o (omega arith)
        ],
      )

  -- the test tells
  pub can_stand_lem : ((o : ℕ) → 32 ≤ o → h.terms.opening o ≡ none) → can_stand L h ≡ true → StandsIn L h
  unfolding can_stand
  can_stand_lem above t =
      let fits : Bool = leb h.count L.events in
      let bare : L.terms ≡ false → says_none h.terms ≡ true = λ e. rw e at (and_right fits (L.terms || says_none h.terms) t) in
      record {
        count = leb-true h.count L.events (and_left fits (L.terms || says_none h.terms) t);
        even = λ e. (says_none_lem above (bare e)).0;
        lacking = λ e. (says_none_lem above (bare e)).1;
      }

  pub stands_can : StandsIn L h → can_stand L h ≡ true
  unfolding can_stand
  stands_can so =
      and_both (leb h.count L.events) (L.terms || says_none h.terms)
      (le-leb h.count L.events so.count)
      (split L.terms (λ e. or_left L.terms (says_none h.terms) e) (λ e. or_right L.terms (says_none h.terms)
      (and_both (eqb h.terms.difference 0) (not (some 32 (λ o. is_value (h.terms.opening o))))
      (eq-eqb h.terms.difference 0 (so.even e))
      (not_of (some 32 (λ o. is_value (h.terms.opening o))) (none-some 32 (λ o. is_value (h.terms.opening o)) (λ o l. ap is_value (so.lacking e o)))))))

-- what is well formed in one edition is in each where it can stand
pub stands_well_formed : (L M : Layout) (sites : ℕ) (h : History) → WellFormed L sites h → StandsIn M h → WellFormed M sites h
stands_well_formed L M sites h good so = record {
  least = good.least;
  most = good.most;
  count = so.count;
  terms = record {
    even = so.even;
    difference = good.terms.difference;
    lacking = so.lacking;
    above = good.terms.above;
    value = good.terms.value;
  };
  event = good.event;
  position = good.position;
  distinct = good.distinct;
  inside = good.inside;
  not_itself = good.not_itself;
  ringless = good.ringless;
}

-- and in no other
pub well_formed_stands : (M : Layout) (sites : ℕ) (h : History) → WellFormed M sites h → StandsIn M h
well_formed_stands M sites h good = record { count = good.count; even = good.terms.even; lacking = good.terms.lacking }

-- in a later edition, which has room for as many events and lacks no terms that the earlier has, all can stand
pub later-stands : (L M : Layout) (sites : ℕ) (h : History) → L.events ≤ M.events → (M.terms ≡ false → L.terms ≡ false) → WellFormed L sites h → StandsIn M h
later-stands L M sites h room terms good = record {
  count = omega (arith, good.count);
  even = λ e. good.terms.even (terms e);
  lacking = λ e. good.terms.lacking (terms e);
}

-- where one of two histories that agree can stand, the other can
agree-stands : (M : Layout) (h k : History) → Agree h k → StandsIn M k → StandsIn M h
agree-stands M h k agree so = record {
  count = omega (arith, agree.events.count, so.count);
  even = λ e. agree.terms.difference ∙ so.even e;
  lacking = λ e o. agree.terms.opening o ∙ so.lacking e o;
}

-- ---- records s, of edition L, and t, of edition M, that pass and say the same

module _ (L M : Layout) (from : Sound L) (to : Sound M) (s t : List ℕ) (bytes-s : Bytes s) (bytes-t : Bytes t) (passes-s : Passes L s) (passes-t : Passes M t)
    (agree : Agree (history_of L s) (history_of M t)) where
  there : WellFormed M (sites_in t) (history_of M t)
  there = passes_well_formed M to t bytes-t passes-t

  -- what s says can stand in M
  pub said_stands : can_stand M (history_of L s) ≡ true
  said_stands =
      stands_can M (history_of L s) (agree-stands M (history_of L s) (history_of M t) agree (well_formed_stands M (sites_in t) (history_of M t) there))

  -- and t, moved to L, is s
  pub one_record : sites_in t ≡ sites_in s → converted M L t ≡ s
  one_record sites =
      ap (λ (n : ℕ). record_bytes L n (history_of M t)) sites
      ∙ sym (record_same (history_of L s) (history_of M t) agree (passes_well_formed L from s bytes-s passes-s).inside there.inside L (sites_in s))
      ∙ again L from s bytes-s (laid_out L s passes-s.bytes)

-- ---- a record of edition L, moved to edition M

module _ (L M : Layout) (from : Sound L) (to : Sound M) (s : List ℕ) (bytes : Bytes s) (right : Passes L s) (so : StandsIn M (history_of L s)) where
  pub converted_encoded : Encoded M (sites_in s) (history_of L s)
  converted_encoded =
      encoded M to (sites_in s) (history_of L s) (stands_well_formed L M (sites_in s) (history_of L s) (passes_well_formed L from s bytes right) so)

  pub converted-passes : Passes M (converted L M s)
  converted-passes = passed-right M (converted L M s) converted_encoded.passes

  -- and moved back
  pub converted-back : converted M L (converted L M s) ≡ s
  converted-back =
      one_record L M from to s (converted L M s) bytes converted_encoded.bytes right converted-passes converted_encoded.agrees converted_encoded.site_byte
