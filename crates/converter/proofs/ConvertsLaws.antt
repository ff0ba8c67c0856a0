-- What each answer of the converting call means: what was written is the record in the other edition; it passes there, says the same, is judged the same, and moved
-- back it is the original. Assumes nothing.
use mathlib.Core.Path.{◌≡◌, refl, sym, ap, ap₂, ◌∙◌, subst}
use mathlib.Core.Bool.{Bool, true, false, true≢false}
use mathlib.Core.List.{List, [], ◌∷◌, ◌++◌}
use Prim.Native.Nat.{ℕ, zero, suc, ◌*◌, ◌<◌, ◌≤◌}
use native.Mathlib.Omega.{arith}
use native.Mathlib.Decide.{dec_lt}
use borrow.Author.Tests.{le-leb, lt-leb, leb-true, leb-false}
use lib.Dec.{leb}
use lib.ListN.{length, drop, take}
use Rattle.rows.proofs.Tests.{tell}
use Rattle.record.specs.Layout.{Layout, EditionName, GCR1, GCR2, GCR3, edition, named_by, edition_of, count_in, sites_in}
use Rattle.record.specs.History.{History, history_of, Agree}
use Rattle.record.specs.Answers.{Passes}
use Rattle.std.specs.Prelude.{Ok, Err}
use Rattle.record.specs.Questions.{Reading, ask, if_passed, questions}
use Rattle.record.specs.WellFormed.{WellFormed}
use Rattle.record.specs.Encode.{blocks_for, record_bytes}
use Rattle.record.specs.Converted.{is_edition, edition_number, edition_number_of, named, numbered, can_stand, StandsIn, converted, length_in}
use Rattle.record.specs.declared.Refusal.{Refusal}
use Rattle.record.proofs.StoresLaws.{Bytes}
use Rattle.record.proofs.SoundLayout.{edition-sound, sound_of}
use Rattle.record.proofs.SaidAgain.{again, laid_length}
use Rattle.record.proofs.PassedWellFormed.{laid_out, passes_well_formed}
use Rattle.record.proofs.EncodedPasses.{Encoded, encoded, edition-back}
use Rattle.record.proofs.QuestionsAnswered.{answer_of, answer-only, passed-right}
use Rattle.record.proofs.ConvertedLaws.{can_stand_lem, stands_can, stands_well_formed, later-stands, said_stands, converted-back}
use Rattle.consistency.proofs.SameVerdict.{first_broken-same}
use Rattle.judge.specs.Judgments.{Judgment, admission, admit, judged_list, judged, said_by, predicate_judgment, predicate_judgment_of, model_judgment, model_judgment_of}
use Rattle.consistency.specs.Models.{list_of}
use Rattle.converter.proofs.MovingLaws.{moved_written}
use Rattle.converter.specs.Conversions.{Conversion, moved_to, read_and_moved, conversion, converted_to, written_to, target_after}
use Rattle.converter.specs.Means.{Moved, Converts, written, no_such_edition, refused, cannot_stand, short_target}
use Rattle.converter.specs.declared.Unconverted.TheVariants.{NoSuchEdition, CannotStand, ShortTarget, Refused}

-- ---- editions by number

-- 43
pub edition_low : (k : ℕ) → k < 1 → is_edition k ≡ false
edition_low k l = rw (lt-leb 1 k l) refl

pub edition_high : (k : ℕ) → 3 < k → is_edition k ≡ false
edition_high k l = let m : 1 ≤ k = omega arith in rw (le-leb 1 k m, lt-leb k 3 l) refl

pub edition_both : (k : ℕ) → 1 ≤ k → k ≤ 3 → is_edition k ≡ true
edition_both k l m = rw (le-leb 1 k l, le-leb k 3 m) refl

-- an edition's number tells it
numbered-back : (e : EditionName) → numbered (edition_number e) ≡ edition e
numbered-back GCR1 = refl
numbered-back GCR2 = refl
numbered-back GCR3 = refl

is_edition-back : (e : EditionName) → is_edition (edition_number e) ≡ true
is_edition-back GCR1 = refl
is_edition-back GCR2 = refl
is_edition-back GCR3 = refl

-- a later edition has room for as many events, and terms where the earlier has
later : (e : EditionName) (k : ℕ) → is_edition k ≡ true → edition_number e ≤ k
    → ((edition e).events ≤ (numbered k).events) × ((numbered k).terms ≡ false → (edition e).terms ≡ false)
later e zero q l = absurd (true≢false (sym q))
later GCR1 (suc zero) q l = (omega arith, λ f. f)
later GCR2 (suc zero) q l = absurd (omega arith)
later GCR3 (suc zero) q l = absurd (omega arith)
later GCR1 (suc (suc zero)) q l = (omega arith, λ f. refl)
later GCR2 (suc (suc zero)) q l = (omega arith, λ f. f)
later GCR3 (suc (suc zero)) q l = absurd (omega arith)
later GCR1 (suc (suc (suc zero))) q l = (omega arith, λ f. refl)
later GCR2 (suc (suc (suc zero))) q l = (omega arith, λ f. f)
later GCR3 (suc (suc (suc zero))) q l = (omega arith, λ f. f)
later e (suc (suc (suc (suc k)))) q l = let n : ℕ = suc (suc (suc (suc k))) in absurd (tell (is_edition n) q (edition_high n (omega arith)))

-- ---- a record that passed, in an edition in which it can stand

module _ (k : ℕ) (s : List ℕ) (bytes : Bytes s) (right : Passes (edition_of s) s) where
  abbrev L : Layout
  L = edition_of s

  abbrev M : Layout
  M = numbered k

  abbrev h : History
  h = history_of L s

  abbrev t : List ℕ
  t = converted_to k s

  good : WellFormed (edition_of s) (sites_in s) (history_of (edition_of s) s)
  good = passes_well_formed L (sound_of s) s bytes right

  own-length : length s ≡ length_in (edition_of s) s
  own-length = laid_length L s (laid_out L s right.bytes)

  can-stands : can_stand (numbered k) (history_of (edition_of s) s) ≡ true → StandsIn (numbered k) (history_of (edition_of s) s)
  can-stands = can_stand_lem M h good.terms.above

  module _ (so : StandsIn (numbered k) (history_of (edition_of s) s)) where
    there : WellFormed (numbered k) (sites_in s) (history_of (edition_of s) s)
    there = stands_well_formed L M (sites_in s) h good so

    image : Encoded (numbered k) (sites_in s) (history_of (edition_of s) s)
    image = encoded M (edition-sound (named k)) (sites_in s) h there

    edition-there : edition_of (converted_to k s) ≡ numbered k
    edition-there = edition-back (named k) (sites_in s) h there

    passes-there : Passes (edition_of (converted_to k s)) (converted_to k s)
    passes-there = subst (λ (E : Layout). Passes E t) (sym edition-there) (passed-right M t image.passes)

    says-there : Agree (said_by s) (said_by (converted_to k s))
    says-there = subst (λ (E : Layout). Agree h (history_of E t)) (sym edition-there) image.agrees

    length-there : length (converted_to k s) ≡ length_in (numbered k) s
    unfolding history_of
    length-there = image.long

    -- as many events
    count-there : count_in (converted_to k s) ≡ count_in s
    unfolding history_of
    count-there = sym image.agrees.events.count

    -- ---- it is judged alike

    list-alike : (ps : List ℕ) → judged_list (edition_of (converted_to k s)) (converted_to k s) ps ≡ judged_list (edition_of s) s ps
    unfolding judged_list
    list-alike ps =
        rw (answer-only (edition_of t) t (Ok tt) passes-there, answer-only L s (Ok tt) right) (ap Ok (sym (first_broken-same h (said_by t) says-there ps)))

    alike : (words number : ℕ) (ps : List ℕ) → judged (edition_of (converted_to k s)) words number (converted_to k s) ps ≡ judged (edition_of s) words number s ps
    unfolding judged
    alike words number ps = ap (λ (j : Judgment). admit (admission words number) Err j) (list-alike ps)

    predicates-alike : (words p : ℕ) → predicate_judgment_of words p (converted_to k s) ≡ predicate_judgment_of words p s
    unfolding predicate_judgment
    predicates-alike words p = alike words p (p ∷ [])

    models-alike : (words m : ℕ) → model_judgment_of words m (converted_to k s) ≡ model_judgment_of words m s
    unfolding model_judgment
    models-alike words m = alike words m (list_of m)

    -- ---- in its own edition, and moved back

    itself : k ≡ edition_number_of s → converted_to k s ≡ s
    itself e =
        ap (λ (E : Layout). record_bytes E (sites_in s) h) (ap numbered e ∙ numbered-back (named_by (take 4 s)))
        ∙ again L (sound_of s) s bytes (laid_out L s right.bytes)

    -- all that it says can stand in the edition from which it came
    stands-back : can_stand (edition_of s) (history_of (edition_of (converted_to k s)) (converted_to k s)) ≡ true
    stands-back =
        let a = says-there in
        stands_can L (said_by t) (record {
          count = omega (arith, a.events.count, good.count);
          even = λ e. sym a.terms.difference ∙ good.terms.even e;
          lacking = λ e o. sym (a.terms.opening o) ∙ good.terms.lacking e o;
        })

    original : converted (edition_of (converted_to k s)) (edition_of s) (converted_to k s) ≡ s
    original =
        ap (λ (E : Layout). converted E L t) edition-there
        ∙ converted-back L M (sound_of s) (edition-sound (named k)) s bytes right so

    length-back : length_in (edition_of s) (converted_to k s) ≡ length s
    length-back = ap (λ (n : ℕ). 512 * blocks_for L n) count-there ∙ sym own-length

    back-moved : (room : ℕ) → length s ≤ room → moved_to (edition_of (converted_to k s)) (edition_of s) room (converted_to k s) ≡ Ok (length s)
    back-moved room l = sym (moved_written (edition_of t) L room t stands-back (omega (arith, length-back)) (length s) (sym length-back))

    back-answer : (room : ℕ) → length s ≤ room → conversion (edition_number_of s) room (converted_to k s) ≡ Ok (length s)
    unfolding conversion read_and_moved
    back-answer room l =
        rw (is_edition-back (named_by (take 4 s)), numbered-back (named_by (take 4 s)), answer-only (edition_of t) t (Ok tt) passes-there) (back-moved room l)

    back-target : (target : List ℕ) → target_after (Ok (length s)) (edition_number_of s) (converted_to k s) target ≡ s ++ drop (length s) target
    unfolding target_after written_to
    back-target target =
        ap (λ (E : Layout). converted (edition_of t) E t ++ drop (length_in E t) target) (numbered-back (named_by (take 4 s)))
        ∙ ap₂ (λ (l : List ℕ) (n : ℕ). l ++ drop n target) original length-back

    pub moved : Moved k s (converted_to k s)
    moved = record {
      edition = edition-there;
      passes = passes-there;
      sites = image.site_byte;
      says = says-there;
      predicates = predicates-alike;
      models = models-alike;
      own = itself;
      back = λ target l. (back-answer (length target) l, back-target target);
    }

  -- ---- where it cannot stand

  -- no record of that edition says the same
  none-says : can_stand (numbered k) (history_of (edition_of s) s) ≡ false
      → (u : List ℕ) → Bytes u → Passes (numbered k) u → Agree (said_by s) (history_of (numbered k) u) → ⊥
  none-says f u bytes-u passes-u agree =
      tell (can_stand M h) (said_stands L M (sound_of s) (edition-sound (named k)) s u bytes bytes-u right passes-u agree) f

  -- and its own is a later one
  earlier : is_edition k ≡ true → can_stand (numbered k) (history_of (edition_of s) s) ≡ false → k < edition_number_of s
  earlier q f = elim (dec_lt k (edition_number_of s)) [
    | yes l ↦ l
    | no g ↦
        let more = later (named_by (take 4 s)) k q (omega arith) in
        absurd (tell (can_stand M h) (stands_can M h (later-stands L M (sites_in s) h more.0 more.1 good)) f)
  ]

-- ---- each answer, and the target buffer after it

ask_into : (P : Conversion → Type 0) (t : Bool) (c next : Conversion) → (t ≡ false → P c) → (t ≡ true → P next) → P (ask t c next)
ask_into P true c next stop go = go refl
ask_into P false c next stop go = stop refl

module _ (k : ℕ) (s target : List ℕ) (bytes : Bytes s) where
  abbrev Says : Conversion → Type 0
  Says c = Converts k s target c (target_after c k s target)

  abbrev from : Layout
  from = edition_of s

  abbrev to : Layout
  to = numbered k

  written_means : is_edition k ≡ true → (right : Passes (edition_of s) s) → StandsIn (numbered k) (history_of (edition_of s) s) → length_in (numbered k) s ≤ length target
      → Converts k s target (Ok (length_in (numbered k) s)) (target_after (Ok (length_in (numbered k) s)) k s target)
  unfolding target_after written_to
  written_means q right so room =
      let e = length-there k s bytes right so in
      subst (λ (n : ℕ). Converts k s target (Ok n) (converted_to k s ++ drop n target)) e
      (written (converted_to k s) q right (moved k s bytes right so) (omega (arith, e)))

  short_means : is_edition k ≡ true → (right : Passes (edition_of s) s) → StandsIn (numbered k) (history_of (edition_of s) s) → length target < length_in (numbered k) s
      → Converts k s target (Err ShortTarget) (target_after (Err ShortTarget) k s target)
  unfolding target_after
  short_means q right so l = short_target (converted_to k s) q right (moved k s bytes right so) (omega (arith, length-there k s bytes right so))

  fits_means : is_edition k ≡ true → (right : Passes (edition_of s) s) → StandsIn (numbered k) (history_of (edition_of s) s)
      → Converts k s target (ask (leb (length_in (numbered k) s) (length target)) (Err ShortTarget) (Ok (length_in (numbered k) s)))
      (target_after (ask (leb (length_in (numbered k) s) (length target)) (Err ShortTarget) (Ok (length_in (numbered k) s))) k s target)
  fits_means q right so =
      ask_into Says (leb (length_in to s) (length target)) (Err ShortTarget) (Ok (length_in to s))
      (λ f. short_means q right so (leb-false (length_in to s) (length target) f))
      (λ e. written_means q right so (leb-true (length_in to s) (length target) e))

  cannot_means : is_edition k ≡ true → (right : Passes (edition_of s) s) → can_stand (numbered k) (history_of (edition_of s) s) ≡ false
      → Converts k s target (Err CannotStand) (target_after (Err CannotStand) k s target)
  unfolding target_after
  cannot_means q right f = cannot_stand q right (none-says k s bytes right f) (earlier k s bytes right q f)

  -- 44 and 45
  moved_means : is_edition k ≡ true → Passes (edition_of s) s
      → Converts k s target (moved_to (edition_of s) (numbered k) (length target) s) (target_after (moved_to (edition_of s) (numbered k) (length target) s) k s target)
  unfolding moved_to
  moved_means q right =
      ask_into Says (can_stand to (history_of from s)) (Err CannotStand) (ask (leb (length_in to s) (length target)) (Err ShortTarget) (Ok (length_in to s)))
      (cannot_means q right) (λ e. fits_means q right (can-stands k s bytes right e))

  refused_means : is_edition k ≡ true → (r : Refusal) → questions (edition_of s) s ≡ Err r → Converts k s target (Err (Refused r)) (target_after (Err (Refused r)) k s target)
  unfolding target_after
  refused_means q r e = refused q (answer_of from s (Err r) e)

  -- 3 to 10 before them
  read_means : is_edition k ≡ true
      → Converts k s target (read_and_moved (edition_of s) (numbered k) (length target) s) (target_after (read_and_moved (edition_of s) (numbered k) (length target) s) k s target)
  unfolding read_and_moved
  read_means q = go (questions from s) refl
    where
      go : (r : Reading) → questions (edition_of s) s ≡ r → Says (if_passed r (λ r. Err (Refused r)) (moved_to (edition_of s) (numbered k) (length target) s))
      go (Ok u) e = moved_means q (passed-right from s e)
      go (Err r) e = refused_means q r e

  no_such_means : is_edition k ≡ false → Converts k s target (Err NoSuchEdition) (target_after (Err NoSuchEdition) k s target)
  unfolding target_after
  no_such_means f = no_such_edition f

  -- and 43 first
  answer-means : Converts k s target (conversion k (length target) s) (target_after (conversion k (length target) s) k s target)
  unfolding conversion
  answer-means = ask_into Says (is_edition k) (Err NoSuchEdition) (read_and_moved from to (length target) s) no_such_means read_means

  -- the same of an answer that code gives, and of what it leaves in the buffer
  pub converts_of : {c : Conversion} {after : List ℕ} → c ≡ conversion k (length target) s → after ≡ target_after c k s target → Converts k s target c after
  converts_of {c} e f = subst (Converts k s target c) (sym f) (subst Says (sym e) answer-means)

-- ---- the questions one after the other

module _ (k room : ℕ) (s : List ℕ) where
  pub no_edition : is_edition k ≡ false → Err NoSuchEdition ≡ conversion k room s
  unfolding conversion
  no_edition f = rw f refl

  module _ (is : is_edition k ≡ true) where
    pub read_refused : (r : Refusal) → questions (edition_of s) s ≡ Err r → Err (Refused r) ≡ conversion k room s
    unfolding conversion read_and_moved
    read_refused r e = rw (is, e) refl

    pub read_moved : questions (edition_of s) s ≡ Ok tt → {c : Conversion} → c ≡ moved_to (edition_of s) (numbered k) room s → c ≡ conversion k room s
    unfolding conversion read_and_moved
    read_moved e m = rw (is, e) m
