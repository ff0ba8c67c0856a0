-- What a judge knows of a record that passed: the words that it reads have the events of the record's bytes. Assumes nothing.
use mathlib.Core.Path.{◌≡◌, sym, ap, ◌∙◌}
use mathlib.Core.Bool.{Bool, true, false, false≢true}
use mathlib.Core.List.{List, ◌++◌}
use Prim.Native.Nat.{ℕ, ◌*◌, ◌≤◌}
use native.Mathlib.Omega.{arith}
use borrow.Author.Tests.{eq-eqb}
use lib.Dec.{leb}
use lib.ListN.{length, take, drop, take-append-drop, length-append}
use lib.Seq.{take_at}
use Rattle.std.specs.Prelude.{Ok, Err, is_ok}
use Rattle.record.specs.Layout.{edition_of, count_in, most_events, row_words, work_words}
use Rattle.record.specs.History.{history_of, under, Agree}
use Rattle.record.specs.Encode.{blocks_for}
use Rattle.record.specs.Questions.{Reading, number_of, ask, questions, reading}
use Rattle.record.specs.Words.{slot_words, head_words, visible_words, work_after, history_from, terms_words, terms_from}
use Rattle.record.specs.declared.Refusal.TheVariants.{ShortWork}
use Rattle.record.proofs.StoresLaws.{Bytes}
use Rattle.record.proofs.SlotWords.{length-slot_words}
use Rattle.record.proofs.WorkLaws.{length-visible}
use Rattle.record.proofs.WordsLaws.{words-agree}
use Rattle.record.proofs.SoundLayout.{sound_of}
use Rattle.record.proofs.QuestionsAnswered.{passed-count, passed-terms, passed-blocks, passed-site, passed-position, passed-distinct, passed_graph}
use Rattle.consistency.specs.FirstPair.{Verdict}
use Rattle.consistency.specs.Predicates.{verdict}
use Rattle.consistency.specs.declared.Predicate.{Predicate}
use Rattle.consistency.proofs.SameVerdict.{verdict-same}
use Rattle.events.specs.Given.{Given}
use Rattle.judge.specs.Judgments.{said_by}
use Rattle.judge.specs.Ready.{ReadInto, history_in, Ready}

-- the words l and v, four of fields and a row of the work slice an event, have the n events of the record s, and q its terms
pub record Told (s : List ℕ) (n : ℕ) (l v q : List ℕ) : Type 0 where
  pub given : Given n row_words l v
  pub agree : Agree (history_of (edition_of s) s) (under (terms_from q) (history_from n row_words l v))

-- where the work slice was long enough too
reading-passed : (w : ℕ) (s : List ℕ) → reading (edition_of s) w s ≡ Ok tt → questions (edition_of s) s ≡ Ok tt
unfolding reading
reading-passed w s e = go (leb work_words w) e
  where
    go : (t : Bool) → ask t (Err ShortWork) (questions (edition_of s) s) ≡ Ok tt → questions (edition_of s) s ≡ Ok tt
    go true e = e
    go false e = absurd (false≢true (ap is_ok e))

module _ (s : List ℕ) (passed : questions (edition_of s) s ≡ Ok tt) where
  -- ---- what the loading of words asks of the record

  pub passed-long : 512 ≤ length s
  passed-long = omega (arith, passed-blocks s passed)

  module _ (n : ℕ) (counted : n ≡ count_in s) where
    pub count_small : n ≤ most_events
    count_small = omega (arith, passed-count s passed)

    pub blocks-long : 512 * blocks_for (edition_of s) n ≤ length s
    blocks-long = rw counted (omega (arith, passed-blocks s passed))

  -- ---- the work slice

  work-visible : (number : ℕ) (w v : List ℕ) → number ≡ 0 → v ≡ work_after (edition_of s) number s w → take work_words v ≡ visible_words (edition_of s) s
  unfolding work_after
  work-visible number w v z e =
      let left : v ≡ visible_words (edition_of s) s ++ drop work_words w = rw (eq-eqb number 0 z) at e in
      ap (take work_words) left ∙ take_at (visible_words (edition_of s) s) (drop work_words w) work_words (length-visible (edition_of s) s (sound_of s).narrow (passed-count s passed))

  -- ---- the words: four an event loaded over d, and a slice that begins with the visible sets

  module _ (bytes : Bytes s) (n : ℕ) (counted : n ≡ count_in s) (d l v q : List ℕ)
      (loaded : l ≡ slot_words (edition_of s) 0 4 s n ++ drop (n * 4) d) (begins : take work_words v ≡ visible_words (edition_of s) s)
      (terms : q ≡ terms_words s) where
    pub heads : l ≡ head_words (edition_of s) s ++ drop (n * 4) d
    unfolding head_words
    heads = loaded ∙ ap (λ (k : ℕ). slot_words (edition_of s) 0 4 s k ++ drop (n * 4) d) counted

    sets : v ≡ visible_words (edition_of s) s ++ drop work_words v
    sets = sym (take-append-drop work_words v) ∙ ap (λ (t : List ℕ). t ++ drop work_words v) begins

    same : Agree (history_of (edition_of s) s) (under (terms_from q) (history_from n row_words l v))
    same = rw (counted, heads, sets, terms) (words-agree s bytes (passed-terms s passed) (drop (n * 4) d) (drop work_words v))

    pub words-told : Told s n l v q
    unfolding history_of history_from
    words-told = record {
      given = record {
        heads = omega (arith, ap length loaded, length-append (slot_words (edition_of s) 0 4 s n) (drop (n * 4) d), length-slot_words (edition_of s) 0 4 s n);
        narrow = omega arith;
        rows = rw (counted, sets) (passed_graph s passed bytes (drop work_words v));
        sites = λ e i. omega (arith, passed-site s passed e (omega arith), same.events.site e (omega arith));
        placed = record {
          below = λ e i. omega (arith, passed-position s passed e (omega arith), same.events.position e (omega arith));
          distinct = λ d e i j q. passed-distinct s passed d e (omega arith) (omega arith) (same.events.position d (omega arith) ∙ q ∙ sym (same.events.position e (omega arith)));
        };
      };
      agree = same;
    }

-- ---- a record that no question refuses, and the work slice that its reader left

module _ (s : List ℕ) (r : Reading) (none : r ≡ Ok tt) (w v : List ℕ) (left : v ≡ work_after (edition_of s) (number_of r) s w) where
  begun : questions (edition_of s) s ≡ Ok tt → ReadInto s v
  begun passed = record { passed = passed; visible = work-visible s passed (number_of r) w v (ap number_of none) left }

  pub read_into : r ≡ questions (edition_of s) s → ReadInto s v
  read_into asked = begun (sym asked ∙ none)

  -- where question 1 was asked too
  pub read_whole : (words : ℕ) → r ≡ reading (edition_of s) words s → ReadInto s v
  read_whole words asked = begun (reading-passed words s (sym asked ∙ none))

-- ---- a verdict on the words, as they are lent on, is that on the record

pub ready-verdict : {s : List ℕ} {n m : ℕ} {l v q groups t heads seen terms : List ℕ} → Ready s n l v q groups t → (p : Predicate) {r : Verdict}
    → m ≡ n → heads ≡ l → seen ≡ v → terms ≡ q → r ≡ verdict p (history_in m heads seen terms) → r ≡ verdict p (said_by s)
ready-verdict {s} {n} {m} {l} {v} {q} ready p a b c d e = e ∙ rw (a, b, c, d) (sym (verdict-same (said_by s) (history_in n l v q) ready.agree p))
