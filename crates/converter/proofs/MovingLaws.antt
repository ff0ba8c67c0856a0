-- A record that passed, moved to another edition by the code: what can stand there, and the terms and slots as they are put. Assumes nothing.
use mathlib.Core.Path.{◌≡◌, refl, sym, ap, ◌∙◌}
use mathlib.Core.Bool.{Bool, true, false, not, ◌&&◌, ◌||◌}
use mathlib.Core.List.{List, ◌++◌}
use Prim.Native.Nat.{ℕ, ◌+◌, ◌*◌, ◌-◌, ◌<◌, ◌≤◌}
use native.Mathlib.Nat.{div-le_self}
use native.Mathlib.Omega.{arith}
use borrow.Author.Tests.{le-leb, lt-leb}
use lib.ListN.{length, get_or, take, drop, replicate, length-replicate, get_or-append}
use lib.Seq.{sets}
use Rattle.rows.proofs.LowestLaws.{none-some}
use Rattle.rows.proofs.Tests.{split}
use Rattle.record.specs.Layout.{Layout, edition_of, count_in, sites_in, slot_at, zeros, most_events}
use Rattle.record.specs.Terms.{Terms}
use Rattle.record.specs.History.{History, history_of}
use Rattle.record.specs.Answers.{Passes}
use Rattle.std.specs.Prelude.{Ok, Err}
use Rattle.record.specs.LaidOut.{LaidOut}
use Rattle.record.specs.Encode.{terms_bytes, blocks_for, header_bytes, with_terms, with_slots, sealed, record_bytes}
use Rattle.record.specs.Converted.{named, numbered, says_none, can_stand, length_in}
use Rattle.record.proofs.StoresLaws.{Bytes, get_d_sets-outside, sets_again, zero-at}
use Rattle.record.proofs.SoundLayout.{Sound, edition-sound, sound_of, slots-few, slot-room}
use Rattle.record.proofs.ImageLaws.{terms-outside, length-header}
use Rattle.record.proofs.WrittenLaws.{written}
use Rattle.record.proofs.QuestionsAnswered.{answer-only, passed-count}
use Rattle.record.proofs.SaidAgain.{laid_length}
use Rattle.record.proofs.PassedWellFormed.{laid_out}
use Rattle.converter.specs.Conversions.{moved_to, written_to}
use Rattle.converter.specs.declared.Unconverted.TheVariants.{CannotStand, ShortTarget}
use Rattle.converter.specs.Blank.{Blank}
use Rattle.record.proofs.MovedLaws.{bare_bytes, terms-none, terms_moved, terms-zero}

-- ---- 44

module _ (M : Layout) (h : History) where
  pub stand_many : M.events < h.count → false ≡ can_stand M h
  unfolding can_stand
  stand_many l = sym (ap (λ (t : Bool). t && (M.terms || says_none h.terms)) (lt-leb h.count M.events l))

  pub stand_terms : h.count ≤ M.events → M.terms ≡ true → true ≡ can_stand M h
  unfolding can_stand
  stand_terms l e = rw (le-leb h.count M.events l, e) refl

  pub stand_bare : h.count ≤ M.events → M.terms ≡ false → {t : Bool} → t ≡ says_none h.terms → t ≡ can_stand M h
  unfolding can_stand
  stand_bare l e q = rw (le-leb h.count M.events l, e) q

-- ---- the answer: after a yes to 3 to 10

module _ (L M : Layout) (room : ℕ) (s : List ℕ) where
  pub moved_not : can_stand M (history_of L s) ≡ false → Err CannotStand ≡ moved_to L M room s
  unfolding moved_to
  moved_not e = rw e refl

  module _ (stands : can_stand M (history_of L s) ≡ true) where
    pub moved_short : room < length_in M s → Err ShortTarget ≡ moved_to L M room s
    unfolding moved_to
    moved_short l = rw (stands, lt-leb (length_in M s) room l) refl

    pub moved_written : length_in M s ≤ room → (n : ℕ) → n ≡ length_in M s → Ok n ≡ moved_to L M room s
    unfolding moved_to
    moved_written l n e = rw (stands, le-leb (length_in M s) room l) (ap Ok e)

-- ---- of a record that passed

module _ (s : List ℕ) (right : Passes (edition_of s) s) where
  abbrev L : Layout
  L = edition_of s

  pub laid : LaidOut (edition_of s) s
  laid = laid_out L s right.bytes

  pub long : 512 ≤ length s
  long = omega (arith, laid_length L s laid)

  pub few : count_in s ≤ most_events
  few = passed-count s (answer-only L s (Ok tt) right)

  -- where its slots stand, in any edition
  pub near : (M : Layout) → Sound M → (e : ℕ) → e < count_in s → slot_at M e ≤ 512 * (most_events + 2)
  near M ok e l = omega (arith, few, slot-room M ok e, div-le_self e M.per_block)

  pub blocks-few : (k : ℕ) → blocks_for (numbered k) (count_in s) ≤ most_events + 15
  blocks-few k =
      let M : Layout = numbered k in
      omega (arith, few, slots-few M (edition-sound (named k)), div-le_self (count_in s + (M.per_block - 1)) M.per_block)

  -- its terms, where its edition has them and where it has none
  pub none_lacking : L.terms ≡ false → true ≡ says_none (history_of (edition_of s) s).terms
  none_lacking e =
      sym (ap says_none (terms-none L s e) ∙ ap not (none-some 32 (λ o. false) (λ o l. refl)))

  pub none-zero : Bytes s → L.terms ≡ true → zeros 8 s 8 ≡ says_none (history_of (edition_of s) s).terms
  none-zero bytes e = terms-zero L s e (sound_of s) bytes laid

  -- the terms put, in a target that is zero there
  module _ (M : Layout) (target : List ℕ) where
    pub terms-copied : Bytes s → L.terms ≡ true → M.terms ≡ true → {r : List ℕ} → r ≡ sets target 8 (take 136 (drop 8 s)) → r ≡ with_terms M (history_of (edition_of s) s).terms target
    unfolding with_terms
    terms-copied bytes e f put = put ∙ rw f (ap (sets target 8) (sym (terms_moved L s (sound_of s) bytes laid e)))

    pub terms_dropped : M.terms ≡ false → target ≡ with_terms M (history_of (edition_of s) s).terms target
    unfolding with_terms
    terms_dropped f = rw f refl

    pub terms-left : L.terms ≡ false → ((p : ℕ) → 7 ≤ p → p < 512 → get_or target p 0 ≡ 0) → target ≡ with_terms M (history_of (edition_of s) s).terms target
    unfolding with_terms
    terms-left e blank = split M.terms (λ f. rw f (sym again)) (λ f. rw f refl)
      where
        again : sets target 8 (terms_bytes (history_of (edition_of s) s).terms) ≡ target
        again =
            ap (sets target 8) (ap terms_bytes (terms-none L s e) ∙ bare_bytes)
            ∙ sets_again (replicate 136 0) target 8 (λ j l. blank (8 + j) (omega arith) (omega (arith, length-replicate {A = ℕ} 136 0)) ∙ sym (zero-at 136 j))

  -- a target cleared, with letters, count and sites written, and then the terms: zero behind them
  module _ (k sites : ℕ) (target s₁ s₂ : List ℕ) (cleared : s₁ ≡ replicate (length_in (numbered k) s) 0 ++ drop (length_in (numbered k) s) target)
      (begun : s₂ ≡ sets s₁ 0 (header_bytes (numbered k) (count_in s) sites)) where
    abbrev M : Layout
    M = numbered k

    abbrev size : ℕ
    size = length_in M s

    after-header : (p : ℕ) → 7 ≤ p → p < length_in (numbered k) s → get_or s₂ p 0 ≡ 0
    unfolding history_of
    after-header p past l =
        let zeros-first : get_or (replicate size 0 ++ drop size target) p 0 ≡ 0 =
        get_or-append (replicate size 0) (drop size target) 0 p (omega (arith, length-replicate {A = ℕ} size 0)) ∙ zero-at size p in
        ap (λ (t : List ℕ). get_or t p 0) begun
        ∙ get_d_sets-outside (header_bytes M (count_in s) sites) s₁ 0 p (λ x y. omega (arith, length-header M (edition-sound (named k)) (history_of L s) sites))
        ∙ ap (λ (t : List ℕ). get_or t p 0) cleared
        ∙ zeros-first

    pub header_blank : length_in (numbered k) s ≤ length s₂ → Blank 7 k s s₂
    header_blank room = record { passed = right; room = room; zero = after-header }

    pub terms_blank : (t : Terms) (s₃ : List ℕ) → s₃ ≡ with_terms (numbered k) t s₂ → length_in (numbered k) s ≤ length s₃ → Blank 512 k s s₃
    terms_blank t s₃ put room = record {
      passed = right;
      room = room;
      zero = λ p past l. ap (λ (u : List ℕ). get_or u p 0) put ∙ terms-outside M t s₂ p (λ e x y. omega arith) ∙ after-header p (omega arith) l;
    }

  -- and its slots and checks: the record, and the rest of the target as it was
  pub all_written : (k blocks sites : ℕ) (target s₁ s₂ s₃ s₄ s₅ : List ℕ) → blocks ≡ blocks_for (numbered k) (count_in s) → sites ≡ sites_in s
      → s₁ ≡ replicate (512 * blocks) 0 ++ drop (512 * blocks) target
      → s₂ ≡ sets s₁ 0 (header_bytes (numbered k) (count_in s) sites)
      → s₃ ≡ with_terms (numbered k) (history_of (edition_of s) s).terms s₂
      → s₄ ≡ with_slots (numbered k) (history_of (edition_of s) s) (count_in s) s₃
      → s₅ ≡ sealed blocks s₄ → s₅ ≡ written_to k s target
  unfolding written_to history_of
  all_written k blocks sites target s₁ s₂ s₃ s₄ s₅ many same e₁ e₂ e₃ e₄ e₅ =
      written (numbered k) (edition-sound (named k)) (history_of L s) sites blocks target s₁ s₂ s₃ s₄ s₅ many e₁ e₂ e₃ e₄ e₅
      ∙ ap (λ (n : ℕ). record_bytes (numbered k) n (history_of L s) ++ drop (length_in (numbered k) s) target) same
