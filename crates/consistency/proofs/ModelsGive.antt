-- 'Which guarantee covers which': the eighteen implications, of every history, and whatever follows by chaining them. Assumes nothing.
use mathlib.Core.Path.{◌≡◌, refl, sym, ap, ◌∙◌, subst}
use mathlib.Core.Bool.{Bool, true, false, ◌&&◌}
use mathlib.Core.List.{List, [], ◌∷◌}
use Prim.Native.Nat.{ℕ}
use borrow.Author.Tests.{eqb-true}
use lib.Dec.{eqb, leb}
use Rattle.rows.specs.Relation.{Steps, one, more}
use Rattle.rows.proofs.ReachLaws.{reaches-sound}
use Rattle.rows.proofs.Tests.{tell, or_elim, and_left, and_right}
use Rattle.record.specs.History.{History}
use Rattle.consistency.specs.Breaks.{AllHold}
use Rattle.consistency.specs.Models.{list_of}
use Rattle.consistency.specs.Lattice.{linearizable, regular, sequential, causal, real_time_causal, processor, per_object_sequential, pram, monotonic_reads, read_your_writes, monotonic_writes, writes_follow_reads, slow_memory, Implication, ◌gives◌, implications, listed, follows}
use Rattle.consistency.proofs.PredicatesGive.{three_gives_four, two_three_give_nine, two_nine_give_ten, two_nine_give_eleven, two_gives_thirteen, nine_gives_six, nine_gives_twelve, ten_gives_nine, ten_gives_five, eleven_gives_seven, eleven_gives_eight, two_four_give_six, four_gives_seven}

-- ---- the eighteen

-- of every history: where the first model's predicates hold, the second's do
abbrev pub Gives : Implication → Type 0
Gives (i gives j) = (h : History) → AllHold (list_of i) h → AllHold (list_of j) h

pub linearizable_gives_regular : Gives (linearizable gives regular)
linearizable_gives_regular h (order, (clocks, (reads, end))) = (order, (three_gives_four h clocks, (reads, tt)))

pub linearizable_gives_sequential : Gives (linearizable gives sequential)
linearizable_gives_sequential h (order, (clocks, (reads, end))) = (order, (two_three_give_nine h order clocks, (reads, tt)))

pub linearizable_gives_real_time_causal : Gives (linearizable gives real_time_causal)
linearizable_gives_real_time_causal h (order, (clocks, (reads, end))) =
    let own = two_three_give_nine h order clocks in
    (two_nine_give_ten h order own, (two_nine_give_eleven h order own, (clocks, (reads, tt))))

pub real_time_causal_gives_causal : Gives (real_time_causal gives causal)
real_time_causal_gives_causal h (seen, (after, (clocks, (reads, end)))) = (seen, (after, (reads, tt)))

pub sequential_gives_causal : Gives (sequential gives causal)
sequential_gives_causal h (order, (own, (reads, end))) = (two_nine_give_ten h order own, (two_nine_give_eleven h order own, (reads, tt)))

pub sequential_gives_processor : Gives (sequential gives processor)
sequential_gives_processor h (order, (own, (reads, end))) = (two_gives_thirteen h order, (own, (reads, tt)))

pub processor_gives_pram : Gives (processor gives pram)
processor_gives_pram h (order, (own, (reads, end))) = (own, tt)

pub processor_gives_per_object_sequential : Gives (processor gives per_object_sequential)
processor_gives_per_object_sequential h (order, (own, (reads, end))) = (order, (nine_gives_twelve h own, (reads, tt)))

pub causal_gives_pram : Gives (causal gives pram)
causal_gives_pram h (seen, (after, (reads, end))) = (ten_gives_nine h seen, tt)

pub causal_gives_monotonic_reads : Gives (causal gives monotonic_reads)
causal_gives_monotonic_reads h (seen, (after, (reads, end))) = (ten_gives_five h seen, tt)

pub causal_gives_read_your_writes : Gives (causal gives read_your_writes)
causal_gives_read_your_writes h (seen, (after, (reads, end))) = (nine_gives_six h (ten_gives_nine h seen), tt)

pub causal_gives_monotonic_writes : Gives (causal gives monotonic_writes)
causal_gives_monotonic_writes h (seen, (after, (reads, end))) = (eleven_gives_seven h after, tt)

pub causal_gives_writes_follow_reads : Gives (causal gives writes_follow_reads)
causal_gives_writes_follow_reads h (seen, (after, (reads, end))) = (eleven_gives_eight h after, tt)

pub pram_gives_read_your_writes : Gives (pram gives read_your_writes)
pram_gives_read_your_writes h (own, end) = (nine_gives_six h own, tt)

pub pram_gives_slow_memory : Gives (pram gives slow_memory)
pram_gives_slow_memory h (own, end) = (nine_gives_twelve h own, tt)

pub per_object_sequential_gives_slow_memory : Gives (per_object_sequential gives slow_memory)
per_object_sequential_gives_slow_memory h (order, (own, (reads, end))) = (own, tt)

pub regular_gives_read_your_writes : Gives (regular gives read_your_writes)
regular_gives_read_your_writes h (order, (writes, (reads, end))) = (two_four_give_six h order writes, tt)

pub regular_gives_monotonic_writes : Gives (regular gives monotonic_writes)
regular_gives_monotonic_writes h (order, (writes, (reads, end))) = (four_gives_seven h writes, tt)

-- ---- the table, and chains of it

-- a proof for each pair of a list
abbrev Each : List Implication → Type 0
Each [] = Unit
Each (g ∷ gs) = Gives g × Each gs

each_gives : Each implications
each_gives = (
  linearizable_gives_regular,
  (
    linearizable_gives_sequential,
    (
      linearizable_gives_real_time_causal,
      (
        real_time_causal_gives_causal,
        (
          sequential_gives_causal,
          (
            sequential_gives_processor,
            (
              processor_gives_pram,
              (
                processor_gives_per_object_sequential,
                (
                  causal_gives_pram,
                  (
                    causal_gives_monotonic_reads,
                    (
                      causal_gives_read_your_writes,
                      (
                        causal_gives_monotonic_writes,
                        (
                          causal_gives_writes_follow_reads,
                          (
                            pram_gives_read_your_writes,
                            (
                              pram_gives_slow_memory,
                              (
                                per_object_sequential_gives_slow_memory,
                                (
                                  regular_gives_read_your_writes,
                                  (regular_gives_monotonic_writes, tt),
                                ),
                              ),
                            ),
                          ),
                        ),
                      ),
                    ),
                  ),
                ),
              ),
            ),
          ),
        ),
      ),
    ),
  ),
)

-- what stands in the list is given
given : (l : List Implication) → Each l → (i j : ℕ) → listed l i j ≡ true → Gives (i gives j)
unfolding listed
given [] t i j e = absurd (tell false e refl)
given ((m gives n) ∷ l) (g, rest) i j e =
    or_elim (eqb m i && eqb n j) (listed l i j) e
    (λ f.
    subst (λ (x : ℕ). Gives (x gives j)) (eqb-true m i (and_left (eqb m i) (eqb n j) f))
    (subst (λ (y : ℕ). Gives (m gives y)) (eqb-true n j (and_right (eqb m i) (eqb n j) f)) g))
    (given l rest i j)

chained : (i j : ℕ) → Steps 14 (listed implications) i j → Gives (i gives j)
chained i j (one e) h holds = given implications each_gives i j e h holds
chained i j (more {b = m} e k s) h holds = chained m j s h (given implications each_gives i m e h holds)

-- whatever follows by chaining holds with what it follows from
pub follows_gives : (i j : ℕ) → follows i j ≡ true → Gives (i gives j)
unfolding follows
follows_gives i j e = chained i j (reaches-sound 14 (listed implications) i j e)

-- ---- what follows and what it follows from are models' numbers

abbrev pub is_model : ℕ → Bool
is_model m = leb 1 m && leb m 13

abbrev only_models : List Implication → Bool
only_models [] = true
only_models ((m gives n) ∷ l) = (is_model m && is_model n) && only_models l

pub listed-models : (l : List Implication) → only_models l ≡ true → (i j : ℕ) → listed l i j ≡ true → (is_model i ≡ true) × (is_model j ≡ true)
unfolding listed
listed-models [] t i j e = absurd (tell false e refl)
listed-models ((m gives n) ∷ l) t i j e =
    let here = and_left (is_model m && is_model n) (only_models l) t in
    or_elim (eqb m i && eqb n j) (listed l i j) e
    (λ f. (
      ap is_model (sym (eqb-true m i (and_left (eqb m i) (eqb n j) f))) ∙ and_left (is_model m) (is_model n) here,
      ap is_model (sym (eqb-true n j (and_right (eqb m i) (eqb n j) f))) ∙ and_right (is_model m) (is_model n) here,
    ))
    (listed-models l (and_right (is_model m && is_model n) (only_models l) t) i j)

pub chained_models : (i j : ℕ) → Steps 14 (listed implications) i j → (is_model i ≡ true) × (is_model j ≡ true)
chained_models i j (one e) = listed-models implications refl i j e
chained_models i j (more {b = m} e k s) = ((listed-models implications refl i m e).0, (chained_models m j s).1)

pub follows-models : (i j : ℕ) → follows i j ≡ true → (is_model i ≡ true) × (is_model j ≡ true)
unfolding follows
follows-models i j e = chained_models i j (reaches-sound 14 (listed implications) i j e)
