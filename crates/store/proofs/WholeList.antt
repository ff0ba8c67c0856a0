-- The whole list of calls, as a loop over a script goes through it: by what is left, and counted up from the first call. Assumes nothing.
use mathlib.Core.Path.{◌≡◌, refl, sym, ap, ◌∙◌}
use mathlib.Core.Bool.{Bool, true, false, cond}
use mathlib.Core.List.{List, [], ◌∷◌, ◌++◌, append_assoc, append-nil}
use Prim.Native.Nat.{ℕ, zero, suc, ◌+◌, ◌*◌, ◌/◌, ◌≤◌, ◌<◌}
use native.Mathlib.Omega.{arith}
use lib.Dec.{eqb}
use lib.ListN.{length, get_or, take, drop, length-append, replicate, length-replicate}
use lib.Seq.{get_or-take, get_or-drop, take_at, drop_at}
use Rattle.rows.specs.Count.{sum}
use Rattle.rows.proofs.CountLaws.{sum-none, sum_more}
use Rattle.record.specs.Terms.{Terms}
use Rattle.record.proofs.NumberBytes.{length-little}
use Rattle.store.specs.Store.{Store, fresh}
use Rattle.store.specs.Calls.{Call, put, get, deliver, close, malformed, call_at, calls_from, calls_of}
use Rattle.store.specs.Rules.{refusal, after_call, run, total, done_answer, answer, answers}
use Rattle.store.specs.Rehearsal.{terms_of, store_after, store_before, call_count, call_in, answer_in}
use Rattle.store.proofs.UpdateLaws.{lt_suc_elim}
use Rattle.store.proofs.Invariant.{StoreInv}
use Rattle.store.proofs.RunKeeps.{every-run}
use Rattle.store.proofs.Sizes.{Limits, every_limits, Sizes, every_sizes}

-- ---- what is left

pub run-left : (n : ℕ) (st : Store) (k : ℕ) (s : List ℕ) (at : ℕ)
    → run n st (calls_from (suc k) s at) ≡ run n (after_call n st (call_at s at)) (calls_from k s (at + 8))
unfolding run calls_from
run-left n st k s at = refl

pub answers-left : (n : ℕ) (st : Store) (k : ℕ) (s : List ℕ) (at : ℕ)
    → answers n st (calls_from (suc k) s at) ≡ answer n st (call_at s at) ++ answers n (after_call n st (call_at s at)) (calls_from k s (at + 8))
unfolding answers calls_from
answers-left n st k s at = refl

pub none_left : (n : ℕ) (st : Store) (s : List ℕ) (at : ℕ) → run n st (calls_from zero s at) ≡ st
unfolding run calls_from
none_left n st s at = refl

pub no_answers-left : (n : ℕ) (st : Store) (s : List ℕ) (at : ℕ) → answers n st (calls_from zero s at) ≡ []
unfolding answers calls_from
no_answers-left n st s at = refl

-- ---- counted up

-- the store after the first k calls of a script, and their answers
unfoldable pub store_up_to : ℕ → ℕ → Terms → List ℕ → Store
store_up_to zero n T s = fresh T
store_up_to (suc k) n T s = after_call n (store_up_to k n T s) (call_at s (8 * k))

unfoldable pub answers_up_to : ℕ → ℕ → Terms → List ℕ → List ℕ
answers_up_to zero n T s = []
answers_up_to (suc k) n T s = answers_up_to k n T s ++ answer n (store_up_to k n T s) (call_at s (8 * k))

pub store-none : (n : ℕ) (T : Terms) (s : List ℕ) → store_up_to 0 n T s ≡ fresh T
unfolding store_up_to
store-none n T s = refl

pub store-more : (k n : ℕ) (T : Terms) (s : List ℕ) → store_up_to (suc k) n T s ≡ after_call n (store_up_to k n T s) (call_at s (8 * k))
unfolding store_up_to
store-more k n T s = refl

pub answers-none : (n : ℕ) (T : Terms) (s : List ℕ) → answers_up_to 0 n T s ≡ []
unfolding answers_up_to
answers-none n T s = refl

pub answers-more : (k n : ℕ) (T : Terms) (s : List ℕ) → answers_up_to (suc k) n T s ≡ answers_up_to k n T s ++ answer n (store_up_to k n T s) (call_at s (8 * k))
unfolding answers_up_to
answers-more k n T s = refl

-- after k calls, j more make what k + j make
run_on : (j k n : ℕ) (T : Terms) (s : List ℕ) → run n (store_up_to k n T s) (calls_from j s (8 * k)) ≡ store_up_to (k + j) n T s
run_on zero k n T s = none_left n (store_up_to k n T s) s (8 * k) ∙ ap (λ (i : ℕ). store_up_to i n T s) (omega arith)
run_on (suc j) k n T s =
    run-left n (store_up_to k n T s) j s (8 * k)
    ∙ ap (λ (i : ℕ). run n (after_call n (store_up_to k n T s) (call_at s (8 * k))) (calls_from j s i)) (omega arith)
    ∙ ap (λ (st : Store). run n st (calls_from j s (8 * suc k))) (sym (store-more k n T s))
    ∙ run_on j (suc k) n T s
    ∙ ap (λ (i : ℕ). store_up_to i n T s) (omega arith)

answers_on : (j k n : ℕ) (T : Terms) (s : List ℕ) → answers_up_to k n T s ++ answers n (store_up_to k n T s) (calls_from j s (8 * k)) ≡ answers_up_to (k + j) n T s
answers_on zero k n T s =
    ap (λ (l : List ℕ). answers_up_to k n T s ++ l) (no_answers-left n (store_up_to k n T s) s (8 * k))
    ∙ append-nil (answers_up_to k n T s)
    ∙ ap (λ (i : ℕ). answers_up_to i n T s) (omega arith)
answers_on (suc j) k n T s =
    let done : List ℕ = answers_up_to k n T s in
    let now : Store = store_up_to k n T s in
    let c : Call = call_at s (8 * k) in
    ap (λ (l : List ℕ). done ++ l) (answers-left n now j s (8 * k))
    ∙ sym (append_assoc done (answer n now c) (answers n (after_call n now c) (calls_from j s (8 * k + 8))))
    ∙ ap (λ (i : ℕ). (done ++ answer n now c) ++ answers n (after_call n now c) (calls_from j s i)) (omega arith)
    ∙ ap (λ (st : Store). (done ++ answer n now c) ++ answers n st (calls_from j s (8 * suc k))) (sym (store-more k n T s))
    ∙ ap (λ (l : List ℕ). l ++ answers n (store_up_to (suc k) n T s) (calls_from j s (8 * suc k))) (sym (answers-more k n T s))
    ∙ answers_on j (suc k) n T s
    ∙ ap (λ (i : ℕ). answers_up_to i n T s) (omega arith)

-- a number of each of the first k calls, added up, and then of j more
abbrev of_call : (ℕ → Store → Call → ℕ) → ℕ → Terms → List ℕ → ℕ → ℕ
of_call f n T s k = f n (store_up_to k n T s) (call_at s (8 * k))

total_on : (f : ℕ → Store → Call → ℕ) (j k n : ℕ) (T : Terms) (s : List ℕ)
    → sum k (of_call f n T s) + total f n (store_up_to k n T s) (calls_from j s (8 * k)) ≡ sum (k + j) (of_call f n T s)
unfolding total calls_from
total_on f zero k n T s = let same : k ≡ k + 0 = omega arith in omega (arith, ap (λ (i : ℕ). sum i (of_call f n T s)) same)
total_on f (suc j) k n T s =
    let next : 8 * k + 8 ≡ 8 * suc k = omega arith in
    let same : suc k + j ≡ k + suc j = omega arith in
    let left : total f n (after_call n (store_up_to k n T s) (call_at s (8 * k))) (calls_from j s (8 * k + 8)) ≡ total f n (store_up_to (suc k) n T s) (calls_from j s (8 * suc k)) =
    rw (store-more k n T s, next) refl in
    omega (arith, left, sum_more k (of_call f n T s), total_on f j (suc k) n T s, ap (λ (i : ℕ). sum i (of_call f n T s)) same)

-- the first k calls are a list of calls, so what every list has, they have
pub store_up_to_lem : (k n : ℕ) (T : Terms) (s : List ℕ) → store_up_to k n T s ≡ run n (fresh T) (calls_from k s 0)
unfolding store_up_to
store_up_to_lem k n T s = let z : k ≡ 0 + k = omega arith in ap (λ (i : ℕ). store_up_to i n T s) z ∙ sym (run_on k 0 n T s)

pub answers_up_to_lem : (k n : ℕ) (T : Terms) (s : List ℕ) → answers_up_to k n T s ≡ answers n (fresh T) (calls_from k s 0)
unfolding store_up_to answers_up_to
answers_up_to_lem k n T s = let z : k ≡ 0 + k = omega arith in ap (λ (i : ℕ). answers_up_to i n T s) z ∙ sym (answers_on k 0 n T s)

pub up_to-keeps : (k n : ℕ) → n ≤ 8 → (T : Terms) (s : List ℕ) → StoreInv n T (store_up_to k n T s).event (store_up_to k n T s)
up_to-keeps k n n≤8 T s = rw store_up_to_lem (every-run n n≤8 T (calls_from k s 0))

pub up_to_limits : (k n : ℕ) (T : Terms) (s : List ℕ) → Limits (store_up_to k n T s)
up_to_limits k n T s = rw store_up_to_lem (every_limits n T (calls_from k s 0))

pub up_to_sizes : (k n : ℕ) → n ≤ 8 → (T : Terms) (s : List ℕ) → Sizes (store_up_to k n T s)
up_to_sizes k n n≤8 T s = rw store_up_to_lem (every_sizes n n≤8 T (calls_from k s 0))

-- and all of them are the script's
pub store-whole : (n : ℕ) (openings s : List ℕ) → store_up_to (length s / 8) n (terms_of openings) s ≡ store_after n openings s
unfolding store_after calls_of
store-whole n openings s = store_up_to_lem (length s / 8) n (terms_of openings) s

pub answers-whole : (n : ℕ) (T : Terms) (s : List ℕ) → answers_up_to (length s / 8) n T s ≡ answers n (fresh T) (calls_of s)
unfolding calls_of
answers-whole n T s = answers_up_to_lem (length s / 8) n T s

pub total-whole : (f : ℕ → Store → Call → ℕ) (n : ℕ) (T : Terms) (s : List ℕ)
    → sum (length s / 8) (λ k. f n (store_up_to k n T s) (call_at s (8 * k))) ≡ total f n (fresh T) (calls_of s)
unfolding calls_of store_up_to
total-whole f n T s =
    let z : length s / 8 ≡ 0 + length s / 8 = omega arith in
    ap (λ (i : ℕ). sum i (of_call f n T s)) z ∙ sym (total_on f (length s / 8) 0 n T s)
    ∙ omega (arith, sum-none (of_call f n T s))

-- ---- lengths

done-length : (n : ℕ) (st : Store) (c : Call) → length (done_answer n st c) ≡ 8
unfolding done_answer
done-length n st (put s o v) =
    simp (length-append, length-little, length-replicate)
done-length n st (get s o) = simp (length-append, length-little)
done-length n st (deliver w t) = refl
done-length n st close = simp length-little
done-length n st malformed = refl

pub answer-length : (n : ℕ) (st : Store) (c : Call) → length (answer n st c) ≡ 8
unfolding answer
answer-length n st c = go (eqb (refusal n st c) 0)
  where
    go : (t : Bool) → length (cond t (done_answer n st c) (refusal n st c ∷ replicate 7 0)) ≡ 8
    go true = done-length n st c
    go false = refl

pub answers_up_to-length : (k n : ℕ) (T : Terms) (s : List ℕ) → length (answers_up_to k n T s) ≡ 8 * k
unfolding answers_up_to
answers_up_to-length zero n T s = refl
answers_up_to-length (suc k) n T s =
    length-append (answers_up_to k n T s) (answer n (store_up_to k n T s) (call_at s (8 * k)))
    ∙ omega (arith, answer-length n (store_up_to k n T s) (call_at s (8 * k)), answers_up_to-length k n T s)

-- the answer of call k, whatever stands behind the answers
answer_in_lem : (m n : ℕ) (T : Terms) (s rest : List ℕ) (k : ℕ) → k < m
    → answer_in (answers_up_to m n T s ++ rest) k ≡ answer n (store_up_to k n T s) (call_in s k)
unfolding answers_up_to
answer_in_lem zero n T s rest k l = absurd (omega arith)
answer_in_lem (suc m) n T s rest k l =
    let a : List ℕ = answer n (store_up_to m n T s) (call_in s m) in
    ap (λ (x : List ℕ). answer_in x k) (append_assoc (answers_up_to m n T s) a rest)
    ∙ lt_suc_elim k m l
    (λ q. answer_in_lem m n T s (a ++ rest) k q)
    (λ q. rw q
    (ap (take 8) (drop_at (answers_up_to m n T s) (a ++ rest) (8 * m) (answers_up_to-length m n T s))
    ∙ take_at a rest 8 (answer-length n (store_up_to m n T s) (call_in s m))))

-- and byte j of it
pub answer_at : (m n : ℕ) (T : Terms) (s rest : List ℕ) (k : ℕ) → k < m → (j : ℕ) → j < 8
    → get_or (answers_up_to m n T s ++ rest) (8 * k + j) 0 ≡ get_or (answer n (store_up_to k n T s) (call_at s (8 * k))) j 0
answer_at m n T s rest k l j h =
    let all : List ℕ = answers_up_to m n T s ++ rest in
    sym (get_or-take 8 (drop (8 * k) all) j 0 h ∙ get_or-drop (8 * k) all j 0)
    ∙ ap (λ (a : List ℕ). get_or a j 0) (answer_in_lem m n T s rest k l)

-- ---- a script's answers, and what stands behind them

module _ (n : ℕ) (openings s rest : List ℕ) where
  abbrev told : List ℕ
  told = answers n (fresh (terms_of openings)) (calls_of s)

  pub each_answer : (k : ℕ) → k < call_count s → answer_in (told ++ rest) k ≡ answer n (store_before n openings s k) (call_in s k)
  unfolding store_before
  each_answer k l =
      ap (λ (a : List ℕ). answer_in (a ++ rest) k) (sym (answers-whole n (terms_of openings) s))
      ∙ answer_in_lem (call_count s) n (terms_of openings) s rest k l
      ∙ ap (λ (st : Store). answer n st (call_in s k)) (store_up_to_lem k n (terms_of openings) s)

  pub beyond_answers : drop (8 * call_count s) (told ++ rest) ≡ rest
  beyond_answers =
      drop_at told rest (8 * call_count s)
      (ap length (sym (answers-whole n (terms_of openings) s)) ∙ answers_up_to-length (call_count s) n (terms_of openings) s)
