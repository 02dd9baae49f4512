-- Rounds of all workers: each is a stretch of demand 3, so enough of them finish, and those behind the end change nothing.
use Prim.Native.Nat.{ℕ, zero, suc, ◌+◌, ◌-◌, ◌*◌, ◌≤◌, ◌<◌}
use mathlib.Core.Path.{◌≡◌, refl, sym, ap, ◌∙◌}
use mathlib.Core.Bool.{Bool, true, false}
use mathlib.Core.Logic.{by_cases}
use mathlib.Core.List.{List, [], ◌∷◌, ◌++◌, append_assoc, append-nil}
use native.Mathlib.Decide.{dec_le}
use native.Mathlib.Nat.{zero-add, suc-add, suc-mul}
use native.Mathlib.Numerals.{add-one}
use native.Mathlib.Omega.{arith}
use borrow.Author.Tests.{lt-ltb}
use lib.ListN.{length, set, take, replicate, length-set, length-append, length-replicate}
use lib.Seq.{take-suc-set, take-length}
use lib.Dec.{ltb}
use Rattle.laws.specs.Blocks.{laid}
use Rattle.laws.specs.Choice.{pick}
use Rattle.laws.specs.Sum.{sum}
use Rattle.laws.proofs.Sum.{hit_same}
use Rattle.graph.specs.Graph.{Graph}
use Rattle.graph.specs.Chain.{leaving_reached}
use Rattle.desk.specs.Checks.{schedule_fits}
use Rattle.machine.specs.Machine.{Setting, State, Entry, start, turns, entries, all_ended}
use Rattle.machine.specs.Accepted.{Accepted}
use Rattle.machine.specs.Demand3.{entries_of, AllHave, joined, Cut, stretch_bound}
use Rattle.theorems.proofs.Progress.{turns_append}
use Rattle.theorems.proofs.Ended.{ended_turns}
use Rattle.theorems.proofs.Demand3.{demand3}
use Rattle.rounds.specs.Whole.{next_of, round_from, rounds_of}
use Rattle.rounds.specs.Whole.{own_turn}

-- ---- one round

-- it fits W workers
round_fits : (W b k : ℕ) (l : List ℕ) → b + k ≤ W → schedule_fits W l ≡ true → schedule_fits W (round_from W b k ++ l) ≡ true
unfolding round_from schedule_fits
round_fits W b zero l h f = f
round_fits W b (suc k) l h f = rw (lt-ltb b W (omega arith)) (round_fits W (b + 1) k l (omega arith) f)

pub round_fits_alone : (W : ℕ) → schedule_fits W (round_from W 0 W) ≡ true
unfolding schedule_fits
round_fits_alone W = rw (append-nil (round_from W 0 W)) at (round_fits W 0 W [] (omega arith) refl)

pub round_long : (W b k : ℕ) → length (round_from W b k) ≡ 2 * k
unfolding round_from
round_long W b zero = refl
round_long W b (suc k) = omega (arith, round_long W (b + 1) k)

-- its entries stand before those of what follows
round_entries : (W b k : ℕ) (l : List ℕ) → entries (round_from W b k ++ l) ≡ entries (round_from W b k) ++ entries l
unfolding round_from entries
round_entries W b zero l = refl
round_entries W b (suc k) l = ap (λ (xs : List Entry). record { worker = b; named = next_of W b } ∷ xs) (round_entries W (b + 1) k l)

-- it has an entry for each of its workers
round_has : (W b c k : ℕ) → c ≤ b → b < c + k → 0 < entries_of b (entries (round_from W c k))
unfolding round_from entries sum
round_has W b c zero l h = absurd (omega arith)
round_has W b c (suc k) l h =
    by_cases (dec_le (c + 1) b)
    (λ (p : c + 1 ≤ b). omega (arith, round_has W b (c + 1) k p (omega arith)))
    (λ (p : ¬ (c + 1 ≤ b)). let e : c ≡ b = omega arith in rw e (omega (arith, hit_same b)))

-- one worker more
pub round_more : (W b k : ℕ) → round_from W b (suc k) ≡ round_from W b k ++ ((b + k) ∷ next_of W (b + k) ∷ [])
unfolding round_from
round_more W b zero = let e : b + 0 ≡ b = omega arith in rw e refl
round_more W b (suc k) =
    let e : b + suc k ≡ b + 1 + k = omega arith in
    rw e (ap (λ (l : List ℕ). b ∷ next_of W b ∷ l) (round_more W (b + 1) k))

-- its bytes, two at a time
pub round_put : (W k : ℕ) (r : List ℕ) → 2 * k + 2 ≤ length r → take (2 * k) r ≡ round_from W 0 k
    → take (2 * (k + 1)) (set (set r (2 * k) k) (2 * k + 1) (next_of W k)) ≡ round_from W 0 (k + 1)
round_put W k r l e =
    let two : 2 * (k + 1) ≡ suc (2 * k + 1) = omega arith in
    let one : 2 * k + 1 ≡ suc (2 * k) = omega arith in
    let z : 0 + k ≡ k = omega arith in
    let r' : round_from W 0 (k + 1) ≡ round_from W 0 k ++ (k ∷ next_of W k ∷ []) = ap (round_from W 0) (add-one k) ∙ round_more W 0 k ∙ rw z refl in
    rw (two, take-suc-set (set r (2 * k) k) (2 * k + 1) (next_of W k) (simp length-set (omega arith)), one, take-suc-set r (2 * k) k (omega arith), e, append_assoc)
    (sym r')

pub round_whole : (W b : ℕ) (r : List ℕ) → b ≡ W → length r ≡ 2 * W → take (2 * b) r ≡ round_from W 0 b → r ≡ round_from W 0 W
round_whole W b r e l h =
    let n : length r ≡ 2 * b = omega (arith, e, l) in
    sym (take-length r) ∙ ap (λ (n : ℕ). take n r) n ∙ h ∙ ap (round_from W 0) e

pub next_low : (W b : ℕ) → next_of W b ≤ b + 1
next_low W b = by (ltb (b + 1) W)
  where
    by : (t : Bool) → pick t (b + 1) 0 ≤ b + 1
    by true = omega arith
    by false = omega arith

-- ---- so many rounds

pub rounds_fit : (W k : ℕ) → schedule_fits W (rounds_of W k) ≡ true
unfolding rounds_of schedule_fits
rounds_fit W zero = refl
rounds_fit W (suc k) = round_fits W 0 W (rounds_of W k) (omega arith) (rounds_fit W k)

pub rounds_long : (W k : ℕ) → length (rounds_of W k) ≡ k * (2 * W)
unfolding rounds_of
rounds_long W zero = omega arith
rounds_long W (suc k) = rw (length-append, suc-mul k (2 * W)) (omega (arith, round_long W 0 W, rounds_long W k))

module _ (W : ℕ) where
  abbrev round : List Entry
  round = entries (round_from W 0 W)

  rounds_joined : (k : ℕ) → joined (replicate k round) ≡ entries (rounds_of W k)
  unfolding rounds_of joined laid entries
  rounds_joined zero = refl
  rounds_joined (suc k) = ap (λ (xs : List Entry). round ++ xs) (rounds_joined k) ∙ sym (round_entries W 0 W (rounds_of W k))

  rounds_have : (k : ℕ) → AllHave W (replicate k round)
  rounds_have zero = tt
  rounds_have (suc k) = (λ b h. round_has W b 0 W (omega arith) (omega arith), rounds_have k)

  -- each round is a stretch
  rounds_cut : (k : ℕ) → Cut W k (entries (rounds_of W k))
  rounds_cut k = record { stretches = replicate k round; number = length-replicate k round; whole = rounds_joined k; each = rounds_have k }

  -- some rounds, and some more
  rounds_add : (i j : ℕ) → entries (rounds_of W (i + j)) ≡ entries (rounds_of W i) ++ entries (rounds_of W j)
  unfolding rounds_of entries
  rounds_add zero j = rw (zero-add j) refl
  rounds_add (suc i) j =
      rw (suc-add i j)
      (round_entries W 0 W (rounds_of W (i + j)) ∙ ap (λ (xs : List Entry). round ++ xs) (rounds_add i j)
      ∙ sym (append_assoc round (entries (rounds_of W i)) (entries (rounds_of W j)))
      ∙ ap (λ (xs : List Entry). xs ++ entries (rounds_of W j)) (sym (round_entries W 0 W (rounds_of W i))))

  one_round : entries (rounds_of W 1) ≡ round
  unfolding rounds_of
  one_round = ap (λ (l : List ℕ). entries l) (append-nil (round_from W 0 W))

-- ---- the end

module _ {G : Graph} {starts : List ℕ} {W : ℕ} {g : Setting} (A : Accepted G starts W g) where
  abbrev after : ℕ → State
  after k = turns G g (start G starts W) (entries (rounds_of W k))

  pub after_more : (i j : ℕ) → after (i + j) ≡ turns G g (after i) (entries (rounds_of W j))
  after_more i j = rw (rounds_add W i j) (turns_append G g (start G starts W) (entries (rounds_of W i)) (entries (rounds_of W j)))

  pub after_one : (i : ℕ) → after (i + 1) ≡ turns G g (after i) (entries (round_from W 0 W))
  after_one i = after_more i 1 ∙ rw (one_round W) refl

  -- behind the end nothing changes
  still : (i j : ℕ) → all_ended (after i).workers ≡ true → after (i + j) ≡ after i
  still i j h = after_more i j ∙ ended_turns G g (after i) h (entries (rounds_of W j))

  abbrev enough : ℕ
  enough = stretch_bound (leaving_reached G starts) W

  pub enough_end : all_ended (after enough).workers ≡ true
  enough_end = (demand3 A (entries (rounds_of W enough))).finishes (rounds_cut W enough)

  -- where all have ended after some rounds, that is the state after enough
  pub enough_same : (k : ℕ) → all_ended (after k).workers ≡ true → after enough ≡ after k
  enough_same k h =
      by_cases (dec_le k enough)
      (λ (p : k ≤ enough). let e : enough ≡ k + (enough - k) = omega arith in ap after e ∙ still k (enough - k) h)
      (λ (p : ¬ (k ≤ enough)). let e : k ≡ enough + (k - enough) = omega arith in sym (ap after e ∙ still enough (k - enough) enough_end))

-- the rounds of one worker are its turns
pub own_rounds : (k : ℕ) → entries (rounds_of 1 k) ≡ replicate k own_turn
unfolding rounds_of entries
own_rounds zero = refl
own_rounds (suc k) = ap (λ (xs : List Entry). own_turn ∷ xs) (own_rounds k)
