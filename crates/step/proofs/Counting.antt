-- The counts that a progress and the tallies make: after a turn they are the machine's, and at the end each is what a word
-- holds.
use mathlib.Core.Path.{◌≡◌, refl, sym, ap, ◌∙◌}
use mathlib.Core.List.{List, [], ◌∷◌, ◌++◌}
use Prim.Native.Nat.{ℕ, ◌+◌, ◌*◌, ◌≤◌, ◌<◌, ◌^◌}
use native.Mathlib.Omega.{arith}
use lib.ListN.{length, get_or, take}
use lib.Seq.{take-length}
use Rattle.laws.specs.Blocks.{laid}
use Rattle.laws.proofs.Blocks.{length_laid}
use Rattle.laws.specs.Sum.{sum}
use Rattle.graph.specs.Graph.{Graph, objects, references}
use Rattle.graph.specs.Limits.{most_objects, most_references}
use Rattle.machine.specs.declared.Counts.{Counts}
use Rattle.machine.specs.Row.{count_move, count_follow}
use Rattle.machine.specs.Tally.{Tally, tally, no_tally, tallied, tally_words, tallies_words}
use Rattle.machine.specs.Machine.{State}
use Rattle.machine.specs.Accepted.{Accepted}
use Rattle.machine.specs.Sound.{Sound}
use Rattle.theorems.proofs.Facts.{live_below, followed_limit}
use Rattle.theorems.proofs.Tallied.{more, raised_sum}
use Rattle.step.specs.declared.Setup.{Setup}
use Rattle.step.specs.declared.Progress.{Progress}
use Rattle.step.specs.Counting.{counts_of, tally_word, Summable, Countable, moved_on, ended_one, followed_on}
use Rattle.step.specs.Held.{Memory, setting_of, Holds}

-- counts that agree number by number are the same
same_counts : {c d : Counts} → c.live ≡ d.live → c.followed ≡ d.followed → c.handed ≡ d.handed → c.refused ≡ d.refused
    → c.moved ≡ d.moved → c.carrying ≡ d.carrying → c ≡ d
same_counts {c} {d} l f h r m k =
    rw (l, f, h, r, m, k) refl

-- what a state that is held has after a turn
module _ {G : Graph} {g : Setup} {s : State} {μ : Memory} (h : Holds G g s μ) where
  -- that raises no tally
  pub moved_counts : (k : ℕ) → counts_of (moved_on μ.progress 0 k) s.tallies ≡ count_move s.counts 0 k
  moved_counts k = rw (← h.counts_are) (same_counts refl refl (omega arith) refl refl refl)

  pub ended_counts : counts_of (ended_one μ.progress) s.tallies ≡ count_move s.counts 0 0
  ended_counts = rw (← h.counts_are) (same_counts refl refl (omega arith) (omega arith) refl (omega arith))

  -- that raises worker b's
  module _ (b : ℕ) (there : b < length s.tallies) where
    module _ (y : Tally) where
      won_more : sum (λ (t : Tally). t.won) (tallied s.tallies b y) ≡ sum (λ (t : Tally). t.won) s.tallies + y.won
      won_more = raised_sum (λ (t : Tally). t.won) refl (λ x y. refl) (more there)

      followed_more : sum (λ (t : Tally). t.followed) (tallied s.tallies b y) ≡ sum (λ (t : Tally). t.followed) s.tallies + y.followed
      followed_more = raised_sum (λ (t : Tally). t.followed) refl (λ x y. refl) (more there)

      handed_more : sum (λ (t : Tally). t.handed) (tallied s.tallies b y) ≡ sum (λ (t : Tally). t.handed) s.tallies + y.handed
      handed_more = raised_sum (λ (t : Tally). t.handed) refl (λ x y. refl) (more there)

    pub shared_counts : counts_of (moved_on μ.progress 1 0) (tallied s.tallies b (tally 0 0 0 1)) ≡ count_move s.counts 1 0
    shared_counts =
        let y = tally 0 0 0 1 in
        rw (← h.counts_are)
        (same_counts (omega (arith, won_more y)) (omega (arith, followed_more y)) (omega (arith, handed_more y)) refl refl refl)

    pub followed_counts : (w l k m : ℕ) → counts_of (followed_on μ.progress k m) (tallied s.tallies b (tally 1 w l 0)) ≡ count_follow s.counts w k m
    followed_counts w l k m =
        let y = tally 1 w l 0 in
        rw (← h.counts_are)
        (same_counts (omega (arith, won_more y)) (omega (arith, followed_more y)) (omega (arith, handed_more y)) refl refl refl)

-- ---- the words of tallies added up, a tally after the other

-- what is left are the words of these tallies, and with what is added up they make the whole
pub record Left (k : ℕ) (rest : List ℕ) (added whole : ℕ) : Type 0 where
  pub tallies : List Tally
  pub words_are : rest ≡ tallies_words tallies
  pub sums : added + sum (tally_word k) tallies ≡ whole

-- the next four words are the next tally's, and no sum wraps
pub record Next (k : ℕ) (rest : List ℕ) (added whole : ℕ) : Type 0 where
  pub left : Left k rest added whole
  pub low : added ≤ whole

pub left_next : {k added whole : ℕ} {rest rest' : List ℕ} (x : List ℕ) → Left k rest added whole → rest ≡ x ++ rest' → length x ≡ 4
    → Next k rest' (added + get_or x k 0) whole
unfolding tallies_words laid sum
left_next {k} {added} {whole} {rest} {rest'} x l e n = by l.tallies x n (sym l.words_are ∙ e) l.sums
  where
    by : (ts : List Tally) (x : List ℕ) → length x ≡ 4 → tallies_words ts ≡ x ++ rest' → added + sum (tally_word k) ts ≡ whole
        → Next k rest' (added + get_or x k 0) whole
    by [] (a ∷ b ∷ c ∷ d ∷ []) n e s = absurd (cc)
    by (t ∷ ts) (a ∷ b ∷ c ∷ d ∷ []) n e s =
        let words : tally_words t ≡ a ∷ b ∷ c ∷ d ∷ [] = cc in
        let word : tally_word k t ≡ get_or (a ∷ b ∷ c ∷ d ∷ []) k 0 = ap (λ (l : List ℕ). get_or l k 0) words in
        let rest : rest' ≡ tallies_words ts = cc in
        record { left = record { tallies = ts; words_are = rest; sums = omega arith }; low = omega arith }
    by ts [] n e s = absurd (omega arith)
    by ts (a ∷ []) n e s = absurd (omega arith)
    by ts (a ∷ b ∷ []) n e s = absurd (omega arith)
    by ts (a ∷ b ∷ c ∷ []) n e s = absurd (omega arith)
    by ts (a ∷ b ∷ c ∷ d ∷ f ∷ x) n e s = absurd (omega arith)

-- where not four are left, there is no tally
pub left_none : {k added whole : ℕ} {rest : List ℕ} → Left k rest added whole → length rest < 4 → added ≡ whole
unfolding tallies_words laid sum
left_none {k} {added} {whole} {rest} l n = by l.tallies l.words_are l.sums
  where
    by : (ts : List Tally) → rest ≡ tallies_words ts → added + sum (tally_word k) ts ≡ whole → added ≡ whole
    by [] e s = omega arith
    by (t ∷ ts) e s = absurd (omega (arith, ap length e))

module _ {ws : List ℕ} {W k : ℕ} (x : Summable ws W k) where
  pub words_length : 4 * W ≡ length ws
  unfolding tallies_words
  words_length = rw x.words_are (omega (arith, x.count, length_laid tally_words 4 no_tally x.tallies (λ (i : ℕ). refl)))

  pub left_all : Left k (take (4 * W) ws) 0 (sum (tally_word k) x.tallies)
  left_all =
      let e : take (4 * W) ws ≡ ws = rw words_length (take-length ws) in
      record { tallies = x.tallies; words_are = e ∙ x.words_are; sums = omega arith }

-- each count is what a word holds, so what it is made of is
module _ {ws : List ℕ} {W : ℕ} {p : Progress} (x : Countable ws W p) where
  abbrev summable : (k : ℕ) → k < 4 → sum (tally_word k) x.tallies < 2 ^ 64 → Summable ws W k
  summable k low fits =
      record { tallies = x.tallies; words_are = x.words_are; count = x.count; few = x.few; low = low; fits = fits }

  abbrev pub won_sums : Summable ws W 1
  won_sums = summable 1 (omega arith) (omega (arith, x.live_fits))

  abbrev pub followed_sums : Summable ws W 0
  followed_sums = summable 0 (omega arith) x.followed_fits

  abbrev pub handed_sums : Summable ws W 3
  handed_sums = summable 3 (omega arith) x.handed_fits

-- at the end of a sound collection that is held
abbrev pub countable : {G : Graph} {starts : List ℕ} {g : Setup} {s : State} {μ : Memory} → Accepted G starts g.workers (setting_of g)
    → Sound G starts g.workers (setting_of g) s → objects G ≤ most_objects → references G ≤ most_references → s.counts.handed < 2 ^ 64
    → Holds G g s μ → Countable μ.tallies g.workers μ.progress
countable {s = s} a n o r d h =
    record {
      tallies = s.tallies;
      words_are = h.tallies_are;
      count = n.sized.tallies_length;
      few = a.workers_limit;
      live_fits = omega (arith, ap (λ (c : Counts). c.live) h.counts_are, live_below a n, o);
      followed_fits = omega (arith, ap (λ (c : Counts). c.followed) h.counts_are, followed_limit a n, r);
      handed_fits = omega (arith, ap (λ (c : Counts). c.handed) h.counts_are, d);
    }
