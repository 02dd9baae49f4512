-- What sums over the workers of a state are, said of the words that tell of it.
use mathlib.Core.Path.{◌≡◌, sym, ap, ◌∙◌}
use mathlib.Core.List.{List}
use Prim.Native.Nat.{ℕ, suc, ◌+◌, ◌≤◌, ◌<◌}
use native.Mathlib.Nat.{zero-add}
use lib.ListN.{get_or, take, drop, get_or-eq_default}
use Rattle.laws.specs.Grouping.{itself}
use Rattle.laws.specs.Span.{span, listing}
use Rattle.laws.specs.Sum.{sum, hit}
use Rattle.laws.proofs.Passing.{span_plus, span_agree, sum_listing}
use Rattle.laws.proofs.Span.{listing_length, listing_at}
use Rattle.graph.specs.Chain.{set?}
use Rattle.desk.specs.Lengths.{marks_place}
use Rattle.machine.specs.Run.{Run, carried}
use Rattle.machine.specs.Tally.{Tally, no_tally}
use Rattle.machine.specs.Machine.{Worker, ended, worker, runs_of, carried_by, carries?, carried_all, stopped}
use Rattle.machine.specs.Sound.{holds, since_of, runs_sum, held_sum, carried_times, tally_of}
use Rattle.saved.specs.Layout.{worker_word, stretch_in, worker_in, rested_in, tally_in, state_of, runs_in}
use Rattle.protocol.specs.Heads.{HeadsSound, ended_words, since_words, holders}
use Rattle.frontier.specs.Runs.{runs_at, times_words, carried_words, carrying_words}
use Rattle.validate.proofs.Reading.{Reads, reads}

-- the marks
abbrev pub marks_in : ℕ → ℕ → List ℕ → List ℕ
marks_in n W w = take n (drop (marks_place W) w)

module _ (n W : ℕ) (w : List ℕ) where
  -- worker b; those from W on are not there
  pub worker_in_lem : (b : ℕ) → b < W → worker (state_of n W w) b ≡ worker_in n W w b
  unfolding state_of
  worker_in_lem b h = listing_at (worker_in n W w) ended 0 W b h ∙ ap (worker_in n W w) (zero-add b)

  pub worker_out : (b : ℕ) → W ≤ b → worker (state_of n W w) b ≡ ended
  unfolding state_of
  worker_out b h = get_or-eq_default (listing (worker_in n W w) 0 W) ended (rw (listing_length (worker_in n W w) 0 W) h)

  pub rested_in_lem : (b : ℕ) → b < W → get_or (state_of n W w).rested b 0 ≡ rested_in w b
  unfolding state_of
  rested_in_lem b h = listing_at (rested_in w) 0 0 W b h ∙ ap (rested_in w) (zero-add b)

  pub tally_in_lem : (b : ℕ) → b < W → tally_of (state_of n W w) b ≡ tally_in W w b
  unfolding state_of
  tally_in_lem b h = listing_at (tally_in W w) no_tally 0 W b h ∙ ap (tally_in W w) (zero-add b)

  pub tally_out : (b : ℕ) → W ≤ b → tally_of (state_of n W w) b ≡ no_tally
  unfolding state_of
  tally_out b h = get_or-eq_default (listing (tally_in W w) 0 W) no_tally (rw (listing_length (tally_in W w) 0 W) h)

  -- sums
  pub sum_workers : (f : Worker → ℕ) → sum f (state_of n W w).workers ≡ span (λ (b : ℕ). f (worker_in n W w b)) 0 W
  unfolding state_of
  sum_workers f = sum_listing (worker_in n W w) f 0 W

  pub sum_tallies : (f : Tally → ℕ) → sum f (state_of n W w).tallies ≡ span (λ (b : ℕ). f (tally_in W w b)) 0 W
  unfolding state_of
  sum_tallies f = sum_listing (tally_in W w) f 0 W

  sum_rested : sum itself (state_of n W w).rested ≡ span (rested_in w) 0 W
  unfolding state_of
  sum_rested = sum_listing (rested_in w) itself 0 W

  module _ {D : ℕ} (heads : HeadsSound W D w) where
    pub read : (b : ℕ) → b < W
        → Reads (worker_word w b 0) (worker_word w b 1) (worker_word w b 2) (worker_word w b 3) (runs_in (stretch_in n W w b)) (worker_in n W w b)
    read b h = reads (worker_word w b 0) (heads b h)

    pub runs_in_lem : (b : ℕ) → b < W → runs_of (worker_in n W w b) ≡ runs_at n W w b
    runs_in_lem b h = (read b h).runs

    pub times_told : (e : ℕ) → carried_times (state_of n W w) e ≡ times_words n W w e W
    times_told e =
        sum_workers (held_sum (hit e))
        ∙ span_agree (λ (b : ℕ). held_sum (hit e) (worker_in n W w b)) (λ (b : ℕ). runs_sum (hit e) (runs_at n W w b)) W
        (λ b h. ap (runs_sum (hit e)) (runs_in_lem b h))

    pub carried_told : carried_all (state_of n W w) ≡ carried_words n W w W
    carried_told =
        sum_workers carried_by
        ∙ span_agree (λ (b : ℕ). carried_by (worker_in n W w b)) (λ (b : ℕ). carried (runs_at n W w b)) W (λ b h. ap carried (runs_in_lem b h))

    pub carrying_told : sum carries? (state_of n W w).workers ≡ carrying_words n W w W
    carrying_told =
        sum_workers carries?
        ∙ span_agree (λ (b : ℕ). carries? (worker_in n W w b)) (λ (b : ℕ). set? (carried (runs_at n W w b))) W
        (λ b h. ap (λ (l : List Run). set? (carried l)) (runs_in_lem b h))

    pub ended_told : sum stopped (state_of n W w).workers ≡ ended_words w W
    ended_told =
        sum_workers stopped
        ∙ span_agree (λ (b : ℕ). stopped (worker_in n W w b)) (λ (b : ℕ). hit 3 (worker_word w b 0)) W (λ b h. (read b h).stopping)

    pub holds_told : (a : ℕ) → sum (holds a) (state_of n W w).workers ≡ holders w a W
    holds_told a =
        sum_workers (holds a)
        ∙ span_agree (λ (b : ℕ). holds a (worker_in n W w b)) (λ (b : ℕ). hit (suc a) (worker_word w b 1)) W (λ b h. (read b h).holding a)

    pub since_told : sum since_of (state_of n W w).workers + sum itself (state_of n W w).rested ≡ since_words w W
    since_told =
        rw (sum_workers since_of, sum_rested)
        (sym (span_plus (λ (b : ℕ). since_of (worker_in n W w b)) (rested_in w) 0 W)
        ∙ span_agree (λ (b : ℕ). since_of (worker_in n W w b) + rested_in w b) (λ (b : ℕ). worker_word w b 2) W (λ b h. (read b h).since))
