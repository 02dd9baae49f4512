-- SPECIFICATION 8.2 as a test that can be computed, condition by condition. `proofs/Exact` shows that it is exactly `SavedRun`.
use Rattle.std.specs.Prelude.{ℕ, suc, ◌+◌, ◌*◌, Bool, true, not, List, [], ◌∷◌, length, get_or, leb, ltb, eqb}
use Rattle.laws.specs.Choice.{both, either}
use Rattle.laws.specs.Grouping.{itself}
use Rattle.laws.specs.Span.{span}
use Rattle.laws.specs.Sum.{sum}
use Rattle.laws.specs.Test.{all, all_up_to, some_up_to, same}
use Rattle.graph.specs.Graph.{Graph, objects, references, first, after, target}
use Rattle.graph.specs.Leaving.{leaving_unmarked}
use Rattle.machine.specs.Ring.{black_below}
use Rattle.machine.specs.Run.{Run, run}
use Rattle.machine.specs.Tally.{Tally}
use Rattle.machine.specs.Machine.{Setting, State, Worker, idle, asking, denied, ended, given, busy, empty, from, worker, runs_of, carried_by, carries?, carried_all, live, stopped}
use Rattle.machine.specs.Sound.{batch_in, holds, waits, since_of, carried_times, followed_sum, handed_sum, won_sum, distinct_starts}
use Rattle.machine.specs.Demand3.{moved_bound, handed_bound}
use Rattle.saved.specs.Layout.{saved_words, state_of}

-- object v is marked
abbrev pub marked? : List ℕ → ℕ → Bool
marked? ms v = ltb 0 (get_or ms v 0)

-- the run lies among the references of marked object v; it is all of them
abbrev pub within_at? : Graph → List ℕ → Run → ℕ → Bool
within_at? G ms (run f k) v = both (marked? ms v) (both (leb (first G v) f) (leb (f + suc k) (after G v)))

abbrev pub whole_at? : Graph → Run → ℕ → Bool
whole_at? G (run f k) v = both (eqb f (first G v)) (eqb (f + suc k) (after G v))

-- of some object
abbrev pub within? : Graph → List ℕ → Run → Bool
within? G ms r = some_up_to (objects G) (within_at? G ms r)

abbrev pub whole? : Graph → Run → Bool
whole? G r = some_up_to (objects G) (whole_at? G r)

-- all but the last of some runs are whole; all but the first and the last
unfoldable pub whole_but_last? : Graph → List Run → Bool
unfolding some_up_to
whole_but_last? G [] = true
whole_but_last? G (r ∷ []) = true
whole_but_last? G (r ∷ q ∷ rs) = both (whole? G r) (whole_but_last? G (q ∷ rs))

abbrev pub whole_inside? : Graph → List Run → Bool
whole_inside? G [] = true
whole_inside? G (r ∷ rs) = whole_but_last? G rs

-- reference e leaves object v
abbrev pub leaves? : Graph → ℕ → ℕ → Bool
leaves? G e v = both (leb (first G v) e) (ltb e (after G v))

-- where it leaves a marked object and nobody carries it, its target is marked
abbrev pub target_marked? : Graph → State → ℕ → ℕ → Bool
target_marked? G s v e =
    either (not (leaves? G e v))
    (either (not (marked? s.marks v))
    (either (ltb 0 (carried_times s e))
    (marked? s.marks (target G e))))

-- a worker that is busy or owed a hand-over has runs
abbrev pub supplied? : Worker → Bool
supplied? idle = true
supplied? asking = true
supplied? denied = true
supplied? ended = true
supplied? (given rs) = ltb 0 (length rs)
supplied? (busy c n p rs) = ltb 0 (length rs)

-- whoever is in the worker's cell is one of the W workers
abbrev pub cell_known? : ℕ → Worker → Bool
cell_known? W idle = true
cell_known? W asking = true
cell_known? W denied = true
cell_known? W ended = true
cell_known? W (given rs) = true
cell_known? W (busy empty n p rs) = true
cell_known? W (busy (from a) n p rs) = ltb a W

-- a tally with no more claims than references followed
abbrev pub claims? : Tally → Bool
claims? t = leb (t.won + t.lost) t.followed

-- worker b is not above the holder, or carries nothing
abbrev pub clear? : State → ℕ → Bool
clear? s b = either (leb b s.ring.holder) (eqb (carried_by (worker s b)) 0)

-- the conditions, in their order
unfoldable pub conditions : Graph → List ℕ → ℕ → Setting → State → List Bool
unfolding all all_up_to some_up_to whole_but_last? sum span
conditions G starts W g s =
    all (λ (x : ℕ). leb x W) s.marks
    ∷ all (marked? s.marks) starts
    ∷ eqb s.counts.live (live s.marks)
    ∷ eqb s.counts.carrying (sum carries? s.workers)
    ∷ all (λ (w : Worker). all (within? G s.marks) (runs_of w)) s.workers
    ∷ all (λ (w : Worker). whole_inside? G (runs_of w)) s.workers
    ∷ all_up_to (references G) (λ (e : ℕ). leb (carried_times s e) 1)
    ∷ eqb (s.counts.followed + carried_all s + leaving_unmarked G s.marks) (references G)
    ∷ all_up_to (objects G) (λ (v : ℕ). all_up_to (references G) (target_marked? G s v))
    ∷ all supplied? s.workers
    ∷ all (cell_known? W) s.workers
    ∷ all_up_to W (λ (a : ℕ). eqb (sum (holds a) s.workers) (waits (worker s a)))
    ∷ all (λ (w : Worker). leb (batch_in w) g.batch) s.workers
    ∷ all (λ (w : Worker). leb (batch_in w) (carried_by w)) s.workers
    ∷ either (eqb (sum stopped s.workers) 0) (eqb (carried_all s) 0)
    ∷ leb s.counts.moved (moved_bound (references G) W)
    ∷ leb (s.counts.handed * g.cutoff) (handed_bound (references G))
    ∷ leb (sum since_of s.workers + sum itself s.rested) s.counts.followed
    ∷ all_up_to W (λ (b : ℕ). either (eqb (carried_by (worker s b)) 0) (eqb (get_or s.rested b 0) 0))
    ∷ leb s.counts.refused s.counts.moved
    ∷ eqb (followed_sum s) s.counts.followed
    ∷ eqb (handed_sum s) s.counts.handed
    ∷ eqb (won_sum s + distinct_starts G starts) s.counts.live
    ∷ all claims? s.tallies
    ∷ ltb s.ring.holder W
    ∷ either (ltb 0 (black_below s.ring)) (all_up_to W (clear? s))
    ∷ either (eqb (sum stopped s.workers) 0) (both (eqb (stopped (worker s 0)) 1) (eqb s.ring.holder 0))
    ∷ []

-- they all hold
unfoldable pub sound? : Graph → List ℕ → ℕ → Setting → State → Bool
unfolding all conditions
sound? G starts W g s = all (λ (t : Bool). t) (conditions G starts W g s)

-- the words hold a state at all: they are those of the state that they tell of
unfoldable pub held? : ℕ → ℕ → List ℕ → Bool
unfolding same
held? n W w = same w (saved_words n (state_of n W w))

-- the words hold a sound state
unfoldable pub saved? : Graph → List ℕ → ℕ → Setting → List ℕ → Bool
unfolding held? sound?
saved? G starts W g w = both (held? (objects G) W w) (sound? G starts W g (state_of (objects G) W w))
