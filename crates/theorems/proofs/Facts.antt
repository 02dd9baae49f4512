-- Plain facts about a sound state, for the code: lengths, ranges and limits.
use mathlib.Core.Path.{◌≡◌, refl, ap}
use mathlib.Core.List.{List, [], ◌∷◌}
use mathlib.Core.Logic.{◌≢◌}
use Prim.Native.Nat.{ℕ, zero, suc, ◌+◌, ◌≤◌, ◌<◌}
use native.Mathlib.Omega.{arith}
use lib.ListN.{length}
use Rattle.laws.specs.Every.{Every}
use Rattle.laws.specs.Sum.{sum, hit}
use Rattle.laws.proofs.Every.{every_map}
use Rattle.laws.proofs.Sum.{sum_one, sum_below, sum_share, inside, hit_same}
use Rattle.graph.specs.Graph.{Graph, objects, references, target}
use Rattle.graph.specs.Chain.{set?}
use Rattle.graph.proofs.OverMarked.{after_limit}
use Rattle.machine.specs.Run.{Run, run, carried}
use Rattle.machine.specs.Machine.{Setting, State, Worker, idle, asking, denied, ended, given, busy, Cell, from, Phase, worker, runs_of, carried_by, carries?, carried_all, live}
use Rattle.machine.specs.Accepted.{Accepted}
use Rattle.machine.specs.Sound.{InTargets, Within, WholeInside, batch_of, batch_in, Supplied, holds, waits, since_of, held_sum, runs_sum, Sound}
use Rattle.theorems.proofs.Marks.{set_some}
use Rattle.theorems.proofs.Room.{runs_few}
use Rattle.theorems.proofs.Runs.{length_carried}

-- 1 for a worker that has not ended
abbrev pub there : Worker → ℕ
there idle = 1
there asking = 1
there denied = 1
there ended = 0
there (given rs) = 1
there (busy c n p rs) = 1

-- a number counts once at most
set_limit : (x : ℕ) → set? x ≤ 1
set_limit zero = omega arith
set_limit (suc k) = omega arith

-- and no more than it is
set_below : (x : ℕ) → set? x ≤ x
set_below zero = omega arith
set_below (suc k) = omega arith

-- a worker with a run counts as one that carries
pub run_counts : (r : Run) (rs : List Run) → set? (carried (r ∷ rs)) ≡ 1
run_counts r rs = set_some (carried (r ∷ rs)) (omega (arith, length_carried (r ∷ rs)))

-- no more marks than objects
pub live_limit : (ms : List ℕ) → live ms ≤ length ms
unfolding live
live_limit ms = omega (arith, sum_below set? (λ (x : ℕ). 1) ms set_limit, sum_one ms)

-- what the conditions ask of one worker, with these marks
pub record WorkerSound (G : Graph) (g : Setting) (ms : List ℕ) (w : Worker) : Type 0 where
  pub within : Every (Within G ms) (runs_of w)
  pub whole : WholeInside G (runs_of w)
  pub supplied : Supplied w
  pub batch_limit : batch_in w ≤ g.batch
  pub batch_carried : batch_in w ≤ carried_by w

-- one that has no runs is as it must be
pub without_runs : {G : Graph} {g : Setting} {ms : List ℕ} (w : Worker) → runs_of w ≡ [] → batch_in w ≡ 0 → Supplied w → WorkerSound G g ms w
without_runs w e z t = record { within = rw e tt; whole = rw e tt; supplied = t; batch_limit = omega arith; batch_carried = omega arith }

-- only an asker without a reply waits
asking_if : (w : Worker) → 0 < waits w → w ≡ asking
asking_if idle h = absurd (omega arith)
asking_if asking h = refl
asking_if denied h = absurd (omega arith)
asking_if ended h = absurd (omega arith)
asking_if (given rs) h = absurd (omega arith)
asking_if (busy c n p rs) h = absurd (omega arith)

module _ {G : Graph} {starts : List ℕ} {W : ℕ} {g : Setting} {s : State} (A : Accepted G starts W g) (S : Sound G starts W g s) where
  -- a worker that has not ended is below W
  pub below_workers : (b : ℕ) → 0 < there (worker s b) → b < W
  below_workers b h = omega (arith, S.sized.workers_length, inside s.workers b ended there refl h)

  -- no more marks are set than there are objects
  pub live_below : s.counts.live ≤ objects G
  live_below = omega (arith, S.live_is, live_limit s.marks, S.sized.marks_length)

  -- no more workers carry references than there are
  pub carrying_limit : s.counts.carrying ≤ W
  carrying_limit =
      omega (
        arith,
        S.carrying_is,
        sum_below carries? (λ (w : Worker). 1) s.workers (λ (w : Worker). set_limit (carried_by w)),
        sum_one s.workers,
        S.sized.workers_length,
      )

  -- a worker that carries some is counted
  pub carrying_at : (b : ℕ) → 0 < carried_by (worker s b) → 0 < s.counts.carrying
  unfolding carried sum
  carrying_at b h = omega (arith, S.carrying_is, sum_share carries? ended refl s.workers b, set_some (carried_by (worker s b)) h)

  -- nobody carries where no reference is carried
  pub carried_none : carried_all s ≡ 0 → s.counts.carrying ≡ 0
  carried_none e = omega (arith, e, S.carrying_is, sum_below carries? carried_by s.workers (λ (w : Worker). set_below (carried_by w)))

  -- no more references are followed than there are
  pub followed_limit : s.counts.followed ≤ references G
  followed_limit = omega (arith, S.total)

  -- nor carried by all
  pub carried_all_limit : carried_all s ≤ references G
  carried_all_limit = omega (arith, S.total)

  -- one worker's share of what all carry
  pub carried_all_at : (b : ℕ) → carried_by (worker s b) ≤ carried_all s
  unfolding carried sum
  carried_all_at b = sum_share carried_by ended refl s.workers b

  -- one worker carries no more references than there are
  pub carried_limit : (b : ℕ) → carried_by (worker s b) ≤ references G
  carried_limit b = omega (arith, carried_all_at b, carried_all_limit)

  -- each worker is sound
  pub each_worker : (b : ℕ) → WorkerSound G g s.marks (worker s b)
  each_worker b =
      record {
        within = S.runs_within b;
        whole = S.runs_whole b;
        supplied = S.supplied b;
        batch_limit = S.batch_limit b;
        batch_carried = S.batch_carried b;
      }

  -- a run lies among the targets
  pub runs_limit : (b : ℕ) → Every (InTargets G) (runs_of (worker s b))
  runs_limit b = every_map (Within G s.marks) (InTargets G) (runs_of (worker s b)) limit (S.runs_within b)
    where
      limit : (r : Run) → Within G s.marks r → InTargets G r
      limit r t = omega (arith, t.ends, after_limit G A.formed t.object t.is_object)

  -- a worker has at most one run more than there are objects
  pub runs_room : (b : ℕ) → length (runs_of (worker s b)) ≤ suc (objects G)
  unfolding runs_sum
  runs_room b =
      let once : (e : ℕ) → runs_sum (hit e) (runs_of (worker s b)) ≤ 1 = λ e.
      omega (arith, S.carried_once e, sum_share (held_sum (hit e)) ended refl s.workers b)
      in
      omega (
        arith,
        runs_few A.formed s.marks (runs_of (worker s b)) (S.runs_within b) (S.runs_whole b) once,
        live_limit s.marks,
        S.sized.marks_length,
      )

  -- ---- worker b is owed a hand-over

  module _ (b : ℕ) {rs : List Run} (e : worker s b ≡ given rs) where
    -- it is below W
    pub given_below : b < W
    given_below = below_workers b (rw e (omega arith))

    -- its runs are as they must be
    pub given_sound : WorkerSound G g s.marks (given rs)
    given_sound = rw e at (each_worker b)

    -- its runs lie among the targets
    pub given_runs_limit : Every (InTargets G) rs
    given_runs_limit = rw e at (runs_limit b)

  -- ---- worker b is busy

  module _ (b : ℕ) {c : Cell} {n : ℕ} {p : Phase} {rs : List Run} (e : worker s b ≡ busy c n p rs) where
    -- it is below W
    pub busy_below : b < W
    busy_below = below_workers b (rw e (omega arith))

    -- its runs and batch are as they must be
    pub busy_sound : WorkerSound G g s.marks (busy c n p rs)
    busy_sound = rw e at (each_worker b)

    -- it has a run
    pub busy_some : 0 < length rs
    busy_some = busy_sound.supplied

    -- it carries something, no more than there is, and no more than all
    pub busy_carried : 0 < carried rs
    busy_carried = omega (arith, busy_some, length_carried rs)

    pub busy_carried_limit : carried rs ≤ references G
    busy_carried_limit = rw e at (carried_limit b)

    pub busy_carried_all : carried rs ≤ carried_all s
    busy_carried_all = rw e at (carried_all_at b)

    -- its runs lie among the targets, and are few
    pub busy_runs_limit : Every (InTargets G) rs
    busy_runs_limit = rw e at (runs_limit b)

    pub busy_room : length rs ≤ suc (objects G)
    busy_room = rw e at (runs_room b)

    -- its batch is at most D
    pub batch_limit : batch_of p ≤ g.batch
    batch_limit = busy_sound.batch_limit

    -- its since is at most followed
    pub since_limit : n ≤ s.counts.followed
    since_limit = omega (arith, S.since_followed, rw e at (sum_share since_of ended refl s.workers b))

  module _ (b : ℕ) {c : Cell} {n : ℕ} {p : Phase} {f k : ℕ} {rs : List Run} (e : worker s b ≡ busy c n p (run f k ∷ rs)) where
    -- its first run's references are there, and the first leads to an object
    pub first_run_limit : f + suc k ≤ references G
    first_run_limit = (busy_runs_limit b e).0

    pub first_target : target G f < objects G
    first_target = A.formed.inside f (omega (arith, first_run_limit))

  -- ---- worker a stands in the cell of b

  module _ (b : ℕ) {a n : ℕ} {p : Phase} {rs : List Run} (e : worker s b ≡ busy (from a) n p rs) where
    -- it waits for a reply
    pub asker_asking : worker s a ≡ asking
    asker_asking =
        let p : hit a a ≤ sum (holds a) s.workers = rw e at (sum_share (holds a) ended refl s.workers b) in
        asking_if (worker s a) (omega (arith, hit_same a, S.cells a))

    -- it is below W, and another worker
    pub asker_below : a < W
    asker_below = below_workers a (rw asker_asking (omega arith))

    pub asker_other : a ≢ b
    asker_other q = omega (arith, ap waits asker_asking, ap waits e, ap (λ (x : ℕ). waits (worker s x)) q)
