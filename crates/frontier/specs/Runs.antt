-- The stretches, and what the functions on them say.
use Rattle.std.specs.Prelude.{◌≡◌, Bool, Option, MatchOption, List, [], ◌++◌, ℕ, suc, ◌+◌, ◌-◌, ◌*◌, ◌≤◌, ◌<◌, ltb, length, get_or, take, replicate}
use Rattle.laws.specs.Choice.{pick}
use Rattle.laws.specs.Decides.{Decides}
use Rattle.laws.specs.Every.{Every}
use Rattle.laws.specs.Span.{span}
use Rattle.laws.specs.Sum.{hit}
use Rattle.graph.specs.Graph.{Graph, objects, references, first, after, target}
use Rattle.graph.specs.Chain.{set?}
use Rattle.graph.specs.Formed.{Formed}
use Rattle.graph.specs.Limits.{most_objects, most_references}
use Rattle.desk.specs.Limits.{most_workers}
use Rattle.desk.specs.Lengths.{saved_length}
use Rattle.machine.specs.Run.{Run, run, carried, pairs}
use Rattle.machine.specs.Sound.{Marked, Within, Whole, WholeInside, runs_sum}
use Rattle.worker.specs.Registers.{status_given}
use Rattle.saved.specs.Layout.{worker_word, stretch_in, runs_in}
use Rattle.frontier.specs.declared.runs.Runs.{Runs}
use Rattle.frontier.specs.declared.runs.Loads.{Loads}

-- ---- one run

-- offsets that do not fall, with an object whose references e is among
pub record HasOwner (os : List ℕ) (e : ℕ) : Type 0 where
  pub some : 2 ≤ length os
  pub rise : (v k : ℕ) → v + k < length os → get_or os v 0 ≤ get_or os (v + k) 0
  pub begins : get_or os 0 0 ≤ e
  pub ends : e < get_or os (length os - 1) 0

-- that object
pub record Owns (os : List ℕ) (e v : ℕ) : Type 0 where
  pub object : v + 1 < length os
  pub from : get_or os v 0 ≤ e
  pub below : e < get_or os (v + 1) 0

-- a graph, and a mark for each object
pub record Marking (G : Graph) (ms : List ℕ) : Type 0 where
  pub formed : Formed G
  pub some : 1 ≤ objects G
  pub objects_limit : objects G ≤ most_objects
  pub marks_length : length ms ≡ objects G

-- the run of a pair
abbrev pub run_of : ℕ → ℕ → Run
run_of from to = run from (to - suc from)

-- a run is within, and whether it is whole
pub record RunIs (G : Graph) (ms : List ℕ) (from to : ℕ) (r : Bool) : Type 0 where
  pub within : Within G ms (run_of from to)
  pub whole : Decides r (Whole G (run_of from to))

-- what `check_run` says of a run: nothing exactly where it is not within
abbrev pub RunFound : Graph → List ℕ → ℕ → ℕ → Option Bool → Type 0
RunFound G ms from to r = MatchOption r (¬ Within G ms (run_of from to)) (RunIs G ms from to)

-- ---- one stretch

-- runs that may stand in a stretch
pub record RunsSound (G : Graph) (ms : List ℕ) (rs : List Run) : Type 0 where
  pub within : Every (Within G ms) rs
  pub whole : WholeInside G rs

-- what the runs of a stretch come to that may stand in it
pub record RunsCounted (G : Graph) (ms st : List ℕ) (r : Runs) : Type 0 where
  pub right : RunsSound G ms (runs_in st)
  pub number : r.pairs ≡ length (runs_in st)
  pub words : take (2 * r.pairs) st ≡ pairs (runs_in st)
  pub total : r.carried ≡ carried (runs_in st)
  pub room : 2 * r.pairs ≤ length st
  pub low : r.carried ≤ 4294967296 * length st

-- what `check_runs` says of a stretch: nothing exactly where they may not
abbrev pub RunsFound : Graph → List ℕ → List ℕ → Option Runs → Type 0
RunsFound G ms st r = MatchOption r (¬ RunsSound G ms (runs_in st)) (RunsCounted G ms st)

-- the runs of a worker with this status: one that carries nothing has none
abbrev pub runs_for : ℕ → List ℕ → List Run
runs_for status st = pick (ltb status status_given) [] (runs_in st)

-- a stretch has the pairs of the worker's runs, then zeros; a worker that carries has runs, and its batch is among them
pub record StretchSound (G : Graph) (ms : List ℕ) (status batch : ℕ) (st : List ℕ) (rs : List Run) : Type 0 where
  pub within : Every (Within G ms) rs
  pub whole : WholeInside G rs
  pub words : st ≡ pairs rs ++ replicate (length st - length (pairs rs)) 0
  pub supplied : status_given ≤ status → 0 < length rs
  pub batch_carried : batch ≤ carried rs

-- the stretch is sound, and k references are carried
pub record LoadIs (G : Graph) (ms : List ℕ) (status batch : ℕ) (st : List ℕ) (k : ℕ) : Type 0 where
  pub right : StretchSound G ms status batch st (runs_for status st)
  pub total : k ≡ carried (runs_for status st)
  pub low : k ≤ 4294967296 * length st

-- what `check_stretch` says: nothing exactly where it is not
abbrev pub LoadFound : Graph → List ℕ → ℕ → ℕ → List ℕ → Option ℕ → Type 0
LoadFound G ms status batch st r =
    MatchOption r (¬ StretchSound G ms status batch st (runs_for status st)) (LoadIs G ms status batch st)

-- ---- all stretches

-- the runs of worker b
abbrev pub runs_at : ℕ → ℕ → List ℕ → ℕ → List Run
runs_at n W w b = runs_for (worker_word w b 0) (stretch_in n W w b)

-- how often the first k workers carry reference e, how much they carry, and how many of them carry something
abbrev pub times_words : ℕ → ℕ → List ℕ → ℕ → ℕ → ℕ
times_words n W w e k = span (λ (b : ℕ). runs_sum (hit e) (runs_at n W w b)) 0 k

abbrev pub carried_words : ℕ → ℕ → List ℕ → ℕ → ℕ
carried_words n W w k = span (λ (b : ℕ). carried (runs_at n W w b)) 0 k

abbrev pub carrying_words : ℕ → ℕ → List ℕ → ℕ → ℕ
carrying_words n W w k = span (λ (b : ℕ). set? (carried (runs_at n W w b))) 0 k

-- worker b's stretch
abbrev pub StretchAt : Graph → List ℕ → ℕ → List ℕ → ℕ → Type 0
StretchAt G ms W w b =
    StretchSound G ms (worker_word w b 0) (worker_word w b 3) (stretch_in (objects G) W w b) (runs_at (objects G) W w b)

-- all of them, and no reference is carried twice
pub record StretchesSound (G : Graph) (ms : List ℕ) (W : ℕ) (w : List ℕ) : Type 0 where
  pub each : (b : ℕ) → b < W → StretchAt G ms W w b
  pub once : (e : ℕ) → times_words (objects G) W w e W ≤ 1

-- a graph, a mark for each object, and as many words as there have to be; a worker that carries nothing has no batch
pub record LoadsThere (G : Graph) (ms : List ℕ) (W : ℕ) (w : List ℕ) : Type 0 where
  pub formed : Formed G
  pub some : 1 ≤ objects G
  pub objects_limit : objects G ≤ most_objects
  pub references_limit : references G ≤ most_references
  pub marks_length : length ms ≡ objects G
  pub workers_limit : W ≤ most_workers
  pub long : length w ≡ saved_length (objects G) W
  pub batch_none : (b : ℕ) → b < W → worker_word w b 0 < status_given → worker_word w b 3 ≡ 0

-- each worker's stretch is sound, and what they carry
pub record LoadsAre (G : Graph) (ms : List ℕ) (W : ℕ) (w : List ℕ) (r : Loads) : Type 0 where
  pub right : (b : ℕ) → b < W → StretchAt G ms W w b
  pub total : r.carried ≡ carried_words (objects G) W w W
  pub carrying : r.carrying ≡ carrying_words (objects G) W w W
  pub low : r.carried ≤ 1152921504606846976

-- what `check_stretches` says: nothing exactly where one is not
abbrev pub LoadsFound : Graph → List ℕ → ℕ → List ℕ → Option Loads → Type 0
LoadsFound G ms W w r = MatchOption r (¬ ((b : ℕ) → b < W → StretchAt G ms W w b)) (LoadsAre G ms W w)

-- a marked object's reference that nobody carries has a marked target
abbrev pub TargetsSound : Graph → List ℕ → ℕ → List ℕ → Type 0
TargetsSound G ms W w =
    (v : ℕ) → v < length ms → Marked ms v → (e : ℕ) → first G v ≤ e → e < after G v
    → times_words (objects G) W w e W ≡ 0 → Marked ms (target G e)

-- they are a frontier, and what they carry
pub record LoadedAre (G : Graph) (ms : List ℕ) (W : ℕ) (w : List ℕ) (r : Loads) : Type 0 where
  pub right : StretchesSound G ms W w
  pub targets : TargetsSound G ms W w
  pub total : r.carried ≡ carried_words (objects G) W w W
  pub carrying : r.carrying ≡ carrying_words (objects G) W w W
  pub low : r.carried ≤ 1152921504606846976

-- what `check_loads` says: nothing exactly where they are not
abbrev pub LoadedFound : Graph → List ℕ → ℕ → List ℕ → Option Loads → Type 0
LoadedFound G ms W w r = MatchOption r (StretchesSound G ms W w → TargetsSound G ms W w → ⊥) (LoadedAre G ms W w)
