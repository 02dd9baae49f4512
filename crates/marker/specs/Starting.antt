-- What the functions of the start ask and leave: the starts' marks, and their runs, which stand at the end of worker 0's
-- stretch until all are gathered.
use Rattle.std.specs.Prelude.{ℕ, ◌*◌, ◌≤◌, ◌≡◌, List, [], ◌∷◌, ◌++◌, length, replicate}
use Rattle.graph.specs.Graph.{Graph, graph, objects, references}
use Rattle.graph.specs.Chain.{marks_at}
use Rattle.graph.specs.Limits.{most_objects, most_references}
use Rattle.desk.specs.Lengths.{tally_word_count, stretch_length}
use Rattle.machine.specs.Run.{Run, carried}
use Rattle.machine.specs.Machine.{Setting, live, unmarked, start_runs, start}
use Rattle.machine.specs.Accepted.{Accepted}
use Rattle.worker.specs.Registers.{block_words}
use Rattle.worker.specs.Stretch.{EndsWith}
use Rattle.step.specs.declared.Setup.{Setup}
use Rattle.step.specs.declared.Progress.{Progress}
use Rattle.step.specs.Held.{memory, setting_of, stretch_at, Holds}
use Rattle.marker.specs.declared.start.Gathered.{Gathered}

-- ---- the starts gathered

-- starts of an accepted call, with its marks and a stretch
pub record Gatherable (offsets starts marks s : List ℕ) : Type 0 where
  pub graph : Graph
  pub workers : ℕ
  pub setting : Setting
  pub accepted : Accepted graph starts workers setting
  pub offsets_are : offsets ≡ graph.offsets
  pub objects_limit : objects graph ≤ most_objects
  pub references_limit : references graph ≤ most_references
  pub marks_long : length marks ≡ objects graph
  pub long : length s ≡ stretch_length (objects graph)

-- the runs of these starts
abbrev pub runs_from : Graph → List ℕ → List Run
runs_from G vs = start_runs G vs (unmarked G)

-- what these starts come to
pub record IsGathered (G : Graph) (vs marks s : List ℕ) (t : Gathered) : Type 0 where
  pub marks_are : marks ≡ marks_at vs (unmarked G)
  pub live_is : t.live ≡ live marks
  pub carried_is : t.carried ≡ carried (runs_from G vs)
  pub ends : EndsWith s t.at (runs_from G vs)

-- some starts are gathered, and v comes next
pub record Gathering (offsets : List ℕ) (v : ℕ) (marks s : List ℕ) (t : Gathered) : Type 0 where
  pub done : List ℕ
  pub lent : Gatherable offsets (done ++ (v ∷ [])) marks s
  pub gathered : IsGathered lent.graph done marks s t

-- then v is among them
abbrev pub GathersOne : List ℕ → ℕ → List ℕ → List ℕ → Gathered → List ℕ → List ℕ → Gathered → Type 0
GathersOne offsets v marks s t marks' s' t' =
    (x : Gathering offsets v marks s t) → IsGathered x.lent.graph (x.done ++ (v ∷ [])) marks' s' t'

-- all are gathered
abbrev pub Gathers : List ℕ → List ℕ → List ℕ → List ℕ → List ℕ → List ℕ → Gathered → Type 0
Gathers offsets starts marks s marks' s' t = (x : Gatherable offsets starts marks s) → IsGathered x.graph starts marks' s' t

-- ---- the start

-- an accepted call, its marks, and registers that are all zero
pub record Startable (offsets targets starts : List ℕ) (g : Setup) (marks regs : List ℕ) : Type 0 where
  pub accepted : Accepted (graph offsets targets) starts g.workers (setting_of g)
  pub objects_limit : objects (graph offsets targets) ≤ most_objects
  pub references_limit : references (graph offsets targets) ≤ most_references
  pub stretch_is : g.stretch ≡ stretch_length (objects (graph offsets targets))
  pub marks_long : length marks ≡ objects (graph offsets targets)
  pub regs_are : regs ≡ replicate (block_words * g.workers) 0

-- the memories hold the state before the first turn, with tallies that are all zero
abbrev pub Started : List ℕ → List ℕ → List ℕ → Setup → List ℕ → List ℕ → List ℕ → Progress → Type 0
Started offsets targets starts g marks' work' regs' p =
    (tallies : List ℕ) → tallies ≡ replicate (g.workers * tally_word_count) 0
    → Holds (graph offsets targets) g (start (graph offsets targets) starts g.workers) (memory marks' work' tallies regs' p)

-- they do with these words in worker 0's stretch, whatever words the other stretches have
abbrev pub StretchStarted : List ℕ → List ℕ → List ℕ → Setup → List ℕ → List ℕ → List ℕ → Progress → Type 0
StretchStarted offsets targets starts g marks' s' regs' p =
    (work : List ℕ) → length work ≡ g.workers * g.stretch → stretch_at g.stretch 0 work ≡ s'
    → Started offsets targets starts g marks' work regs' p
