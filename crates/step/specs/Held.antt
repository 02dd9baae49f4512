-- The state of the machine as the lent memories hold it.
use Rattle.std.specs.Prelude.{ℕ, ◌+◌, ◌*◌, ◌<◌, ◌≤◌, ◌^◌, ◌≡◌, List, [], ◌∷◌, length, get_or, take, drop}
use Rattle.laws.specs.Sum.{sum}
use Rattle.graph.specs.Graph.{Graph, objects, references, target}
use Rattle.graph.specs.Limits.{most_objects, most_references}
use Rattle.desk.specs.Lengths.{stretch_length}
use Rattle.machine.specs.Run.{Run, run, carried}
use Rattle.machine.specs.Tally.{tallies_words}
use Rattle.machine.specs.Machine.{Setting, State, Worker, idle, asking, denied, ended, given, busy, Cell, Phase}
use Rattle.machine.specs.Accepted.{Accepted}
use Rattle.machine.specs.Sound.{Sound, batch_of}
use Rattle.worker.specs.declared.registers.Block.{Block}
use Rattle.worker.specs.declared.stretch.Top.{Top}
use Rattle.worker.specs.Registers.{block_at, block_words, status_idle, status_asking, status_denied, status_ended, status_given}
use Rattle.worker.specs.Status.{cell_word, phase_word}
use Rattle.worker.specs.Stretch.{top_with, Told}
use Rattle.step.specs.declared.Setup.{Setup}
use Rattle.step.specs.declared.Progress.{Progress}
use Rattle.step.specs.Counting.{running?, counts_of}
use Rattle.step.specs.Ringing.{ring_of}

-- what is lent and changed by turns, and what is kept by value
pub record Memory : Type 0 where
  pub marks : List ℕ
  pub work : List ℕ
  pub tallies : List ℕ
  pub regs : List ℕ
  pub progress : Progress

abbrev pub memory : List ℕ → List ℕ → List ℕ → List ℕ → Progress → Memory
memory marks work tallies regs p = record { marks = marks; work = work; tallies = tallies; regs = regs; progress = p }

-- D and K
abbrev pub setting_of : Setup → Setting
setting_of g = record { batch = g.batch; cutoff = g.cutoff }

-- worker b's stretch of the work memory, of L words
abbrev pub stretch_at : ℕ → ℕ → List ℕ → List ℕ
stretch_at L b work = take L (drop (b * L) work)

-- ---- one worker

-- where the first reference leads
abbrev pub next_target : Graph → List Run → ℕ
next_target G [] = 0
next_target G (run e j ∷ rs) = target G e

-- the top that a block tells of
abbrev pub top_of : Block → Top
top_of r = top_with r.used r.first r.end

-- the block and the stretch hold these runs; what is carried beyond the batch is counted
pub record Carrying (batch : ℕ) (rs : List Run) (r : Block) (s : List ℕ) : Type 0 where
  pub number : r.carried + batch ≡ carried rs
  pub told : Told rs (top_of r) s

-- since is brought forward by the batch
pub record BusyIs (G : Graph) (c : Cell) (n : ℕ) (p : Phase) (rs : List Run) (r : Block) (s : List ℕ) : Type 0 where
  pub status : r.status ≡ phase_word p
  pub cell : r.cell ≡ cell_word c
  pub since : r.since ≡ n + batch_of p
  pub batch : r.batch ≡ batch_of p
  pub carrying : Carrying (batch_of p) rs r s
  pub target : r.target ≡ next_target G rs

-- a worker's block and stretch; what a worker does not have, its words do not say
abbrev pub BlockIs : Graph → Worker → Block → List ℕ → Type 0
BlockIs G idle r s = r.status ≡ status_idle
BlockIs G asking r s = r.status ≡ status_asking
BlockIs G denied r s = r.status ≡ status_denied
BlockIs G ended r s = r.status ≡ status_ended
BlockIs G (given rs) r s = (r.status ≡ status_given) × Carrying 0 rs r s
BlockIs G (busy c n p rs) r s = BusyIs G c n p rs r s

-- the since of a worker that is not busy stands in its block too
abbrev pub RestIs : Worker → ℕ → Block → Type 0
RestIs idle n r = r.since ≡ n
RestIs asking n r = r.since ≡ n
RestIs denied n r = r.since ≡ n
RestIs ended n r = r.since ≡ n
RestIs (given rs) n r = r.since ≡ n
RestIs (busy c k p rs) n r = Unit {0}

-- ---- the state

-- every worker's
abbrev pub Each : Graph → ℕ → ℕ → List Worker → List ℕ → List ℕ → Type 0
Each G W L ws regs work = (b : ℕ) → b < W → BlockIs G (get_or ws b ended) (block_at regs b) (stretch_at L b work)

-- and every since of a worker that is not busy
abbrev pub Rests : ℕ → List Worker → List ℕ → List ℕ → Type 0
Rests W ws ns regs = (b : ℕ) → b < W → RestIs (get_or ws b ended) (get_or ns b 0) (block_at regs b)

-- the memories hold the state
pub record Holds (G : Graph) (g : Setup) (s : State) (μ : Memory) : Type 0 where
  pub marks_are : μ.marks ≡ s.marks
  pub tallies_are : μ.tallies ≡ tallies_words s.tallies
  pub counts_are : counts_of μ.progress s.tallies ≡ s.counts
  pub running_is : μ.progress.running ≡ sum running? s.workers
  pub ring_is : μ.progress.ring ≡ ring_of s.ring
  pub regs_long : length μ.regs ≡ block_words * g.workers
  pub work_long : length μ.work ≡ g.workers * g.stretch
  pub each : Each G g.workers g.stretch s.workers μ.regs μ.work
  pub rests : Rests g.workers s.workers s.rested μ.regs

-- a state of an accepted call, and that its counts have room for one more turn
pub record Scene (G : Graph) (g : Setup) (s : State) : Type 0 where
  pub starts : List ℕ
  pub accepted : Accepted G starts g.workers (setting_of g)
  pub sound : Sound G starts g.workers (setting_of g) s
  pub objects_limit : objects G ≤ most_objects
  pub references_limit : references G ≤ most_references
  pub stretch_is : g.stretch ≡ stretch_length (objects G)
  pub handed_room : s.counts.handed + 1 < 2 ^ 64
  pub moved_room : s.counts.moved + 1 < 2 ^ 64
