-- Each worker's words: those that are saved of its block, and what the runs of a saved stretch come to.
use Rattle.std.specs.Prelude.{ℕ, suc, ◌-◌, ◌*◌, ◌≤◌, ◌<◌, ◌≡◌, List, [], ◌∷◌, length, get_or, ltb}
use Rattle.laws.specs.Choice.{pick}
use Rattle.laws.specs.Every.{Every}
use Rattle.graph.specs.Graph.{Graph, objects}
use Rattle.graph.specs.Limits.{most_objects, most_references}
use Rattle.desk.specs.Limits.{most_workers}
use Rattle.desk.specs.Lengths.{stretch_length, worker_word_count}
use Rattle.machine.specs.Run.{carried}
use Rattle.machine.specs.Machine.{Worker, ended, runs_of, carried_by, stretch}
use Rattle.machine.specs.Sound.{since_of, InTargets, batch_in, Supplied}
use Rattle.worker.specs.declared.registers.Block.{Block}
use Rattle.worker.specs.Registers.{block_at, block_words, status_poll}
use Rattle.step.specs.Held.{stretch_at, BlockIs, RestIs}
use Rattle.saved.specs.Layout.{worker_words, workers_words, runs_in}
use Rattle.checkpoint.specs.Copies.{Prefix}
use Rattle.saved.specs.declared.WorkerWords.{WorkerWords}
use Rattle.saved.specs.Words.{words_at}
use Rattle.checkpoint.specs.declared.workers.Extent.{Extent}

-- status, cell, since and batch
abbrev pub saved_with : ℕ → ℕ → ℕ → ℕ → WorkerWords
saved_with status cell since batch = record { status = status; cell = cell; since = since; batch = batch }

-- as a block says them
abbrev pub words_of : Block → WorkerWords
words_of r =
    pick (ltb r.status status_poll) (saved_with r.status 0 r.since 0)
    (saved_with r.status r.cell (r.since - r.batch) r.batch)

abbrev pub listed : WorkerWords → List ℕ
listed w = w.status ∷ w.cell ∷ w.since ∷ w.batch ∷ []

-- registers of W workers whose saved words these blocks say
pub record Recorded (regs : List ℕ) (W : ℕ) : Type 0 where
  pub workers : List Worker
  pub rested : List ℕ
  pub count : length workers ≡ W
  pub few : W ≤ most_workers
  pub regs_long : length regs ≡ block_words * W
  pub order : (b : ℕ) → b < W → status_poll ≤ (block_at regs b).status → (block_at regs b).batch ≤ (block_at regs b).since
  pub each : (b : ℕ) → b < W → listed (words_of (block_at regs b)) ≡ worker_words (get_or workers b ended) (get_or rested b 0)

-- what is written is what the layout has
abbrev pub Records : List ℕ → ℕ → List ℕ → Type 0
Records regs W out = (x : Recorded regs W) → out ≡ workers_words x.workers x.rested

-- the words and the references of the runs of a stretch
pub record Measured (s : List ℕ) (words references : ℕ) : Type 0 where
  pub words_are : words ≡ 2 * length (runs_in s)
  pub references_are : references ≡ carried (runs_in s)

abbrev pub measures : List ℕ → Extent → Type 0
measures s m = Measured s m.words m.carried

-- the saved words and the stretch of worker u, whose since is n where it is not busy; it has runs where it must, all of them among
-- the targets, and its numbers are those of a store
pub record Restorable (G : Graph) (u : Worker) (n : ℕ) (targets s : List ℕ) (w : WorkerWords) : Type 0 where
  pub words_are : listed w ≡ worker_words u n
  pub stretch_is : s ≡ stretch (objects G) u
  pub targets_are : targets ≡ G.targets
  pub few : objects G ≤ most_objects
  pub supplied : Supplied u
  pub room : length (runs_of u) ≤ suc (objects G)
  pub inside : Every (InTargets G) (runs_of u)
  pub batch_carried : batch_in u ≤ carried_by u
  pub carried_limit : carried_by u ≤ most_references
  pub since_limit : since_of u ≤ most_references

-- they are those of some worker
pub record SomeRestorable (targets s : List ℕ) (w : WorkerWords) : Type 0 where
  pub graph : Graph
  pub worker : Worker
  pub rested : ℕ
  pub is : Restorable graph worker rested targets s w

-- the block and the stretch are that worker's
abbrev pub Restores : List ℕ → List ℕ → WorkerWords → Block → Type 0
Restores targets s w r = (G : Graph) (u : Worker) (n : ℕ) → Restorable G u n targets s w → BlockIs G u r s × RestIs u n r

-- the saved words of worker b
abbrev pub saved_at : List ℕ → ℕ → WorkerWords
saved_at words b = words_at words (worker_word_count * b)

-- the saved words and stretches of W workers, and registers for them
pub record AllRestorable (targets words stretches regs : List ℕ) (W L : ℕ) : Type 0 where
  pub graph : Graph
  pub workers : List Worker
  pub rested : List ℕ
  pub few : W ≤ most_workers
  pub small : L ≤ stretch_length most_objects
  pub words_long : length words ≡ worker_word_count * W
  pub stretches_long : length stretches ≡ W * L
  pub regs_long : length regs ≡ block_words * W
  pub each : (b : ℕ) → b < W
      → Restorable graph (get_or workers b ended) (get_or rested b 0) targets (stretch_at L b stretches) (saved_at words b)

-- the registers hold their blocks
pub record Restored (G : Graph) (ws : List Worker) (ns : List ℕ) (stretches regs : List ℕ) (L k : ℕ) : Type 0 where
  pub blocks : (b : ℕ) → b < k → BlockIs G (get_or ws b ended) (block_at regs b) (stretch_at L b stretches)
  pub sinces : (b : ℕ) → b < k → RestIs (get_or ws b ended) (get_or ns b 0) (block_at regs b)

pub record AllRestored (targets words stretches regs : List ℕ) (W L : ℕ) (regs' : List ℕ) : Type 0 where
  pub long : length regs' ≡ length regs
  pub done : (x : AllRestorable targets words stretches regs W L) → Restored x.graph x.workers x.rested stretches regs' L W

-- saved stretches, registers and work memory of W workers
pub record Puttable (stretches regs work : List ℕ) (W L : ℕ) : Type 0 where
  pub few : W ≤ most_workers
  pub small : L ≤ stretch_length most_objects
  pub stretches_long : length stretches ≡ W * L
  pub regs_long : length regs ≡ block_words * W
  pub work_long : length work ≡ W * L

-- of each stretch the words that its block uses stand in the work memory
abbrev pub RunPut : List ℕ → List ℕ → ℕ → ℕ → List ℕ → Type 0
RunPut stretches regs L b work =
    (block_at regs b).used ≤ L → Prefix (stretch_at L b stretches) (block_at regs b).used (stretch_at L b work)

pub record RunsPut (stretches regs : List ℕ) (W L : ℕ) (work : List ℕ) : Type 0 where
  pub long : length work ≡ W * L
  pub each : (b : ℕ) → b < W → RunPut stretches regs L b work
