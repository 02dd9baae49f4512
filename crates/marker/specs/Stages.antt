-- What the later stages of a call without a fault ask and leave: the turns, and the work memory written out.
use Rattle.std.specs.Prelude.{ℕ, suc, ◌+◌, ◌*◌, ◌≤◌, ◌<◌, ◌^◌, ◌≡◌, true, List, length, get_or, replicate, Option, ltb, eqb}
use Rattle.laws.specs.Choice.{pick}
use Rattle.graph.specs.Graph.{Graph, graph, objects}
use Rattle.graph.specs.Limits.{most_objects}
use Rattle.desk.specs.declared.Settings.{Settings}
use Rattle.desk.specs.Limits.{most_workers}
use Rattle.desk.specs.Lengths.{stretch_length}
use Rattle.machine.specs.Row.{Row}
use Rattle.machine.specs.Tally.{Tally}
use Rattle.machine.specs.Machine as machine
use Rattle.machine.specs.Machine.{State, Worker, ended, runs_of, turns, entries}
use Rattle.desk.specs.Checks.{schedule_fits}
use Rattle.machine.specs.Call.{Call, graph_of, final}
use Rattle.machine.specs.Checked.{Checked}
use Rattle.worker.specs.declared.registers.Block.{Block}
use Rattle.worker.specs.declared.stretch.Top.{Top}
use Rattle.worker.specs.Registers.{block_words, status_given}
use Rattle.worker.specs.Stretch.{top_with}
use Rattle.step.specs.declared.Setup.{Setup}
use Rattle.step.specs.declared.Progress.{Progress}
use Rattle.step.specs.Counting.{counts_of, Countable}
use Rattle.step.specs.Held.{Memory, memory, setting_of, top_of, Each, Holds}
use Rattle.step.specs.Turned.{Ready}

-- ---- the turns

-- any state, on what is lent, and a schedule over which its counts do not wrap
pub record IsScheduled (g : Setup) (offsets targets schedule : List ℕ) (G : Graph) (s : State) : Type 0 where
  pub graph_is : G ≡ graph offsets targets
  pub fits : schedule_fits g.workers schedule ≡ true
  pub handed_room : s.counts.handed + length (entries schedule) < 2 ^ 64
  pub moved_room : s.counts.moved + length (entries schedule) < 2 ^ 64

-- the state after the turns of a schedule
abbrev pub scheduled : Setup → List ℕ → Graph → State → State
scheduled g schedule G s = turns G (setting_of g) s (entries schedule)

-- "does all turns": the memories afterwards hold that state
abbrev pub DoesAll : (P : Graph → State → Type 0) → Setup → List ℕ → Memory → Memory → Type 0
DoesAll P g schedule μ μ' = (x : Ready P g μ) → Holds x.graph g (scheduled g schedule x.graph x.state) μ'

-- ---- the work memory written out

-- the runs that a block tells of: none where the worker carries nothing
abbrev pub top_for : Block → Top
top_for r = pick (ltb r.status status_given) (top_with 0 0 0) (top_of r)

-- workers that the registers and the work memory hold
pub record Settling (W L : ℕ) (work regs : List ℕ) : Type 0 where
  pub graph : Graph
  pub workers : List Worker
  pub count : length workers ≡ W
  pub few : W ≤ most_workers
  pub objects_limit : objects graph ≤ most_objects
  pub stretch_is : L ≡ stretch_length (objects graph)
  pub regs_long : length regs ≡ block_words * W
  pub work_long : length work ≡ W * L
  pub each : Each graph W L workers regs work
  pub room : (b : ℕ) → length (runs_of (get_or workers b ended)) ≤ suc (objects graph)

-- their stretches stand in the work memory as SPECIFICATION 4.5 says
abbrev pub Settled : ℕ → ℕ → List ℕ → List ℕ → List ℕ → Type 0
Settled W L work regs work' = (x : Settling W L work regs) → work' ≡ machine.memory (objects x.graph) x.workers

-- ---- a whole run

-- W, D, K and the length of a stretch, for n objects
abbrev pub setup_for : Settings → ℕ → Setup
setup_for g n = record { workers = g.workers; batch = g.batch; cutoff = g.cutoff; stretch = stretch_length n }

-- those of a call
abbrev pub setup_of : Call → Setup
setup_of c = setup_for (record { workers = c.workers; batch = c.batch; cutoff = c.cutoff }) (objects (graph_of c))

-- a call that has passed the checks, whether saved words are lent or not, with registers that are all zero
pub record Runnable (c : Call) (marks work tallies regs : List ℕ) : Type 0 where
  pub saved : Option ℕ
  pub passed : Checked c (record { marks = length marks; work = length work; tallies = length tallies; saved = saved })
  pub regs_are : regs ≡ replicate (block_words * c.workers) 0

-- the memories hold a state with every stretch written out, and its counts are what words hold
pub record Leaves (G : Graph) (g : Setup) (s : State) (μ : Memory) : Type 0 where
  -- the work words as the turns leave them
  pub unsettled : List ℕ
  pub held : Holds G g s (memory μ.marks unsettled μ.tallies μ.regs μ.progress)
  pub work_is : μ.work ≡ machine.memory (objects G) s.workers
  pub countable : Countable μ.tallies g.workers μ.progress
  pub counted : countable.tallies ≡ s.tallies

-- they hold the state after the turns of the call
abbrev pub Runs : Call → Memory → Type 0
Runs c μ = Leaves (graph_of c) (setup_of c) (final c) μ

-- the answer of a collection that is so far, with these tallies: it is finished where nobody is running
abbrev pub row_of : Progress → List Tally → Row
row_of p ts = record { number = 0; finished = eqb p.running 0; counts = counts_of p ts }
