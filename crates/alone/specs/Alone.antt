-- One worker alone: nobody asks it, so its state is told by its marks, its runs, and how often it has followed, claimed and polled.
use Rattle.std.specs.Prelude.{ℕ, ◌+◌, ◌-◌, ◌≤◌, ◌<◌, ◌^◌, min, ◌≡◌, List, [], ◌∷◌, ◌++◌, eqb, ltb, length, get_or, set, replicate}
use Rattle.laws.specs.Choice.{pick}
use Rattle.graph.specs.Graph.{Graph, graph, objects, references}
use Rattle.graph.specs.Chain.{marks_at}
use Rattle.graph.specs.Limits.{most_objects, most_references}
use Rattle.desk.specs.Lengths.{stretch_length}
use Rattle.machine.specs.Run.{Run, run_from, carried}
use Rattle.machine.specs.Tally.{tally, no_tally, tallies_words}
use Rattle.machine.specs.Ring.{fresh_ring}
use Rattle.machine.specs.Machine.{Setting, State, empty, live, unmarked, start, turns, onward, resting, emptied}
use Rattle.machine.specs.Accepted.{Accepted}
use Rattle.worker.specs.declared.registers.Block.{Block}
use Rattle.worker.specs.declared.stretch.Top.{Top}
use Rattle.worker.specs.Registers.{block_words, block_at, status_given, status_ended}
use Rattle.worker.specs.Stretch.{Holds, Told}
use Rattle.step.specs.declared.Progress.{Progress}
use Rattle.rounds.specs.Whole.{own_turn}
use Rattle.alone.specs.declared.Load.{Load}
use Rattle.alone.specs.declared.Found.{Found}

-- the marks of the starts, counted
abbrev pub starts_of : Graph → List ℕ → ℕ
starts_of G starts = live (marks_at starts (unmarked G))

-- with so much of the batch left, these runs, and so many followed, won and polls; idle where it has no runs
abbrev pub alone : Graph → List ℕ → List ℕ → ℕ → List Run → ℕ → ℕ → ℕ → State
alone G starts marks k rs f w p =
    record {
      marks = marks;
      workers = onward empty f k rs ∷ [];
      rested = resting rs (0 ∷ []) 0 f;
      ring = fresh_ring 1;
      tallies = tally f w 0 0 ∷ [];
      counts =
          record {
            live = starts_of G starts + w;
            followed = f;
            handed = 0;
            refused = 0;
            moved = f + w + p;
            carrying = 1 - emptied rs;
          };
    }

-- some turns of an accepted call come to that
pub record Alone (G : Graph) (starts : List ℕ) (g : Setting) (marks : List ℕ) (k : ℕ) (rs : List Run) (f w p : ℕ) : Type 0 where
  pub accepted : Accepted G starts 1 g
  pub objects_limit : objects G ≤ most_objects
  pub references_limit : references G ≤ most_references
  pub made : ℕ
  pub state_is : turns G g (start G starts 1) (replicate made own_turn) ≡ alone G starts marks k rs f w p

-- ---- a part of a run, which lies within the batch

-- the references of the part, what is behind it in its run and in the batch, and the runs below in the stretch
pub record PartReady (offsets targets marks s : List ℕ) (first size used : ℕ) : Type 0 where
  pub starts : List ℕ
  pub setting : Setting
  pub more : ℕ
  pub batch : ℕ
  pub below : List Run
  pub f : ℕ
  pub w : ℕ
  pub p : ℕ
  pub here : Alone (graph offsets targets) starts setting marks (size + batch) (run_from first (size + more) ++ below) f w p
  pub holds : Holds s used below
  pub long : length s ≡ stretch_length (objects (graph offsets targets))

-- after so many of them: what was won, and how many references opened
pub record PartDone {offsets targets marks s : List ℕ} {first size used : ℕ} (x : PartReady offsets targets marks s first size used)
    (done : ℕ) (marks' s' : List ℕ) (r : Found) : Type 0 where
  pub below : List Run
  pub here : Alone (graph offsets targets) x.starts x.setting marks' (size - done + x.batch) (run_from (first + done) (size - done + x.more) ++ below)
      (x.f + done) (x.w + r.won) x.p
  pub holds : Holds s' r.used below
  pub long : length s' ≡ length s
  pub number : carried below ≡ carried x.below + r.opened

-- ---- one reference of it, which leads to v

pub record OneReady (offsets marks s : List ℕ) (v : ℕ) (r : Found) : Type 0 where
  pub marked_there : v < length marks
  pub run_there : v + 1 < length offsets
  pub rises : get_or offsets v 0 ≤ get_or offsets (v + 1) 0
  pub room : r.used + 2 ≤ length s
  pub used_fits : r.used + 2 < 2 ^ 32
  pub won_fits : r.won + 1 < 2 ^ 32
  pub opened_fits : r.opened + (get_or offsets (v + 1) 0 - get_or offsets v 0) < 2 ^ 32

-- where v was marked nothing changes; else it is marked, and its run is pushed
pub record OneDone (offsets marks s : List ℕ) (v : ℕ) (r : Found) (marks' s' : List ℕ) (r' : Found) : Type 0 where
  pub seen : 0 < get_or marks v 0 → (marks' ≡ marks) × (s' ≡ s) × (r' ≡ r)
  pub claimed : get_or marks v 0 ≡ 0 → (marks' ≡ set marks v 1) × (r'.won ≡ r.won + 1)
      × (r'.opened ≡ r.opened + (get_or offsets (v + 1) 0 - get_or offsets v 0))
  pub pushed : get_or marks v 0 ≡ 0 → (rs : List Run) → Holds s r.used rs
      → Holds s' r'.used (run_from (get_or offsets v 0) (get_or offsets (v + 1) 0 - get_or offsets v 0) ++ rs)

-- ---- a poll, where the batch is done

abbrev pub load_with : ℕ → ℕ → ℕ → Load
load_with batch carried polls = record { batch = batch; carried = carried; polls = polls }

abbrev pub polled_of : ℕ → Load → Load
polled_of D l = pick (eqb l.batch 0) (load_with (min D l.carried) (l.carried - min D l.carried) (l.polls + 1)) l

-- what a worker carries before its first turn, by its block
abbrev pub load_for : Block → Load
load_for r = pick (ltb r.status status_given) (load_with 0 0 0) (load_with 0 r.carried 0)

-- ---- the end

-- a tally that is all zero, a block, and numbers that do not wrap
pub record Endable (tallies regs : List ℕ) (p : Progress) (followed won polls : ℕ) : Type 0 where
  pub tallies_are : tallies ≡ tallies_words (no_tally ∷ [])
  pub regs_long : length regs ≡ block_words
  pub fits : p.moved + followed + won + polls + 1 < 2 ^ 64

-- the tally, the block and the progress of a worker that has ended
pub record Ends (tallies regs : List ℕ) (p : Progress) (followed won polls : ℕ) (tallies' regs' : List ℕ) (p' : Progress) : Type 0 where
  pub tallies_are : tallies' ≡ tallies_words (tally followed won 0 0 ∷ [])
  pub status_is : (block_at regs' 0).status ≡ status_ended
  pub since_is : (block_at regs' 0).since ≡ followed
  pub progress_is : p'
      ≡ record {
        starts = p.starts;
        refused = p.refused;
        moved = p.moved + followed + won + polls + 1;
        carrying = 0;
        running = 0;
        ring = p.ring;
      }

-- ---- on the way

-- the memories of the worker alone, with what it carries
pub record Going (G : Graph) (starts : List ℕ) (g : Setting) (marks work : List ℕ) (t : Top) (l : Load) (f w : ℕ) : Type 0 where
  pub runs : List Run
  pub here : Alone G starts g marks l.batch runs f w l.polls
  pub told : Told runs t work
  pub long : length work ≡ stretch_length (objects G)
  pub number : l.carried + l.batch ≡ carried runs
