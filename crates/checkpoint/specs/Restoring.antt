-- What taking a saved collection up asks and leaves: the words hold a sound state, and afterwards the memories hold it.
use Rattle.std.specs.Prelude.{ℕ, ◌+◌, ◌-◌, ◌*◌, ◌≤◌, ◌<◌, ◌^◌, ◌≡◌, List, length, get_or, take, drop, eqb}
use Rattle.laws.specs.Choice.{pick}
use Rattle.laws.specs.Span.{span}
use Rattle.laws.specs.Sum.{sum}
use Rattle.graph.specs.Graph.{Graph, objects, references}
use Rattle.graph.specs.Limits.{most_objects, most_references}
use Rattle.desk.specs.Lengths.{counts_number, tally_word_count, stretch_length, ring_place, worker_word_count}
use Rattle.desk.specs.Limits.{most_workers}
use Rattle.machine.specs.Tally.{Tally, tallies_words}
use Rattle.machine.specs.Machine.{State}
use Rattle.machine.specs.Accepted.{Accepted}
use Rattle.worker.specs.Registers.{block_words, status_ended}
use Rattle.step.specs.declared.Setup.{Setup}
use Rattle.step.specs.declared.Progress.{Progress}
use Rattle.step.specs.declared.ring.Ring.{Ring}
use Rattle.step.specs.Ringing.{ring_with}
use Rattle.step.specs.Held.{memory, setting_of, Holds}
use Rattle.saved.specs.Sound.{SavedRun}

-- 1 for a worker whose status is not `ended`
abbrev pub runs? : ℕ → ℕ
runs? status = pick (eqb status status_ended) 0 1

-- how many of W workers have not ended, by their words
abbrev pub running_in : List ℕ → ℕ → ℕ
running_in words W = span (λ (b : ℕ). runs? (get_or words (worker_word_count * b) 0)) 0 W

-- six counts and the tallies of W workers, with no more claims won than marks set
pub record Telling (numbers words : List ℕ) (W : ℕ) : Type 0 where
  pub tallies : List Tally
  pub words_are : words ≡ tallies_words tallies
  pub count : length tallies ≡ W
  pub few : W ≤ most_workers
  pub numbers_long : length numbers ≡ counts_number
  pub small : get_or numbers 0 0 < 2 ^ 64
  pub won_live : sum (λ (t : Tally). t.won) tallies ≤ get_or numbers 0 0

-- k words from a place on
abbrev pub part_of : ℕ → ℕ → List ℕ → List ℕ
part_of at k l = take k (drop at l)

-- the ring of saved words
abbrev pub ring_from : List ℕ → Ring
ring_from w = ring_with (get_or w ring_place 0) (get_or w (ring_place + 1) 0) (get_or w (ring_place + 2) 0)

-- how far the collection is
abbrev pub progress_from : List ℕ → List Tally → ℕ → Ring → Progress
progress_from numbers ts running ring =
    record {
      starts = get_or numbers 0 0 - sum (λ (t : Tally). t.won) ts;
      refused = get_or numbers 3 0;
      moved = get_or numbers 4 0;
      carrying = get_or numbers 5 0;
      running = running;
      ring = ring;
    }

-- saved words that hold a sound state of an accepted call, and buffers and registers of the right length
pub record Resumable (targets : List ℕ) (g : Setup) (w marks work tallies regs : List ℕ) : Type 0 where
  pub graph : Graph
  pub starts : List ℕ
  pub state : State
  pub accepted : Accepted graph starts g.workers (setting_of g)
  pub run : SavedRun graph starts g.workers (setting_of g) w state
  pub targets_are : targets ≡ graph.targets
  pub objects_limit : objects graph ≤ most_objects
  pub references_limit : references graph ≤ most_references
  pub stretch_is : g.stretch ≡ stretch_length (objects graph)
  pub marks_long : length marks ≡ objects graph
  pub work_long : length work ≡ g.workers * g.stretch
  pub tallies_long : length tallies ≡ g.workers * tally_word_count
  pub regs_long : length regs ≡ block_words * g.workers

-- the memories hold that state
abbrev pub Resumes : List ℕ → Setup → List ℕ → List ℕ → List ℕ → List ℕ → List ℕ → List ℕ → List ℕ → List ℕ → List ℕ → Progress → Type 0
Resumes targets g w marks work tallies regs marks' work' tallies' regs' p =
    (x : Resumable targets g w marks work tallies regs) → Holds x.graph g x.state (memory marks' work' tallies' regs' p)
