-- SPECIFICATION 2: the marker's checks in their order (8, 4, 7, 10, 13, 5, 9), its answer, and the lent buffers afterwards.
use Rattle.std.specs.Prelude.{ℕ, zero, suc, None, List, length}
use Rattle.refusal.specs.Order.{first}
use Rattle.graph.specs.Graph.{Graph, graph, objects}
use Rattle.desk.specs.declared.Lengths.{Lengths}
use Rattle.desk.specs.Checks.{setting_fault, count_fault, buffer_fault, store_fault, schedule_fault}
use Rattle.desk.specs.Kept.{unless_refused}
use Rattle.machine.specs.Row.{Row, refused_row}
use Rattle.machine.specs.Tally.{tallies_words}
use Rattle.machine.specs.Machine.{Setting, State, result, entries, memory}
use Rattle.machine.specs.Demand2.{outcome}

-- what the marker is given, beside the buffers that it writes
pub record Call : Type 0 where
  pub offsets : List ℕ
  pub targets : List ℕ
  pub starts : List ℕ
  pub workers : ℕ
  pub batch : ℕ
  pub cutoff : ℕ
  pub schedule : List ℕ

-- the call with another schedule
abbrev pub scheduled_by : List ℕ → Call → Call
scheduled_by schedule c =
    record {
      offsets = c.offsets;
      targets = c.targets;
      starts = c.starts;
      workers = c.workers;
      batch = c.batch;
      cutoff = c.cutoff;
      schedule = schedule;
    }

abbrev pub graph_of : Call → Graph
graph_of c = graph c.offsets c.targets

abbrev pub setting_of : Call → Setting
setting_of c = record { batch = c.batch; cutoff = c.cutoff }

-- ---- the checks

-- the number of the first fault of a call whose buffers are so long, or 0
unfoldable pub first_fault : Call → Lengths → ℕ
first_fault c l =
    first (setting_fault c.workers c.batch c.cutoff)
    (first (count_fault c.offsets c.targets)
    (first (buffer_fault (objects (graph_of c)) c.workers l)
    (first (store_fault c.offsets c.targets c.starts)
    (schedule_fault c.workers c.schedule))))

-- so many marks, work words and tally words, and no saved words
abbrev pub lengths : ℕ → ℕ → ℕ → Lengths
lengths marks work tallies = record { marks = marks; work = work; tallies = tallies; saved = None }

abbrev pub fault : Call → ℕ → ℕ → ℕ → ℕ
fault c marks work tallies = first_fault c (lengths marks work tallies)

-- ---- the answer

-- the state that the turns leave
abbrev pub final : Call → State
final c = outcome (graph_of c) c.starts c.workers (setting_of c) (entries c.schedule)

-- by the number of the fault
abbrev pub answer_for : ℕ → Call → Row
answer_for zero c = result (final c)
answer_for (suc k) c = refused_row (suc k)

-- what the call answers, where the buffers are these beforehand
abbrev pub marking : Call → List ℕ → List ℕ → List ℕ → Row
marking c marks work tallies = answer_for (fault c (length marks) (length work) (length tallies)) c

-- the marks, the work words and the tallies afterwards
abbrev pub marks_after : Call → List ℕ → List ℕ → List ℕ → List ℕ
marks_after c marks work tallies = unless_refused (fault c (length marks) (length work) (length tallies)) (final c).marks marks

abbrev pub work_after : Call → List ℕ → List ℕ → List ℕ → List ℕ
work_after c marks work tallies =
    unless_refused (fault c (length marks) (length work) (length tallies)) (memory (objects (graph_of c)) (final c).workers) work

abbrev pub tallies_after : Call → List ℕ → List ℕ → List ℕ → List ℕ
tallies_after c marks work tallies =
    unless_refused (fault c (length marks) (length work) (length tallies)) (tallies_words (final c).tallies) tallies
