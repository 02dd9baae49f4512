-- SPECIFICATION 2 and 4.6: the marker's answer as a row, and the promise of its call.
use Rattle.std.specs.Prelude.{ℕ, ◌≡◌, true, false, Result, Ok, Err, List, length}
use Rattle.refusal.specs.declared.Refusal.{Refusal}
use Rattle.refusal.specs.Number.{number, number_of}
use Rattle.desk.specs.declared.Lengths.{Lengths}
use Rattle.desk.specs.declared.Settings.{Settings}
use Rattle.machine.specs.Machine.{entries}
use Rattle.machine.specs.Row.{Row, refused_row}
use Rattle.theorems.specs.Collected.{Collected}
use Rattle.machine.specs.Call.{Call, graph_of, setting_of, first_fault, fault, final, marking, marks_after, work_after, tallies_after}
use Rattle.marker.specs.declared.Marked.{Marked}
use Rattle.marker.specs.declared.Marked.TheVariants.{Finished, Unfinished}

-- the call with these arguments
abbrev pub call_of : List ℕ → List ℕ → List ℕ → Settings → List ℕ → Call
call_of offsets targets starts g schedule =
    record {
      offsets = offsets;
      targets = targets;
      starts = starts;
      workers = g.workers;
      batch = g.batch;
      cutoff = g.cutoff;
      schedule = schedule;
    }

-- each answer's number and values
abbrev pub row : Result Marked Refusal → Row
row (Ok (Finished t)) = record { number = 0; finished = true; counts = t }
row (Ok (Unfinished t)) = record { number = 0; finished = false; counts = t }
row (Err r) = refused_row (number r)

-- what the checks find is the first fault of a call whose buffers are so long
pub record Finds {A : Type 0} (v : Result A Refusal) (c : Call) (l : Lengths) : Type 0 where
  pub number_is : number_of v ≡ first_fault c l

-- the call's promise, for all inputs: the answer, every mark, every work word and every tally word; and, where the call has no fault, what is
-- promised of a collection's turns
pub record Answered (c : Call) (marks work tallies : List ℕ) (r : Result Marked Refusal) (marks' work' tallies' : List ℕ) : Type 0 where
  pub row_is : row r ≡ marking c marks work tallies
  pub marks_are : marks' ≡ marks_after c marks work tallies
  pub work_is : work' ≡ work_after c marks work tallies
  pub tallies_are : tallies' ≡ tallies_after c marks work tallies
  pub promise : fault c (length marks) (length work) (length tallies) ≡ 0
      → Collected (graph_of c) c.starts c.workers (setting_of c) (entries c.schedule) (row r) marks' (final c).tallies
