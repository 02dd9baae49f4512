-- SPECIFICATION 8.3: how many words a saved collection takes; what a call that saves answers and leaves, and what the call that
-- begins promises.
use Rattle.std.specs.Prelude.{ℕ, ◌≡◌, Result, List, length}
use Rattle.refusal.specs.declared.Refusal.{Refusal}
use Rattle.refusal.specs.Order.{first}
use Rattle.graph.specs.Graph.{objects}
use Rattle.desk.specs.Checks.{workers_fault, objects_fault}
use Rattle.desk.specs.Length.{LengthRow, length_by}
use Rattle.desk.specs.Lengths.{saved_length}
use Rattle.desk.specs.Kept.{unless_refused}
use Rattle.machine.specs.Tally.{tallies_words}
use Rattle.machine.specs.Machine as machine
use Rattle.machine.specs.Machine.{State, entries}
use Rattle.machine.specs.Call.{Call, scheduled_by, graph_of, final}
use Rattle.marker.specs.declared.Marked.{Marked}
use Rattle.marker.specs.Answer.{row}
use Rattle.saved.specs.Layout.{saved_words}
use Rattle.saved.specs.Calls.{begin_fault, row_for, Afresh, Joined}

-- 8: W outside its range; 4: n outside its range
abbrev pub length_for : ℕ → ℕ → LengthRow
length_for n W = length_by (first (workers_fault W) (objects_fault n)) (saved_length n W)

-- what a call answers and leaves, where k is the number of its fault and s the state that it reaches: every lent word
pub record Answers (c : Call) (k : ℕ) (s : State) (marks work tallies w : List ℕ) (r : Result Marked Refusal) (marks' work' tallies' w' : List ℕ) : Type 0 where
  pub row_is : row r ≡ row_for k s
  pub marks_are : marks' ≡ unless_refused k s.marks marks
  pub work_is : work' ≡ unless_refused k (machine.memory (objects (graph_of c)) s.workers) work
  pub tallies_are : tallies' ≡ unless_refused k (tallies_words s.tallies) tallies
  pub saved_is : w' ≡ unless_refused k (saved_words (objects (graph_of c)) s) w

-- the promise of the call that begins
pub record Begun (c : Call) (marks work tallies w : List ℕ) (r : Result Marked Refusal) (marks' work' tallies' w' : List ℕ) : Type 0 where
  pub answers : Answers c (begin_fault c (length marks) (length work) (length tallies) (length w)) (final c) marks work tallies w r marks' work' tallies' w'
  -- what it saves is a collection begun afresh
  pub afresh : begin_fault c (length marks) (length work) (length tallies) (length w) ≡ 0
      → Afresh c (entries c.schedule) (row r) marks' work' tallies' w'
  -- and taken up in parts, it comes to what one call comes to
  pub joined : begin_fault c (length marks) (length work) (length tallies) (length w) ≡ 0 → Joined c (λ (l : List ℕ). final (scheduled_by l c))
