-- SPECIFICATION 8.3: the calls that begin a collection and save it, and that take a saved one up: their checks, what they leave,
-- and what calls in a row come to.
use Rattle.std.specs.Prelude.{◌≡◌, ℕ, zero, suc, Bool, true, not, Some, List, [], ◌∷◌, ◌++◌, length}
use Rattle.laws.specs.Choice.{both}
use Rattle.refusal.specs.Order.{raise, first}
use Rattle.graph.specs.Graph.{objects}
use Rattle.desk.specs.declared.Lengths.{Lengths}
use Rattle.machine.specs.Row.{Row, refused_row}
use Rattle.machine.specs.Tally.{tallies_words}
use Rattle.machine.specs.Machine.{State, Entry, turns, entries, result, memory}
use Rattle.desk.specs.Checks.{schedule_fits}
use Rattle.machine.specs.Call.{Call, scheduled_by, graph_of, setting_of, first_fault}
use Rattle.machine.specs.Demand2.{outcome}
use Rattle.theorems.specs.Collected.{Collected}
use Rattle.saved.specs.Layout.{saved_words, state_of}
use Rattle.saved.specs.Test.{saved?}

-- ---- the checks: those of a call whose saved words are lent too, and 14 where a saved collection is taken up

-- so many marks, work words, tally words and saved words
abbrev pub saving_lengths : ℕ → ℕ → ℕ → ℕ → Lengths
saving_lengths marks work tallies saved = record { marks = marks; work = work; tallies = tallies; saved = Some saved }

-- the number of the first fault of a call whose buffers are so long
abbrev pub begin_fault : Call → ℕ → ℕ → ℕ → ℕ → ℕ
begin_fault c marks work tallies saved = first_fault c (saving_lengths marks work tallies saved)

-- 14: the saved words hold no sound collection of this graph, these starts and these settings
abbrev pub saved_fault : Call → List ℕ → ℕ
saved_fault c w = raise (not (saved? (graph_of c) c.starts c.workers (setting_of c) w)) 14 0

unfoldable pub resume_fault : Call → ℕ → ℕ → ℕ → List ℕ → ℕ
resume_fault c marks work tallies w = first (begin_fault c marks work tallies (length w)) (saved_fault c w)

-- ---- what a call leaves

-- the state that is reached from saved words by these turns, and by those of the schedule
abbrev pub resumed_by : Call → List ℕ → List Entry → State
resumed_by c w xs = turns (graph_of c) (setting_of c) (state_of (objects (graph_of c)) c.workers w) xs

abbrev pub resumed : Call → List ℕ → State
resumed c w = resumed_by c w (entries c.schedule)

-- the row, by the number of the fault
abbrev pub row_for : ℕ → State → Row
row_for zero s = result s
row_for (suc k) s = refused_row (suc k)

-- ---- a collection begun afresh, in one call or several, whose turns so far are xs: what the last call reports and leaves
pub record Afresh (c : Call) (xs : List Entry) (r : Row) (marks work tallies w : List ℕ) : Type 0 where
  -- all of it is as one call with these turns leaves it
  pub row_is : r ≡ result (outcome (graph_of c) c.starts c.workers (setting_of c) xs)
  pub marks_are : marks ≡ (outcome (graph_of c) c.starts c.workers (setting_of c) xs).marks
  pub work_is : work ≡ memory (objects (graph_of c)) (outcome (graph_of c) c.starts c.workers (setting_of c) xs).workers
  pub tallies_are : tallies ≡ tallies_words (outcome (graph_of c) c.starts c.workers (setting_of c) xs).tallies
  pub saved_is : w ≡ saved_words (objects (graph_of c)) (outcome (graph_of c) c.starts c.workers (setting_of c) xs)
  -- the words are sound and tell of the state that was reached
  pub sound : saved? (graph_of c) c.starts c.workers (setting_of c) w ≡ true
  pub told : state_of (objects (graph_of c)) c.workers w ≡ outcome (graph_of c) c.starts c.workers (setting_of c) xs
  -- what is promised of turns holds of all of them together
  pub promise :
      Collected (graph_of c) c.starts c.workers (setting_of c) xs r marks (outcome (graph_of c) c.starts c.workers (setting_of c) xs).tallies

-- ---- calls in a row

-- a schedule cut into parts, laid end to end
unfoldable pub whole : List (List ℕ) → List ℕ
whole [] = []
whole (l ∷ ls) = l ++ whole ls

-- the state that is reached from s by calls in a row, one for each of these schedules: each takes up what the call before saved
unfoldable pub reached_by : Call → List (List ℕ) → State → State
reached_by c [] s = s
reached_by c (l ∷ ls) s = reached_by c ls (resumed (scheduled_by l c) (saved_words (objects (graph_of c)) s))

-- whole entries, each with a worker below W, in each part
unfoldable pub all_fit : ℕ → List (List ℕ) → Bool
all_fit W [] = true
all_fit W (l ∷ ls) = both (schedule_fits W l) (all_fit W ls)

-- Calls in a row, where a call with the schedule l reaches `reached l`: the last one reaches what one call with the schedules
-- joined reaches. The answer and all lent words are told by the state.
pub record Joined (c : Call) (reached : List ℕ → State) : Type 0 where
  pub in_a_row : (ls : List (List ℕ)) → all_fit c.workers ls ≡ true → reached_by c ls (reached c.schedule) ≡ reached (c.schedule ++ whole ls)
