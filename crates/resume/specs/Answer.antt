-- SPECIFICATION 8.3: what the call that goes on promises.
use Rattle.std.specs.Prelude.{ℕ, ◌*◌, ◌≤◌, ◌<◌, ◌≡◌, Bool, true, false, Result, Ok, Err, List, ◌++◌, ◌↔◌, length, take}
use Rattle.graph.specs.Graph.{objects}
use Rattle.graph.specs.Chain.{Reach}
use Rattle.desk.specs.declared.Settings.{Settings}
use Rattle.desk.specs.Limits.{most_workers, most_setting}
use Rattle.machine.specs.declared.Counts.{Counts}
use Rattle.machine.specs.Demand3.{moved_bound, handed_bound}
use Rattle.machine.specs.Machine.{State, Entry, entries}
use Rattle.machine.specs.Sound as state
use Rattle.machine.specs.Demand2.{outcome}
use Rattle.machine.specs.Call.{Call, scheduled_by, graph_of, setting_of}
use Rattle.theorems.specs.Waiting.{Waits}
use Rattle.refusal.specs.declared.Refusal.{Refusal}
use Rattle.marker.specs.declared.Marked.{Marked}
use Rattle.resume.specs.declared.Resumed.{Resumed}
use Rattle.marker.specs.Answer.{row}
use Rattle.saved.specs.Layout.{saved_words}
use Rattle.saved.specs.Sound.{SavedRun}
use Rattle.saved.specs.Test.{saved?}
use Rattle.saved.specs.Calls.{begin_fault, resume_fault, resumed, resumed_by, Afresh, Joined}
use Rattle.begin.specs.Answer.{Answers}

-- conditions 20 and 21 of SPECIFICATION 8.2, of a store with m references
pub record Low (m W K : ℕ) (t : Counts) : Type 0 where
  pub moved_limit : t.moved ≤ moved_bound m W
  pub handed_limit : t.handed * K ≤ handed_bound m

-- W and K within their ranges
pub record LowSettings (g : Settings) : Type 0 where
  pub workers_limit : g.workers ≤ most_workers
  pub some_cutoff : 0 < g.cutoff
  pub cutoff_limit : g.cutoff ≤ most_setting

-- what a call that goes on answers, and whether it tells that what it saves is sound; a refusal does not
abbrev pub marked_of : Result Resumed Refusal → Result Marked Refusal
marked_of (Ok r) = Ok r.marked
marked_of (Err cause) = Err cause

abbrev pub sound_of : Result Resumed Refusal → Bool
sound_of (Ok r) = r.sound
sound_of (Err cause) = false

-- the promise of the call that goes on
pub record Continued (c : Call) (marks work tallies w : List ℕ) (r : Result Marked Refusal) (sound : Bool) (marks' work' tallies' w' : List ℕ) : Type 0 where
  pub answers : Answers c (resume_fault c (length marks) (length work) (length tallies) w) (resumed c w) marks work tallies w r marks' work' tallies' w'
  -- 14 exactly where the words hold no sound collection
  pub exactly : begin_fault c (length marks) (length work) (length tallies) (length w) ≡ 0
      → (resume_fault c (length marks) (length work) (length tallies) w ≡ 0)
      ↔ ((s : State) × SavedRun (graph_of c) c.starts c.workers (setting_of c) w s)
  -- whether what it saves is sound, by the test that the next call makes
  pub tells : resume_fault c (length marks) (length work) (length tallies) w ≡ 0
      → sound ≡ saved? (graph_of c) c.starts c.workers (setting_of c) w'
  -- whoever wrote them: finished, every object to which a chain leads is marked
  pub all_marked : resume_fault c (length marks) (length work) (length tallies) w ≡ 0 → (row r).finished ≡ true
      → (v : ℕ) → Reach (graph_of c) c.starts v → state.Marked marks' v
  -- from before the first turn and from after each of them on, an asker waits no longer than is said
  pub waits : resume_fault c (length marks) (length work) (length tallies) w ≡ 0
      → (k : ℕ) → Waits (graph_of c) c.workers (setting_of c) (resumed_by c w (take k (entries c.schedule)))
  -- and calls in a row come to what one call comes to
  pub joined : resume_fault c (length marks) (length work) (length tallies) w ≡ 0 → Joined c (λ (l : List ℕ). resumed (scheduled_by l c) w)
  -- of a collection begun afresh, with the turns xs so far: it goes on as if it had not been stopped
  pub afresh : (xs : List Entry)
      → w ≡ saved_words (objects (graph_of c)) (outcome (graph_of c) c.starts c.workers (setting_of c) xs)
      → begin_fault c (length marks) (length work) (length tallies) (length w) ≡ 0
      → Afresh c (xs ++ entries c.schedule) (row r) marks' work' tallies' w'
