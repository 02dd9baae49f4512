-- What users are promised of the calls that they link: the numbers and words of `Calls`, and of the words that a call leaves the demands
-- and what the notes say. deal and export cite the promise of the call below, and hops, add and remove have it in `Calls`.
use Rattle.std.specs.Prelude.{◌≡◌, Bool, true, List, ◌++◌, ◌↔◌, ℕ, ◌<◌, Ok, length, get_or, take}
use Rattle.graph.specs.Graph.{objects}
use Rattle.graph.specs.Chain.{Reach}
use Rattle.catalogue.specs.Answer.{Row as HeadRow, ReadRow}
use Rattle.catalogue.specs.Acceptance.{Acceptance}
use Rattle.machine.specs.Row.{Row}
use Rattle.machine.specs.Tally.{Tally, tallies_words}
use Rattle.machine.specs.Machine.{State, Entry, entries}
use Rattle.machine.specs.Sound.{Marked}
use Rattle.machine.specs.Demand2.{outcome}
use Rattle.theorems.specs.Collected.{Collected}
use Rattle.theorems.specs.Waiting.{Waits}
use Rattle.machine.specs.Call.{Call, scheduled_by, graph_of, setting_of, final}
use Rattle.rounds.specs.Whole.{whole_of}
use Rattle.sweep.specs.Sweep.{Row as SweepRow}
use Rattle.sweep.specs.Collection.{Collection}
use Rattle.saved.specs.Layout.{saved_words}
use Rattle.saved.specs.Sound.{SavedRun}
use Rattle.saved.specs.Test.{saved?}
use Rattle.saved.specs.Calls.{begin_fault, resumed, resumed_by, Afresh, Joined}
use Rattle.hands.specs.Hand.{Rounds}
use Rattle.seed.specs.declared.Seed.{Seed}
use Rattle.seed.specs.Draw.{drawn}
use Rattle.seed.specs.Deal.{after_draws, hand_of}
use Rattle.matrix.specs.Promise.{Accepts}
use Rattle.kullneyra.specs.Calls.{read_words, mark_words, stop_word_count, stop_words, swept_words, header_words, ReadsIn, MarksIn, BeginsIn, ResumesIn, ImportsIn}

-- ---- read

-- with four result words: it accepts exactly the layouts of stores, and returns the store that lies in the bytes
pub record ReadPromise (bytes offsets targets sizes starts result : List ℕ) (answer : ℕ) : Type 0 where
  pub row : ReadRow
  pub answers : answer ≡ row.refusal
  pub told : answer ≡ 0 → result ≡ read_words row
  pub acceptance : Acceptance bytes row offsets targets sizes starts

pub record Reads (bytes offsets targets sizes starts result offsets' targets' sizes' starts' result' : List ℕ) (answer : ℕ) : Type 0 where
  pub words : ReadsIn bytes offsets targets sizes starts result offsets' targets' sizes' starts' result' answer
  pub promise : length result ≡ 4 → ReadPromise bytes offsets' targets' sizes' starts' result' answer

-- ---- mark

-- without a fault: demands 2 and 3, the lamp, owners, tallies and waiting
pub record MarkPromise (c : Call) (marks tallies result : List ℕ) : Type 0 where
  pub row : Row
  pub told : result ≡ mark_words row
  pub rows : List Tally
  pub tallied : tallies ≡ tallies_words rows
  pub collected : Collected (graph_of c) c.starts c.workers (setting_of c) (entries c.schedule) row marks rows

pub record Marks (c : Call) (marks work tallies result marks' work' tallies' result' : List ℕ) (answer : ℕ) : Type 0 where
  pub words : MarksIn c marks work tallies result marks' work' tallies' result' answer
  pub promise : answer ≡ 0 → MarkPromise c marks' tallies' result'

-- ---- mark_all

-- as mark with so many rounds as are sure to finish; without a fault the collection is finished
pub record MarksAll (c : Call) (marks work tallies result marks' work' tallies' result' : List ℕ) (answer : ℕ) : Type 0 where
  pub as_mark : Marks (whole_of c) marks work tallies result marks' work' tallies' result' answer
  pub finished : answer ≡ 0 → get_or result' 0 0 ≡ 1

-- ---- begin

-- without a fault: a collection begun afresh, which may be taken up in parts
pub record BeginPromise (c : Call) (marks work tallies saved result : List ℕ) : Type 0 where
  pub row : Row
  pub sound : Bool
  pub told : result ≡ stop_words row sound
  -- whether the saved words are sound, by the test of the next call
  pub sound_is : sound ≡ saved? (graph_of c) c.starts c.workers (setting_of c) saved
  pub afresh : Afresh c (entries c.schedule) row marks work tallies saved
  pub joined : Joined c (λ (l : List ℕ). final (scheduled_by l c))

pub record Begins (c : Call) (marks work tallies w result marks' work' tallies' w' result' : List ℕ) (answer : ℕ) : Type 0 where
  pub words : BeginsIn c marks work tallies w result marks' work' tallies' w' result' answer
  pub promise : answer ≡ 0 → BeginPromise c marks' work' tallies' w' result'

-- ---- resume

-- without a fault, of the saved words w
pub record ResumePromise (c : Call) (w marks work tallies saved result : List ℕ) : Type 0 where
  pub row : Row
  pub sound : Bool
  pub told : result ≡ stop_words row sound
  -- whether the saved words are sound, by the test of the next call
  pub sound_is : sound ≡ saved? (graph_of c) c.starts c.workers (setting_of c) saved
  -- finished, every object to which a chain leads is marked, whoever wrote the words
  pub all_marked : row.finished ≡ true → (v : ℕ) → Reach (graph_of c) c.starts v → Marked marks v
  pub waits : (k : ℕ) → Waits (graph_of c) c.workers (setting_of c) (resumed_by c w (take k (entries c.schedule)))
  pub joined : Joined c (λ (l : List ℕ). resumed (scheduled_by l c) w)
  -- and of a collection begun afresh, with the turns xs so far, all that is promised of all its turns
  pub afresh : (xs : List Entry)
      → w ≡ saved_words (objects (graph_of c)) (outcome (graph_of c) c.starts c.workers (setting_of c) xs)
      → Afresh c (xs ++ entries c.schedule) row marks work tallies saved

pub record Resumes (c : Call) (marks work tallies w result marks' work' tallies' w' result' : List ℕ) (answer : ℕ) : Type 0 where
  pub words : ResumesIn c marks work tallies w result marks' work' tallies' w' result' answer
  -- where there is no other fault, exactly the words that hold a sound collection are taken up
  pub exactly : length result ≡ stop_word_count → begin_fault c (length marks) (length work) (length tallies) (length w) ≡ 0
      → (answer ≡ 0) ↔ ((s : State) × SavedRun (graph_of c) c.starts c.workers (setting_of c) w s)
  pub promise : answer ≡ 0 → ResumePromise c w marks' work' tallies' w' result'

-- ---- sweep

-- with two result words: the list is upwards, and after a finished collection exactly what no chain reaches
pub record SweepPromise (marks list result : List ℕ) (answer : ℕ) : Type 0 where
  pub row : SweepRow
  pub answers : answer ≡ row.number
  pub told : answer ≡ 0 → result ≡ swept_words row
  pub collection : Collection marks row list

-- ---- deal_seed

-- without a fault: the cards are those that so many draws answer, and each draw is a stretch
pub record DealPromise (s : Seed) (rounds W : ℕ) (schedule : List ℕ) : Type 0 where
  pub draws : (i : ℕ) → i < rounds → drawn (after_draws i s) ≡ Ok (get_or (hand_of rounds s) i 0)
  pub brings : Rounds W rounds schedule

-- ---- import

-- with three result words: it accepts exactly the texts of the form, and reads what they say
pub record ImportPromise (text result : List ℕ) (answer : ℕ) : Type 0 where
  pub row : HeadRow
  pub answers : answer ≡ row.refusal
  pub told : answer ≡ 0 → result ≡ header_words row
  pub accepts : Accepts text row

pub record Imports (text offsets targets sizes result offsets' targets' sizes' result' : List ℕ) (answer : ℕ) : Type 0 where
  pub words : ImportsIn text offsets targets sizes result offsets' targets' sizes' result' answer
  pub promise : length result ≡ 3 → ImportPromise text result' answer
