-- What saving asks and leaves: the buffers and the registers hold a state, and afterwards the words are those of that state.
use Rattle.std.specs.Prelude.{ℕ, ◌^◌, ◌≤◌, ◌<◌, ◌≡◌, List, [], ◌∷◌, ◌++◌, length, take, drop}
use Rattle.graph.specs.Limits.{most_objects}
use Rattle.desk.specs.Limits.{most_workers}
use Rattle.desk.specs.Lengths.{saved_form, saved_length}
use Rattle.machine.specs.declared.Counts.{Counts}
use Rattle.laws.specs.Blocks.{laid}
use Rattle.machine.specs.Row.{count_words}
use Rattle.machine.specs.Tally.{tallies_words}
use Rattle.machine.specs.Machine.{State}
use Rattle.saved.specs.Layout.{two_words, saved_words, Shaped}
use Rattle.step.specs.declared.ring.Ring.{Ring}
use Rattle.step.specs.Ringing.{ring_of}
use Rattle.machine.specs.Machine as machine
use Rattle.step.specs.Counting.{Countable, counts_of}
use Rattle.step.specs.Held.{Memory}
use Rattle.checkpoint.specs.Workers.{Recorded}

-- the list with a part written from a place on
abbrev pub placed : ℕ → List ℕ → List ℕ → List ℕ
placed at part l = take at l ++ (part ++ drop (length part) (drop at l))

-- a list of so many words begins so
pub record Begins (n : ℕ) (pre l : List ℕ) : Type 0 where
  pub long : length l ≡ n
  pub is : take (length pre) l ≡ pre

-- the number of the form, the counts and the numbers of the ring
abbrev pub head_words : Counts → Ring → List ℕ
head_words c r = saved_form ∷ (laid two_words (count_words c) ++ (r.holder ∷ r.token ∷ r.black ∷ []))

-- the ring's numbers are words
pub record Narrow (r : Ring) : Type 0 where
  pub holder : r.holder < 2 ^ 32
  pub token : r.token < 2 ^ 32
  pub black : r.black < 2 ^ 32

-- the buffers, the registers and the progress are those of a state, and there is room for its words
pub record Savable (W : ℕ) (μ : Memory) (w : List ℕ) : Type 0 where
  pub objects : ℕ
  pub state : State
  pub few : W ≤ most_workers
  pub objects_limit : objects ≤ most_objects
  pub shaped : Shaped objects W state
  pub long : length w ≡ saved_length objects W
  pub marks_are : μ.marks ≡ state.marks
  pub work_is : μ.work ≡ machine.memory objects state.workers
  pub tallies_are : μ.tallies ≡ tallies_words state.tallies
  pub countable : Countable μ.tallies W μ.progress
  pub counts_are : counts_of μ.progress countable.tallies ≡ state.counts
  pub ring_is : μ.progress.ring ≡ ring_of state.ring
  pub holder_low : state.ring.holder < W
  pub recorded : Recorded μ.regs W
  pub workers_are : recorded.workers ≡ state.workers
  pub rested_are : recorded.rested ≡ state.rested

abbrev pub Saves : ℕ → Memory → List ℕ → List ℕ → Type 0
Saves W μ w w' = (x : Savable W μ w) → w' ≡ saved_words x.objects x.state
