-- Drawings of saved collections: store S, two workers, D 1 and K 1, stopped after each of case A's turns.
use Rattle.std.specs.Prelude.{◌≡◌, refl, true, false, List, [], ◌∷◌, map, ℕ, take, set, replicate}
use Rattle.laws.specs.Sum.{hit}
use Rattle.graph.specs.Graph.{well_formed}
use Rattle.graph.specs.Chain.{marks_at, over_marked}
use Rattle.machine.specs.Run.{carried, keep, rest}
use Rattle.machine.specs.Machine.{Setting, State, start, start_runs, turns, entries, live}
use Rattle.machine.specs.Sound.{runs_sum}
use Rattle.desk.specs.Checks.{schedule_fits}
use Rattle.machine.specs.Call.{Call, first_fault}
use Rattle.machine.specs.Demand2.{outcome}
use Rattle.machine.specs.Drawings.{S, turns_A}
use Rattle.saved.specs.Layout.{saved_words, state_of}
use Rattle.saved.specs.Calls.{resume_fault}
use Rattle.saved.specs.Test.{saved?}

-- D and K
abbrev pub one : Setting
one = record { batch = 1; cutoff = 1 }

-- the state after case A's first k turns
abbrev pub after_A : ℕ → State
after_A k = outcome S (0 ∷ []) 2 one (entries (take k turns_A))

abbrev pub words_A : ℕ → List ℕ
words_A k = saved_words 6 (after_A k)

-- so many bytes of the schedule
abbrev pub moments : List ℕ
moments = 0 ∷ 8 ∷ 10 ∷ 12 ∷ 20 ∷ 28 ∷ 36 ∷ 40 ∷ []

-- what is saved there is sound
pub sound_A : map (λ (k : ℕ). saved? S (0 ∷ []) 2 one (words_A k)) moments ≡ true ∷ true ∷ true ∷ true ∷ true ∷ true ∷ true ∷ true ∷ []
unfolding saved? saved_words state_of hit marks_at over_marked carried keep rest start start_runs turns entries live runs_sum turns_A
sound_A = refl

-- no words hold a state whose form is 0, and none whose form is that before there was a ring
pub none_A : saved? S (0 ∷ []) 2 one (set (words_A 10) 0 0) ∷ saved? S (0 ∷ []) 2 one (set (words_A 10) 0 1) ∷ [] ≡ false ∷ false ∷ []
unfolding saved? saved_words
none_A = refl

-- case A's call with another schedule
abbrev pub call_A : List ℕ → Call
call_A schedule = record { offsets = S.offsets; targets = S.targets; starts = 0 ∷ []; workers = 2; batch = 1; cutoff = 1; schedule = schedule }

-- words that hold nothing beside a schedule of odd length: 9; beside one that fits: 14; the words of case A's fifth turn: no fault
pub faults_A :
    resume_fault (call_A (0 ∷ [])) 6 32 8 (replicate 78 0)
    ∷ resume_fault (call_A []) 6 32 8 (replicate 78 0)
    ∷ resume_fault (call_A []) 6 32 8 (words_A 10)
    ∷ resume_fault (call_A []) 6 32 8 (replicate 77 0)
    ∷ []
    ≡ 9 ∷ 14 ∷ 0 ∷ 7 ∷ []
unfolding resume_fault first_fault schedule_fits well_formed saved? saved_words state_of hit marks_at over_marked carried keep rest start start_runs turns entries live runs_sum turns_A
faults_A = refl
