-- One worker's stretch of the work memory, and what the functions on it promise (SPECIFICATION 4.5).
use Rattle.std.specs.Prelude.{ℕ, suc, ◌+◌, ◌-◌, ◌*◌, ◌≤◌, ◌<◌, ◌^◌, ◌≡◌, Bool, not, ◌||◌, List, [], ◌∷◌, ◌++◌, length, get_or, set, take, drop, replicate, ltb}
use Rattle.laws.specs.Choice.{pick}
use Rattle.machine.specs.Run.{Run, run, run_from, carried, keep, rest, pairs}
use Rattle.worker.specs.declared.stretch.Top.{Top}

-- so many words of a stretch are the pairs of these runs
pub record Holds (s : List ℕ) (used : ℕ) (rs : List Run) : Type 0 where
  pub words : take used s ≡ pairs rs
  pub count : used ≡ 2 * length rs
  pub room : used ≤ length s

-- ---- the run being followed

abbrev pub top_with : ℕ → ℕ → ℕ → Top
top_with used first end = record { used = used; first = first; end = end }

-- the words of runs: the first stands in the top, the others in the stretch
abbrev pub TopIs : List Run → Top → Type 0
TopIs [] t = t ≡ top_with 0 0 0
TopIs (run f j ∷ rs) t = t ≡ top_with (2 * length rs) f (f + suc j)

-- the runs below the first
abbrev pub below : List Run → List Run
below [] = []
below (r ∷ rs) = rs

-- runs in words: the first in the top, the others in the stretch
pub record Told (rs : List Run) (t : Top) (s : List ℕ) : Type 0 where
  pub top : TopIs rs t
  pub holds : Holds s (2 * length (below rs)) (below rs)

-- a run to follow, and room for one more pair
pub record Nextable (s : List ℕ) (t : Top) : Type 0 where
  pub room : t.used + 2 ≤ length s
  pub small : t.used + 2 < 2 ^ 32
  pub fits : t.first + 1 < 2 ^ 32

-- whether something is left after one reference is taken off, where the run from f to g opens
abbrev pub goes_on : Top → ℕ → ℕ → Bool
goes_on t f g = ltb (t.first + 1) t.end || ltb f g || not (ltb t.used 2)

-- the next run comes up, or there is none
abbrev pub popped : List ℕ → Top → Top
popped s t =
    pick (ltb t.used 2) (top_with 0 0 0) (top_with (t.used - 2) (get_or s (t.used - 2) 0) (get_or s (t.used - 2 + 1) 0))

-- the top after one reference is taken off, where the run from f to g opens
abbrev pub next_top : List ℕ → Top → ℕ → ℕ → Top
next_top s t f g =
    pick (ltb (t.first + 1) t.end)
    (pick (ltb f g) (top_with (t.used + 2) (t.first + 1) t.end) (top_with t.used (t.first + 1) t.end))
    (pick (ltb f g) (top_with t.used f g) (popped s t))

-- the words then: the run that opens is pushed where something is left of the run being followed
abbrev pub next_words : List ℕ → Top → ℕ → ℕ → List ℕ
next_words s t f g =
    pick (ltb (t.first + 1) t.end) (pick (ltb f g) (set (set s t.used f) (t.used + 1) g) s) s

-- ---- the start

-- the pairs of these runs stand at the end of the stretch, from `at` on
pub record EndsWith (s : List ℕ) (at : ℕ) (rs : List Run) : Type 0 where
  pub words : drop at s ≡ pairs rs
  pub place : at + 2 * length rs ≡ length s

-- some runs stand there
pub record Lowerable (s : List ℕ) (at : ℕ) : Type 0 where
  pub runs : List Run
  pub ends : EndsWith s at runs
  pub some : 0 < length runs
  pub small : length s < 2 ^ 32

-- what `lower` leaves
pub record Lowered (s : List ℕ) (at : ℕ) (s' : List ℕ) (t : Top) : Type 0 where
  pub told : (rs : List Run) → EndsWith s at rs → 0 < length rs → Told rs t s'

-- ---- sharing

-- runs in words, of whose references the first k are kept and the others, at least one, are handed over
pub record Sharing (s : List ℕ) (t : Top) (k others : ℕ) : Type 0 where
  pub runs : List Run
  pub told : Told runs t s
  pub some : 1 ≤ others
  pub number : carried runs ≡ k + others

-- runs in words, of whose references the first run holds the first k, and there are more
pub record InFront (s : List ℕ) (t : Top) (k : ℕ) : Type 0 where
  pub runs : List Run
  pub told : Told runs t s
  pub enough : k < carried runs
  pub short : k ≤ t.end - t.first

-- where the first k references of runs end: after the runs above, and `left` references into `run first more`,
-- whose pair ends at `place`
pub record Split (rs : List Run) (k place left : ℕ) : Type 0 where
  pub above : List Run
  pub first : ℕ
  pub more : ℕ
  pub below : List Run
  pub whole : rs ≡ above ++ (run first more ∷ below)
  pub at : place ≡ 2 * suc (length below)
  pub short : left ≤ more
  pub front : keep k rs ≡ above ++ run_from first left
  pub back : rest k rs ≡ run (first + left) (more - left) ∷ below

-- a stretch that holds more than k references
pub record Cuttable (s : List ℕ) (used k : ℕ) : Type 0 where
  pub runs : List Run
  pub holds : Holds s used runs
  pub enough : k < carried runs

-- what `find_cut` finds
pub record CutFound (s : List ℕ) (used k place left : ℕ) : Type 0 where
  pub split : (rs : List Run) → Holds s used rs → k < carried rs → Split rs k place left

-- a stretch that is cut
pub record Cleft (s : List ℕ) (used place left : ℕ) : Type 0 where
  pub runs : List Run
  pub k : ℕ
  pub holds : Holds s used runs
  pub split : Split runs k place left
  pub low : 2 ≤ place
  pub high : place ≤ used
  pub fits : split.first + left < 2 ^ 32

-- what `keep_above` leaves
pub record KeptAbove (s : List ℕ) (used place left : ℕ) (s' : List ℕ) (r : ℕ) : Type 0 where
  pub holds : (rs : List Run) (k : ℕ) → Holds s used rs → Split rs k place left → Holds s' r (keep k rs)

-- ---- the end of a call

-- the stretch written out: all pairs, then zeros
abbrev pub settled : List ℕ → Top → List ℕ
settled s t =
    pick (ltb t.first t.end)
    (take t.used s ++ (t.first ∷ t.end ∷ replicate (length s - (t.used + 2)) 0))
    (replicate (length s) 0)
