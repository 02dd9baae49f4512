-- SPECIFICATION 4.1: runs of references, which workers carry; what is carried is the number of references in them.
use Rattle.std.specs.Prelude.{ℕ, zero, suc, ◌+◌, ◌-◌, ◌/◌, List, [], ◌∷◌, ◌++◌, ltb}
use Rattle.laws.specs.Choice.{pick}
use Rattle.laws.specs.Sum.{sum}
use Rattle.graph.specs.Graph.{Graph, first, degree}

-- run f k: the k + 1 references from number f on; a run is never empty
pub data Run : Type 0 where
  run : ℕ → ℕ → Run

-- the k references from f on, as runs: none where k is 0
abbrev pub run_from : ℕ → ℕ → List Run
run_from f zero = []
run_from f (suc k) = run f k ∷ []

-- how many references a run holds
abbrev pub size : Run → ℕ
size (run f k) = suc k

-- how many references runs hold together
unfoldable pub carried : List Run → ℕ
unfolding sum
carried rs = sum size rs

-- object v's run: its references in order; an object without references has none
abbrev pub leaving : Graph → ℕ → List Run
leaving G v = run_from (first G v) (degree G v)

-- the first k references of runs
unfoldable pub keep : ℕ → List Run → List Run
keep k [] = []
keep k (run f j ∷ rs) = pick (ltb j k) (run f j ∷ keep (k - suc j) rs) (run_from f k)

-- what is left of runs behind their first k references; a run may be cut
unfoldable pub rest : ℕ → List Run → List Run
rest k [] = []
rest k (run f j ∷ rs) = pick (ltb j k) (rest (k - suc j) rs) (run_from (f + k) (suc j - k) ++ rs)

-- half of the references, rounded up
abbrev pub half : ℕ → ℕ
half c = (c + 1) / 2

-- a run in the work memory: its first reference, and where it ends (excluded)
abbrev pub pair : Run → List ℕ
pair (run f k) = f ∷ (f + suc k) ∷ []

-- the pairs of runs, the run to be followed last standing first
unfoldable pub pairs : List Run → List ℕ
pairs [] = []
pairs (r ∷ rs) = pairs rs ++ pair r
