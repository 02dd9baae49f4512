-- SPECIFICATION 4.6, the count of workers that carry references: it is that number after every turn. It is reported, and no
-- turn reads it.
use Rattle.std.specs.Prelude.{◌≡◌, refl, true, List, [], ◌∷◌, map, ℕ, take}
use Rattle.laws.specs.Sum.{sum}
use Rattle.graph.specs.Graph.{Graph}
use Rattle.graph.specs.Chain.{marks_at}
use Rattle.machine.specs.declared.Counts.{Counts}
use Rattle.machine.specs.Row.{Row}
use Rattle.machine.specs.Run.{carried, keep, rest}
use Rattle.machine.specs.Machine.{Setting, State, Entry, carries?, live, start_runs, start, turn, turns, entries}
use Rattle.machine.specs.Demand2.{outcome}
use Rattle.machine.specs.Drawings.{S, turns_A}

-- the state with other counts
abbrev pub recounted : Counts → State → State
recounted c s =
    record { marks = s.marks; workers = s.workers; rested = s.rested; ring = s.ring; tallies = s.tallies; counts = c }

pub record Lamp (G : Graph) (starts : List ℕ) (W : ℕ) (g : Setting) (xs : List Entry) (r : Row) : Type 0 where
  -- before the first turn, and after every one: the number of workers that carry references
  pub counted : (k : ℕ) → (outcome G starts W g (take k xs)).counts.carrying ≡ sum carries? (outcome G starts W g (take k xs)).workers
  -- what is reported is that after the last
  pub reported : r.counts.carrying ≡ sum carries? (outcome G starts W g xs).workers
  -- finished: nobody carries anything
  pub finished_none : r.finished ≡ true → r.counts.carrying ≡ 0
  -- a turn does not read the counts, this one or another: with others it leaves the same marks, workers, ring and tallies
  pub unread : (s : State) (c : Counts) (x : Entry) → recounted c (turn G g (recounted c s) x) ≡ recounted c (turn G g s x)

-- the count before case A's first turn and after each: the hand-over of its fifth turn counts from that turn on, and taking
-- it up in the sixth counts nobody again
pub lamp_A :
    map (λ (k : ℕ). (outcome S (0 ∷ []) 2 (record { batch = 1; cutoff = 1 }) (take k (entries turns_A))).counts.carrying)
    (0 ∷ 1 ∷ 2 ∷ 3 ∷ 4 ∷ 5 ∷ 6 ∷ 7 ∷ 8 ∷ 9 ∷ 10 ∷ 11 ∷ 12 ∷ 13 ∷ 14 ∷ 15 ∷ 16 ∷ 17 ∷ 18 ∷ 19 ∷ 20 ∷ [])
    ≡ 1 ∷ 1 ∷ 1 ∷ 1 ∷ 1 ∷ 2 ∷ 2 ∷ 2 ∷ 2 ∷ 2 ∷ 2 ∷ 2 ∷ 2 ∷ 2 ∷ 1 ∷ 1 ∷ 0 ∷ 0 ∷ 0 ∷ 0 ∷ 0 ∷ []
unfolding turns start entries turns_A live start_runs carried marks_at keep rest
lamp_A = refl
