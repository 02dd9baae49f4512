-- Demand 2 of the marker, over the turns xs and what is reported of them, the row r and the marks: in a finished
-- collection a mark is set exactly where a chain leads (SPECIFICATION 3); and the sum of SPECIFICATION 4.3 after every turn.
use Rattle.std.specs.Prelude.{◌≡◌, true, List, ◌↔◌, ℕ, ◌+◌, length, take}
use Rattle.graph.specs.Graph.{Graph, objects, references}
use Rattle.graph.specs.Chain.{Reach}
use Rattle.graph.specs.Leaving.{leaving_unmarked}
use Rattle.machine.specs.Machine.{Setting, State, Entry, start, turns, carried_all, live, result}
use Rattle.machine.specs.Row.{Row}
use Rattle.machine.specs.Accepted.{Accepted}
use Rattle.machine.specs.Sound.{Marked}

-- what a call's turns leave
abbrev pub outcome : Graph → List ℕ → ℕ → Setting → List Entry → State
outcome G starts W g xs = turns G g (start G starts W) xs

-- the marks are those that a finished collection of this graph leaves, under some W, setting and turns
pub record FinishedMarks (G : Graph) (starts marks : List ℕ) : Type 0 where
  pub workers : ℕ
  pub setting : Setting
  pub turns : List Entry
  pub accepted : Accepted G starts workers setting
  pub finished : (result (outcome G starts workers setting turns)).finished ≡ true
  pub marks_are : marks ≡ (outcome G starts workers setting turns).marks

-- the marks are set exactly where a chain leads, whatever their values: those of a finished collection are, and those that adding and taking
-- out references leave
pub record LiveMarks (G : Graph) (starts marks : List ℕ) : Type 0 where
  pub long : length marks ≡ objects G
  pub exactly : (v : ℕ) → Marked marks v ↔ Reach G starts v

pub record Demand2 (G : Graph) (starts : List ℕ) (W : ℕ) (g : Setting) (xs : List Entry) (r : Row) (marks : List ℕ) : Type 0 where
  -- finished: an object is marked if and only if a chain leads to it from a start
  pub marked_exactly : r.finished ≡ true → (v : ℕ) → Marked marks v ↔ Reach G starts v
  -- finished or not: only then
  pub marked_only : (v : ℕ) → Marked marks v → Reach G starts v
  -- live is the number of marks set
  pub live_marks : r.counts.live ≡ live marks
  -- after every turn: followed, what all carry, and what leaves unmarked objects make m
  pub sums : (k : ℕ)
      → (outcome G starts W g (take k xs)).counts.followed
      + carried_all (outcome G starts W g (take k xs))
      + leaving_unmarked G (outcome G starts W g (take k xs)).marks
      ≡ references G
