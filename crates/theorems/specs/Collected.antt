-- What is promised of a collection's turns xs, of the row r that is reported of them, and of the marks and the tallies ts that
-- they leave: demands 2 and 3, and what the notes say of turns. Each call that marks has it in its contract.
use Rattle.std.specs.Prelude.{◌≡◌, List, ℕ, ◌<◌, take}
use Rattle.laws.specs.Sum.{sum}
use Rattle.graph.specs.Graph.{Graph}
use Rattle.graph.specs.Chain.{leaving_reached}
use Rattle.graph.specs.Leaving.{ReachedReferences}
use Rattle.machine.specs.Row.{Row}
use Rattle.machine.specs.Tally.{Tally}
use Rattle.machine.specs.Machine.{Setting, Entry, stopped, carried_all}
use Rattle.machine.specs.Demand2.{outcome, Demand2}
use Rattle.machine.specs.Demand3.{Demand3}
use Rattle.machine.specs.Lamp.{Lamp}
use Rattle.machine.specs.Owners.{Owners}
use Rattle.machine.specs.Tallies.{Tallies}
use Rattle.theorems.specs.Waiting.{Waits}

pub record Collected (G : Graph) (starts : List ℕ) (W : ℕ) (g : Setting) (xs : List Entry) (r : Row) (marks : List ℕ) (ts : List Tally) : Type 0 where
  -- the marks, and the sum of references after every turn
  pub demand2 : Demand2 G starts W g xs r marks
  -- each reference once, the counts, the bounds; and what R is, of which they speak
  pub demand3 : Demand3 G starts W g xs r
  pub R_is : ReachedReferences G starts (leaving_reached G starts)
  -- the count of workers that carry references
  pub lamp : Lamp G starts W g xs r
  -- who claimed what
  pub owners : Owners G starts W g xs r marks
  -- what each worker did
  pub counted : Tallies G starts W g xs r ts
  -- how long an asker waits, from before the first turn and from after each of them on
  pub waits : (k : ℕ) → Waits G W g (outcome G starts W g (take k xs))
  -- a worker ends only while nobody carries references
  pub ended_empty : (k : ℕ) → 0 < sum stopped (outcome G starts W g (take k xs)).workers → carried_all (outcome G starts W g (take k xs)) ≡ 0
