-- What a turn is told of worker b.
use Rattle.std.specs.Prelude.{ℕ, ◌<◌, ◌≡◌, List}
use Rattle.graph.specs.Graph.{Graph, graph}
use Rattle.machine.specs.Machine.{State}
use Rattle.step.specs.declared.Setup.{Setup}

-- any worker below W, on what is lent
pub record IsLent (g : Setup) (offsets targets : List ℕ) (b : ℕ) (G : Graph) (s : State) : Type 0 where
  pub graph_is : G ≡ graph offsets targets
  pub low : b < g.workers
