-- What the workers passed carry.
use Rattle.graph.specs.Graph.{graph}
use Rattle.frontier.proofs.LoadLaws.{LoadsAt}
use Rattle.frontier.proofs.runs.check_stretches.Given as goal

abbrev pub invariant-loop-b : goal.invariant-loop-b
invariant-loop-b l = LoadsAt (graph l.offsets l.targets) l.marks l.workers l.saved l.carrying l.carried l.b
