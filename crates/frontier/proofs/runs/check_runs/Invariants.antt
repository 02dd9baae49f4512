-- The runs of the pairs passed.
use Rattle.graph.specs.Graph.{graph}
use Rattle.frontier.proofs.StretchLaws.{RunsAt}
use Rattle.frontier.proofs.runs.check_runs.Given as goal

abbrev pub invariant-loop-i : goal.invariant-loop-i
invariant-loop-i l = RunsAt (graph l.offsets l.targets) l.marks l.stretch l.carried l.whole l.i
