-- The windows passed are sound.
use Rattle.std.proofs.Common.{◌-◌, ◌≤◌, length}
use Rattle.graph.specs.Graph.{graph}
use Rattle.frontier.specs.Windows.{WindowSound}
use Rattle.frontier.proofs.windows.check_windows.Given as goal

abbrev pub invariant-loop-from : goal.invariant-loop-from
invariant-loop-from l = (l.from ≤ length l.targets) × WindowSound (graph l.offsets l.targets) l.marks l.workers l.saved 0 l.from

abbrev pub decreases-loop-from : goal.decreases-loop-from
decreases-loop-from l = l.all - l.from
