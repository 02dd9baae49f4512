-- with each object taken off the list, those on it and those unmarked are one fewer
use Rattle.std.proofs.Common.{◌+◌}
use Rattle.graph.specs.Graph.{graph}
use Rattle.changes.specs.Marking.{unmarked}
use Rattle.changes.proofs.Following.{FollowAt}
use Rattle.changes.proofs.marking.follow.Given as goal

abbrev pub invariant-loop-count : goal.invariant-loop-count
invariant-loop-count l = FollowAt (graph l.offsets l.targets) l.fn.marks l.fn.list l.top l.marks l.list l.count

abbrev pub decreases-loop-count : goal.decreases-loop-count
decreases-loop-count l = l.count + unmarked l.marks
