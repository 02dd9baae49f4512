-- e lies between two of the offsets.
use Rattle.std.proofs.Common.{◌+◌}
use Rattle.frontier.proofs.RunLaws.{Between}
use Rattle.frontier.proofs.runs.object_of.Given as goal

abbrev pub invariant-loop-size : goal.invariant-loop-size
invariant-loop-size l = Between l.offsets l.e l.low (l.low + l.size)

abbrev pub decreases-loop-size : goal.decreases-loop-size
decreases-loop-size l = l.size
