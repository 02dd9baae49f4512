-- No more are passed than were looked at.
use Rattle.std.proofs.Common.{◌≤◌}
use Rattle.frontier.proofs.index.count_on.Given as goal

abbrev pub invariant-loop-offset : goal.invariant-loop-offset
invariant-loop-offset l = l.passed ≤ l.offset-index
