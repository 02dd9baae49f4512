-- It holds of the references passed.
use Rattle.std.proofs.Common.{◌-◌, ◌≤◌}
use Rattle.marks.specs.Marks.{PartMarked}
use Rattle.marks.proofs.rows_marked.Given as goal

abbrev pub invariant-loop-e : goal.invariant-loop-e
invariant-loop-e l = (l.from ≤ l.e) × PartMarked l.targets l.marks l.carried l.base l.from l.e

abbrev pub decreases-loop-e : goal.decreases-loop-e
decreases-loop-e l = l.to - l.e
