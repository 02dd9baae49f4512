-- The objects passed hold up to the row of marked ones before the next.
use Rattle.std.proofs.Common.{◌-◌, ◌≤◌}
use Rattle.marks.proofs.MarkLaws.{RowsAt}
use Rattle.marks.proofs.targets_marked.Given as goal

abbrev pub invariant-loop-v : goal.invariant-loop-v
invariant-loop-v l = (l.v ≤ l.last) × RowsAt l.offsets l.targets l.marks l.carried l.fn.window l.from l.v

abbrev pub decreases-loop-v : goal.decreases-loop-v
decreases-loop-v l = l.last - l.v
