-- As long as none was found unmarked, each target passed is marked.
use Rattle.std.proofs.Common.{◌≡◌, true, ◌+◌}
use Rattle.marks.specs.Marks.{RowMarked}
use Rattle.marks.proofs.row_marked.Given as goal

abbrev pub invariant-loop-target : goal.invariant-loop-target
invariant-loop-target l = l.all ≡ true → RowMarked l.targets l.marks l.from (l.from + l.target-index)
