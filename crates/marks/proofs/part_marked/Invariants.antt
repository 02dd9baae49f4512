-- It holds of the references passed.
use Rattle.marks.specs.Marks.{PartMarked}
use Rattle.marks.proofs.part_marked.Given as goal

abbrev pub invariant-loop-e : goal.invariant-loop-e
invariant-loop-e l = PartMarked l.targets l.marks l.carried l.base l.from l.e
