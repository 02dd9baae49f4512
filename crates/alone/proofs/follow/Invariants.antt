-- The references passed are followed.
use Rattle.alone.specs.Alone.{PartReady, PartDone}
use Rattle.alone.proofs.follow.Given as goal

abbrev pub invariant-loop-v : goal.invariant-loop-v
invariant-loop-v l =
    (x : PartReady l.offsets l.targets l.initial.marks l.initial.s l.fn.part.first l.fn.part.size l.fn.part.used)
    → PartDone x l.v-index l.marks l.s l.found
