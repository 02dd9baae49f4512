-- The references of the workers passed are in the set.
use Rattle.frontier.proofs.WindowLaws.{AllAt}
use Rattle.frontier.proofs.windows.carry_all.Given as goal

abbrev pub invariant-loop-b : goal.invariant-loop-b
invariant-loop-b l = AllAt l.base l.end l.n l.workers l.saved l.initial.carried l.b l.carried
