-- What is left of the runs makes up the whole.
use Rattle.frontier.proofs.WindowLaws.{TakenAt}
use Rattle.frontier.proofs.windows.carry_runs.Given as goal

abbrev pub invariant-loop-from : goal.invariant-loop-from
invariant-loop-from l = TakenAt l.base l.end l.initial.carried l.stretch l.from-index l.carried
