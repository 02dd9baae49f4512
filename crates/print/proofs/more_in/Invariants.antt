-- `print::more_in`: the digits of the targets so far.
use Rattle.matrix.proofs.Texts.{Counting}
use Rattle.print.proofs.more_in.Given as goal

abbrev pub invariant-loop-target : goal.invariant-loop-target
invariant-loop-target l = Counting l.targets l.target-index l.more
