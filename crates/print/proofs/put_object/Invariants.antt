-- `print::put_object`: the lines of the references so far are written.
use Rattle.matrix.proofs.Texts.{Object}
use Rattle.print.proofs.put_object.Given as goal

abbrev pub invariant-loop-target : goal.invariant-loop-target
invariant-loop-target l = Object l.v l.targets l.initial.out l.at l.target-index l.out l.end
