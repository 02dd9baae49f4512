-- `print::put_digits`: the digits so far stand behind their place.
use Rattle.matrix.proofs.Decimals.{Printing}
use Rattle.print.proofs.put_digits.Given as goal

abbrev pub invariant-loop-k : goal.invariant-loop-k
invariant-loop-k g l = Printing l.initial.out l.at g.row.N l.v l.k l.left l.out
