-- The numbers passed are put.
use Rattle.checkpoint.proofs.Numbers.{Putting}
use Rattle.checkpoint.proofs.words.put_numbers.Given as goal

abbrev pub invariant-loop-i : goal.invariant-loop-i
invariant-loop-i l = Putting l.numbers l.i l.out
