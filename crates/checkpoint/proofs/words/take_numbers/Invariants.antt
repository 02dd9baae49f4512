-- The numbers passed are taken.
use Rattle.std.proofs.Common.{length}
use Rattle.checkpoint.proofs.Numbers.{Taking}
use Rattle.checkpoint.proofs.words.take_numbers.Given as goal

abbrev pub invariant-loop-i : goal.invariant-loop-i
invariant-loop-i l = Taking l.words (length l.initial.out) l.i l.out
