-- The bytes passed are the words.
use Rattle.laws.proofs.Filling.{Filled}
use Rattle.checkpoint.proofs.words.take_bytes.Given as goal

abbrev pub invariant-loop-i : goal.invariant-loop-i
invariant-loop-i l = Filled l.words l.i l.out
