-- The words passed are the bytes.
use Rattle.laws.proofs.Filling.{Filled}
use Rattle.checkpoint.proofs.words.put_bytes.Given as goal

abbrev pub invariant-loop-i : goal.invariant-loop-i
invariant-loop-i l = Filled l.bytes l.i l.out
