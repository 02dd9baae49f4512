-- The workers passed that have not ended are counted.
use Rattle.checkpoint.proofs.Running.{Counting}
use Rattle.checkpoint.proofs.restore.running.Given as goal

abbrev pub invariant-loop-b : goal.invariant-loop-b
invariant-loop-b l = Counting l.words l.b l.count
