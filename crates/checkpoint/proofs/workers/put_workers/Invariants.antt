-- The words of the workers passed are there.
use Rattle.checkpoint.specs.Workers.{Recorded}
use Rattle.checkpoint.proofs.Records.{Putting}
use Rattle.checkpoint.proofs.workers.put_workers.Given as goal

abbrev pub invariant-loop-b : goal.invariant-loop-b
invariant-loop-b l = (x : Recorded l.regs l.workers) → Putting x l.b l.out
