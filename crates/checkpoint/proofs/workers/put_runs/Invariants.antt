-- The words of the workers passed are in the work memory.
use Rattle.checkpoint.specs.Workers.{Puttable}
use Rattle.checkpoint.proofs.Putting.{PutTo}
use Rattle.checkpoint.proofs.workers.put_runs.Given as goal

abbrev pub invariant-loop-b : goal.invariant-loop-b
invariant-loop-b l = (x : Puttable l.stretches l.regs l.initial.work l.workers l.len) → PutTo x l.b l.work
