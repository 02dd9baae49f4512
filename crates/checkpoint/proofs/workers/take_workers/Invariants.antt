-- The blocks of the workers passed are there.
use Rattle.checkpoint.specs.Workers.{AllRestorable}
use Rattle.checkpoint.proofs.Restoring.{Taking}
use Rattle.checkpoint.proofs.workers.take_workers.Given as goal

abbrev pub invariant-loop-b : goal.invariant-loop-b
invariant-loop-b l = (x : AllRestorable l.targets l.words l.stretches l.initial.regs l.workers l.len) → Taking x l.b l.regs
