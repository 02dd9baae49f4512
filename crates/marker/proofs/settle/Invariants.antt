-- The stretches of the workers passed are written out, and the others are as they were.
use Rattle.marker.specs.Stages.{Settling}
use Rattle.marker.proofs.Settling.{SettledTo}
use Rattle.marker.proofs.settle.Given as goal

abbrev pub invariant-loop-b : goal.invariant-loop-b
invariant-loop-b l = (x : Settling l.workers l.len l.initial.work l.regs) → SettledTo x l.b l.work
