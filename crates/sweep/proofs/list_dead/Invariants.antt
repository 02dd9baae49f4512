-- Block by block it is kept where the pass stands.
use Rattle.std.proofs.Common.{◌-◌, length}
use Rattle.sweep.specs.Sweep.{At}
use Rattle.sweep.proofs.list_dead.Given as goal

abbrev pub invariant-loop-from : goal.invariant-loop-from
invariant-loop-from l = At l.marks l.sizes l.initial.list l.list l.found.count l.found.freed l.from

abbrev pub decreases-loop-from : goal.decreases-loop-from
decreases-loop-from l = length l.marks - l.from
