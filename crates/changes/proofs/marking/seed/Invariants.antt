-- before each turn the pairs so far were looked at
use Rattle.std.proofs.Common.{length}
use Rattle.changes.proofs.Seeding.{Seeding}
use Rattle.changes.proofs.marking.seed.Given as goal

abbrev pub invariant-loop-source : goal.invariant-loop-source
invariant-loop-source l = Seeding l.from l.to l.fn.marks l.fn.list l.marks l.list l.count (length l.yielded)
