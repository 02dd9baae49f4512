-- those of the numbers so far that lie in the window are gathered
use Rattle.std.proofs.Common.{length}
use Rattle.changes.proofs.Gathering.{GatheredTo}
use Rattle.remove.proofs.gather.Given as goal

abbrev pub invariant-loop-e : goal.invariant-loop-e
invariant-loop-e l = GatheredTo l.numbers l.base l.end (length l.fn.taken) l.taken l.count l.e-index
