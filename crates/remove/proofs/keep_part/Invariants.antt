-- those below number e that stay are written
use Rattle.changes.proofs.Keeping.{PartTo}
use Rattle.remove.proofs.keep_part.Given as goal

abbrev pub invariant-loop-e : goal.invariant-loop-e
invariant-loop-e l = PartTo l.targets l.taken l.fn.places l.base l.from l.to l.place l.places l.at l.e
