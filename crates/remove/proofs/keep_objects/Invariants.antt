-- the offsets of the objects passed are written
use Rattle.changes.proofs.Keeping.{ObjectsTo}
use Rattle.remove.proofs.keep_objects.Given as goal

abbrev pub invariant-loop-v : goal.invariant-loop-v
invariant-loop-v l =
    ObjectsTo l.offsets l.targets l.taken l.fn.bounds l.fn.places l.base l.object l.initial.at l.end l.bounds l.places l.e l.v l.at
