-- Before the start at an index, those before it are gathered.
use Rattle.std.proofs.Common.{take}
use Rattle.marker.specs.Starting.{Gatherable, IsGathered}
use Rattle.marker.proofs.start.gather.Given as goal

abbrev pub invariant-loop-v : goal.invariant-loop-v
invariant-loop-v l =
    (x : Gatherable l.offsets l.starts l.initial.marks l.initial.s) → IsGathered x.graph (take l.v-index l.starts) l.marks l.s l.t
