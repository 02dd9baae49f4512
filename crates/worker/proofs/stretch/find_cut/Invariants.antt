-- At each turn the runs above `place` are kept whole.
use Rattle.std.proofs.Common.{◌≤◌, ◌<◌, List, length}
use Rattle.machine.specs.Run.{Run, carried}
use Rattle.worker.specs.Stretch.{Holds}
use Rattle.worker.proofs.Cutting.{Inside}
use Rattle.worker.proofs.stretch.find_cut.Given as goal

abbrev pub invariant-loop-left : goal.invariant-loop-left
invariant-loop-left l =
    ((2 ≤ l.place) × ((l.place ≤ l.used) × (l.place ≤ length l.s)))
    × ((rs : List Run) → Holds l.s l.used rs → l.k < carried rs → Inside rs l.k l.place l.left)

abbrev pub decreases-loop-left : goal.decreases-loop-left
decreases-loop-left l = l.place
