use Rattle.std.proofs.Common.{◌-◌, length}
use Rattle.lookup.proofs.Sliding.{Skipping}
use Rattle.lookup.proofs.next_place.Given as goal

-- no place that was passed may hold a name
abbrev pub invariant-loop-at : goal.invariant-loop-at
invariant-loop-at l = Skipping l.width l.index l.text l.from l.at l.known

abbrev pub decreases-loop-at : goal.decreases-loop-at
decreases-loop-at l = length l.text - l.at
