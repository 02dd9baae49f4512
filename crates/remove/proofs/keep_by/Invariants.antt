-- each window comes further or to the last object
use Rattle.std.proofs.Common.{◌+◌, ◌-◌, length}
use Rattle.changes.specs.Stores.{stays}
use Rattle.changes.specs.Taking.{KeptTo}
use Rattle.remove.proofs.keep_by.Given as goal

abbrev pub invariant-loop-done : goal.invariant-loop-done
invariant-loop-done l =
    KeptTo (stays l.numbers) l.offsets l.targets l.bounds l.places l.done.reference l.done.object l.done.place

abbrev pub decreases-loop-done : goal.decreases-loop-done
decreases-loop-done l = length l.targets - l.done.reference + (length l.offsets - l.done.object)
