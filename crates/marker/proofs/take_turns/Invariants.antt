-- The turns that are left give the answer.
use Rattle.std.proofs.Common.{◌≡◌}
use Rattle.step.specs.Held.{memory}
use Rattle.step.specs.Turned.{Ready}
use Rattle.marker.specs.Stages.{IsScheduled}
use Rattle.marker.proofs.Loop.{LoopAt}
use Rattle.marker.proofs.take_turns.Given as goal

abbrev pub invariant-loop-pair : goal.invariant-loop-pair
invariant-loop-pair l =
    (l.pair-iterator.size ≡ 2)
    × (goal.iterator-loop-pair).can_next l.pair-iterator
    × (goal.iterator-loop-pair).is_finite l.pair-iterator
    × ((x : Ready (IsScheduled l.setup l.offsets l.targets l.schedule) l.setup
    (memory l.initial.marks l.initial.work l.initial.tallies l.initial.regs l.fn.begun))
    → LoopAt x l.pair-iterator.rest.now (memory l.marks l.work l.tallies l.regs l.p))
