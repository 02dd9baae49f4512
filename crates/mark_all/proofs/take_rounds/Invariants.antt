-- After each round the memories hold the state after so many.
use Rattle.std.proofs.Common.{◌+◌, ◌-◌, ◌*◌, length}
use Rattle.step.specs.Held.{memory}
use Rattle.step.specs.Turned.{Ready}
use Rattle.rounds.specs.Whole.{IsStart}
use Rattle.mark_all.proofs.Taking.{RoundsAt}
use Rattle.mark_all.proofs.take_rounds.Given as goal

abbrev pub invariant-loop-p : goal.invariant-loop-p
invariant-loop-p l =
    (x : Ready (IsStart l.setup l.offsets l.targets) l.setup
    (memory l.initial.marks l.initial.work l.initial.tallies l.initial.regs l.initial.p))
    → RoundsAt x l.i (memory l.marks l.work l.tallies l.regs l.p)

abbrev pub decreases-loop-p : goal.decreases-loop-p
decreases-loop-p l = 7 * length l.targets + 4 * l.workers + 2 - l.i
