-- What is carried is followed in parts, until nothing is left.
use Rattle.std.proofs.Common.{◌+◌, ◌-◌, ◌*◌, length}
use Rattle.graph.specs.Graph.{graph}
use Rattle.step.specs.Held.{setting_of, memory}
use Rattle.step.specs.Turned.{Ready}
use Rattle.rounds.specs.Whole.{IsStart}
use Rattle.alone.specs.Alone.{Going}
use Rattle.alone.proofs.take_turns.Given as goal

abbrev pub invariant-loop-top : goal.invariant-loop-top
invariant-loop-top l =
    (x : Ready (IsStart l.begun.setup l.offsets l.targets) l.begun.setup
    (memory l.initial.marks l.initial.work l.tallies l.regs l.begun.progress))
    → Going (graph l.offsets l.targets) x.here.starts (setting_of l.begun.setup) l.marks l.work l.top l.load l.followed l.won

abbrev pub decreases-loop-top : goal.decreases-loop-top
decreases-loop-top l = 7 * length l.targets + 2 - (l.followed + l.won + l.load.polls)
