use Rattle.std.proofs.Common.{◌-◌}
use Rattle.lookup.proofs.Searching.{Between}
use Rattle.lookup.proofs.find.Given as goal

abbrev pub invariant-loop-low : goal.invariant-loop-low
invariant-loop-low l = Between l.names l.width l.count l.window l.low l.high

abbrev pub decreases-loop-low : goal.decreases-loop-low
decreases-loop-low l = l.high - l.low
