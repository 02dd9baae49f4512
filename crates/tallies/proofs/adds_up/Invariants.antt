-- What is left and the tallies passed make the total.
use Rattle.std.proofs.Common.{◌≡◌, ◌+◌}
use Rattle.tallies.specs.Counts.{tally_sum}
use Rattle.tallies.proofs.adds_up.Given as goal

abbrev pub invariant-loop-b : goal.invariant-loop-b
invariant-loop-b l = l.left + tally_sum l.workers l.saved l.k l.b ≡ l.total
