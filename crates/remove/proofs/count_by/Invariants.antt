-- the numbers below the windows passed are counted
use Rattle.std.proofs.Common.{◌≡◌, ◌≤◌, ◌-◌}
use Rattle.changes.specs.Stores.{distinct}
use Rattle.remove.proofs.count_by.Given as goal

abbrev pub invariant-loop-from : goal.invariant-loop-from
invariant-loop-from l = record {
  within : l.from ≤ l.m;
  count_is : l.count ≡ distinct l.numbers l.from;
  count_low : l.count ≤ l.from;
}

abbrev pub decreases-loop-from : goal.decreases-loop-from
decreases-loop-from l = l.m - l.from
