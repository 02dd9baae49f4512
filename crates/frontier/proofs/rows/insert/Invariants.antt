-- The numbers passed are in the set besides.
use Rattle.std.proofs.Common.{◌-◌}
use Rattle.frontier.proofs.RowLaws.{RowAt}
use Rattle.frontier.proofs.rows.insert.Given as goal

abbrev pub invariant-loop-i : goal.invariant-loop-i
invariant-loop-i l = RowAt l.initial.words l.from l.to l.i l.words

abbrev pub decreases-loop-i : goal.decreases-loop-i
decreases-loop-i l = l.to - l.i
