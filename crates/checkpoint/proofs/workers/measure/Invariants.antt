-- The pairs passed are counted, and their references.
use Rattle.std.proofs.Common.{◌*◌}
use Rattle.checkpoint.proofs.Records.{Going}
use Rattle.checkpoint.proofs.workers.measure.Given as goal

abbrev pub invariant-loop-i : goal.invariant-loop-i
invariant-loop-i l = Going l.s (2 * l.i) l.carried
