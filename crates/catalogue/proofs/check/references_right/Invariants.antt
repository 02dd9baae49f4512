-- As long as all tests were passed no record has a fault.
use Rattle.std.proofs.Common.{◌&&◌}
use Rattle.catalogue.proofs.Checking.{Looking}
use Rattle.catalogue.proofs.check.references_right.Given as goal

abbrev pub invariant-loop-i : goal.invariant-loop-i
invariant-loop-i l = Looking l.n l.n l.end l.bytes (l.headed && l.from_below && l.to_below) l.i
