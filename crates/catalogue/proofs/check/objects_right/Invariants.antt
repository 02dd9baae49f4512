-- As long as all tests were passed no record has a fault.
use Rattle.std.proofs.Common.{◌&&◌}
use Rattle.catalogue.proofs.Checking.{Looking}
use Rattle.catalogue.proofs.check.objects_right.Given as goal

abbrev pub invariant-loop-i : goal.invariant-loop-i
invariant-loop-i l = Looking l.n 0 l.n l.bytes (l.headed && l.small) l.i
