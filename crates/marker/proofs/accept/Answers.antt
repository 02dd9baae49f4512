-- What passes the checks is within its ranges.
use Rattle.std.proofs.Common.{arith}
use Rattle.marker.proofs.Stages.{passed}
use Rattle.marker.proofs.accept.Goals as goal

pub overflow_sub-offsets : goal.overflow_sub-offsets
overflow_sub-offsets c = omega (arith, (passed c.in_ok-check.ensures).offsets_some)

pub setup_of-requires : goal.setup_of-requires
setup_of-requires c = (passed c.in_ok-check.ensures).objects_limit
