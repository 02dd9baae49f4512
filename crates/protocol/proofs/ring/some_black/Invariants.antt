-- None of the bits passed is set.
use Rattle.std.proofs.Common.{◌≡◌}
use Rattle.protocol.specs.Ring.{black_bits}
use Rattle.protocol.proofs.ring.some_black.Given as goal

abbrev pub invariant-loop-b : goal.invariant-loop-b
invariant-loop-b l = black_bits l.black l.b ≡ 0
