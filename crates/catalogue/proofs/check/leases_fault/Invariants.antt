-- So many leases may still come, and what is left to check is the answer.
use Rattle.std.proofs.Common.{◌-◌}
use Rattle.catalogue.proofs.Leases.{Leases}
use Rattle.catalogue.proofs.check.leases_fault.Given as goal

abbrev pub invariant-loop-k : goal.invariant-loop-k
invariant-loop-k l = Leases l.n l.bytes l.from l.at (256 - l.k)
