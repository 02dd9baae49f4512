-- What is left to check is the answer.
use Rattle.catalogue.proofs.Checking.{Checking}
use Rattle.catalogue.proofs.check.first_fault.Given as goal

abbrev pub invariant-loop-i : goal.invariant-loop-i
invariant-loop-i l = Checking l.n l.m l.bytes l.i l.at
