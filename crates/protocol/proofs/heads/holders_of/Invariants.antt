-- The cells passed are counted.
use Rattle.protocol.proofs.HeadLaws.{HoldersAt}
use Rattle.protocol.proofs.heads.holders_of.Given as goal

abbrev pub invariant-loop-b : goal.invariant-loop-b
invariant-loop-b l = HoldersAt l.saved l.workers l.a l.found l.b
