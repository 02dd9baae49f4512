-- The workers passed have sound words, and are counted.
use Rattle.protocol.proofs.HeadLaws.{HeadsAt}
use Rattle.protocol.proofs.heads.check_heads.Given as goal

abbrev pub invariant-loop-b : goal.invariant-loop-b
invariant-loop-b l = HeadsAt l.workers l.most l.saved l.ended l.since l.b
