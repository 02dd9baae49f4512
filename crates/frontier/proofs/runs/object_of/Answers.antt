use Rattle.std.proofs.Common.{refl}
use Rattle.frontier.proofs.RunLaws.{between_half}
use Rattle.frontier.proofs.runs.object_of.Goals as goal

pub loop-size-preserved : goal.loop-size-preserved
loop-size-preserved c = between_half c.requires c.loop-size.invariant c.loop-size-test.true refl c.further-low.ensures
