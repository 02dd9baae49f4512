use Rattle.checkpoint.proofs.Running.{counting_none, counting_next}
use Rattle.checkpoint.proofs.restore.running.Goals as goal

pub loop-b-init : goal.loop-b-init
loop-b-init c = counting_none _

pub loop-b-preserved : goal.loop-b-preserved
loop-b-preserved c = counting_next c.loop-b.invariant c.from-count.ensures
